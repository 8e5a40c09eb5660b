-- `scan` meets its contract. The loop's invariant: the certificates before k pass, and the sums are theirs. Assumes nothing.
use Rattle.certificates.proofs.ScanLaws.{Scanning}
use Rattle.certificates.proofs.certificate_sums.scan.Given as goal

abbrev pub invariant-loop-k : goal.invariant-loop-k
invariant-loop-k l = Scanning l.valuation l.certificates l.k l.totals
