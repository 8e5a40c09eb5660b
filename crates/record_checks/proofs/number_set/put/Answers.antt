-- `put` meets its contract.
-- Assumes nothing.
use Rattle.record_checks.specs.Members.{with_member}
use Rattle.record_checks.proofs.BitLaws.{one_shifted}
use Rattle.record_checks.proofs.number_set.put.Goals as goal

pub returns : goal.returns
unfolding with_member
returns c = rw (one_shifted c.args.n)
