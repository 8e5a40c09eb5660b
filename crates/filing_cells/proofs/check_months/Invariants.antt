-- `check_months` meets its contract. The loop's invariant: the first i positions pass, and the rest of them gives the verdict.
-- Assumes nothing.
use Rattle.answers.proofs.VerdictLaws.{Untried}
use Rattle.filing_cells.proofs.ConditionLaws.{months_at}
use Rattle.filing_cells.proofs.check_months.Given as goal

abbrev pub invariant-loop-i : goal.invariant-loop-i
invariant-loop-i l = Untried (months_at l.cells) 9 l.i
