-- `check_columns` meets its contract. The loop's invariant: the first i cells pass, and the rest of them gives the verdict.
-- Assumes nothing.
use Rattle.answers.proofs.VerdictLaws.{Untried}
use Rattle.filing_cells.proofs.ConditionLaws.{columns_at}
use Rattle.filing_cells.proofs.check_columns.Given as goal

abbrev pub invariant-loop-i : goal.invariant-loop-i
invariant-loop-i l = Untried (columns_at l.cells) 6 l.i
