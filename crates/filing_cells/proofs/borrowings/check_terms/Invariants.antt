-- `check_terms` meets its contract. The loop's invariant: the first terms pass, and the rest of them gives the verdict.
-- Assumes nothing.
use Rattle.answers.proofs.VerdictLaws.{Untried}
use Rattle.filing_cells.specs.BorrowingVerdicts.{term_verdict}
use Rattle.filing_cells.proofs.borrowings.check_terms.Given as goal

abbrev pub invariant-loop-term : goal.invariant-loop-term
invariant-loop-term l = Untried (term_verdict l.cells) 3 l.term
