-- `check_coupons` meets its contract. The loop's invariant: the first classes pass, and the rest of them gives the verdict.
-- Assumes nothing.
use Rattle.answers.proofs.VerdictLaws.{Untried}
use Rattle.filing_cells.specs.BorrowingVerdicts.{coupon_verdict}
use Rattle.filing_cells.proofs.borrowings.check_coupons.Given as goal

abbrev pub invariant-loop-class : goal.invariant-loop-class
invariant-loop-class l = Untried (coupon_verdict l.cells) 8 l.class
