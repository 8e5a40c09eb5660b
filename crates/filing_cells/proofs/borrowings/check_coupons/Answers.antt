-- `check_coupons` meets its contract. The loop's invariant: the first classes pass, and the rest of them gives the verdict.
-- Assumes nothing.
use mathlib.Core.Path.{◌≡◌, sym, ap, ◌∙◌}
use mathlib.Core.Bool.{true}
use Rattle.form.specs.Borrowings.{coupon_cell}
use Rattle.answers.specs.Verdict.{accepted, refused}
use Rattle.answers.proofs.VerdictLaws.{tried-start, tried_here, tried-next, tried-all, condition-holds, condition-refuses, condition-none}
use Rattle.filing_cells.specs.BorrowingConditions.{coupon_outside}
use Rattle.filing_cells.specs.BorrowingVerdicts.{coupon_verdict, coupons_verdict}
use Rattle.filing_cells.proofs.borrowings.check_coupons.Goals as goal

pub loop-class-init : goal.loop-class-init
loop-class-init c = tried-start _ 8

-- the class's coupon is outside, so that its own verdict is 19 at its coupon cell; the classes before it pass, so that the first refusal
-- of all eight is this one
pub returns-then-coupon_outside : goal.returns-then-coupon_outside
unfolding refused coupons_verdict coupon_verdict
returns-then-coupon_outside c =
    let loop = c.loop-class in
    let cells = c.args.cells.now in
    let class = loop.class in
    let outside : coupon_outside cells class ≡ true = sym c.coupon_outside.ensures ∙ c.if-coupon_outside.true in
    ap (refused 19) c.coupon_cell.ensures
    ∙ condition-holds (coupon_outside cells class) 19 (coupon_cell class) outside
    ∙ tried_here (coupon_verdict cells) 8 class loop.invariant c.loop-class-test.true
    (condition-refuses (coupon_outside cells class) 18 (coupon_cell class) outside)

pub loop-class-preserved : goal.loop-class-preserved
unfolding coupon_verdict
loop-class-preserved c =
    let loop = c.loop-class in
    tried-next (coupon_verdict c.args.cells.now) 8 loop.class loop.invariant c.loop-class-test.true
    (condition-none _ 19 (coupon_cell loop.class) (sym c.coupon_outside.ensures ∙ c.if-coupon_outside.false))

pub returns : goal.returns
unfolding accepted coupons_verdict
returns c = tried-all _ 8 c.loop-class.class c.loop-class.invariant c.loop-class-test.false
