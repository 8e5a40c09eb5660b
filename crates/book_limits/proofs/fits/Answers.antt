-- `fits` meets its contract: the tests in their order. Assumes nothing.
use native.Mathlib.Omega.{arith}
use borrow.Author.Tests.{lt-ltb, le-leb}
use Prim.Native.Nat.{ℕ}
use mathlib.Core.Path.{ap, ◌∙◌}
use Rattle.form.specs.declared.Position.{Position}
use Rattle.form.specs.Cells.{within_row}
use Rattle.form.specs.PlaceOrder.{sub_balance_count, position_of}
use Rattle.book_limits.specs.PlaceLimits.{fits_place}
use Rattle.book_limits.proofs.fits.Goals as goal

-- the first four tests pass and the months lie outside the row
pub returns-then-not-within_row : goal.returns-then-not-within_row
unfolding fits_place position_of
returns-then-not-within_row c =
    let row = ap (λ (p : Position). p.row) c.position.ensures in
    let within = c.within_row.ensures ∙ ap (λ (r : ℕ). within_row r c.args.months) row in
    rw (
      lt-ltb c.args.place sub_balance_count (omega arith),
      le-leb 1 c.args.balance (omega arith),
      le-leb _ _ c.if-balance-gt-BALANCE_LIMIT.false,
      le-leb _ _ c.if-coupon-gt-COUPON_LIMIT.false,
      ← within,
      c.if-not-within_row.true,
    )

-- all but the last test pass: the answer is that of the penalty
pub returns : goal.returns
unfolding fits_place position_of
returns c =
    let row = ap (λ (p : Position). p.row) c.position.ensures in
    let within = c.within_row.ensures ∙ ap (λ (r : ℕ). within_row r c.args.months) row in
    rw (
      lt-ltb c.args.place sub_balance_count (omega arith),
      le-leb 1 c.args.balance (omega arith),
      le-leb _ _ c.if-balance-gt-BALANCE_LIMIT.false,
      le-leb _ _ c.if-coupon-gt-COUPON_LIMIT.false,
      ← within,
      c.if-not-within_row.false,
      ← c.penalty_within.ensures,
    )
