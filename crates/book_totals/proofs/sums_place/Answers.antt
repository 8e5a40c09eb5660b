-- `sums_place` meets its contract. Assumes nothing.
use borrow.Author.Tests.{le-leb, lt-leb}
use Prim.Native.Nat.{◌/◌}
use mathlib.Core.Path.{◌≡◌, ap}
use Rattle.form.specs.declared.Position.{Position}
use Rattle.form.specs.Cells.{position_at}
use Rattle.form.specs.PlaceOrder.{position_of, is_short, is_long}
use Rattle.book_totals.specs.KeptTotals.{sums_place}
use Rattle.book_totals.proofs.sums_place.Goals as goal

pub returns-then-i-ge2 : goal.returns-then-i-ge2
unfolding sums_place is_short is_long position_of
returns-then-i-ge2 c =
    let row_is : c.position-short.result.row ≡ (position_at (c.args.place / 4)).row = ap (λ (p : Position). p.row) c.position-short.ensures in
    rw (le-leb _ _ c.if-i-ge2.true, row_is)

pub returns-else-i-ge2 : goal.returns-else-i-ge2
unfolding sums_place is_short is_long position_of
returns-else-i-ge2 c =
    let row_is : c.position-short.result.row ≡ (position_at (c.args.place / 4)).row = ap (λ (p : Position). p.row) c.position-short.ensures in
    rw (lt-leb _ _ c.if-i-ge2.false, row_is)
