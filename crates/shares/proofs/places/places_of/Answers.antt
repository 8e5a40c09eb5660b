-- `places_of` meets its contract. The loop's invariant: the places of the positions passed are theirs.
-- Assumes nothing.
use Prim.Native.Nat.{◌+◌, ◌*◌}
use mathlib.Core.Path.{◌≡◌, refl, sym, subst, ◌∙◌}
use native.Mathlib.Omega.{arith}
use lib.Dec.{lit<}
use Rattle.lists.proofs.FillLaws.{fill-all}
use Rattle.filing_cells.specs.ValidCells.{ValidCells}
use Rattle.form.specs.Places.{no_place}
use Rattle.form.specs.PlaceOrder.{sub_balance_count}
use Rattle.shares.specs.Places.{place_at, places_of}
use Rattle.shares.specs.Inner.ShareRows.{RowWithin}
use Rattle.shares.proofs.RowLaws.{row_within}
use Rattle.shares.proofs.PlaceLaws.{place_of, fill-place}
use Rattle.shares.proofs.places.places_of.Goals as goal

pub shares-four-requires : goal.shares-four-requires
shares-four-requires c =
    let valid : ValidCells c.args.cells.now = c.requires.0 in
    subst RowWithin (sym c.row_at-row.ensures) (row_within _ valid c.loop-i.i c.loop-i-test.true)

-- the four places of position i follow one another
pub loop-i-preserved : goal.loop-i-preserved
loop-i-preserved c =
    let valid : ValidCells c.args.cells.now = c.requires.0 in
    let cells = c.args.cells.now in
    let loop = c.loop-i in
    let i = loop.i in
    let place = place_of cells valid i c.loop-i-test.true _ c.row_at-row.ensures _ c.shares-four.ensures in
    fill-place cells (4 * i + 3) (4 * (i + 1)) _ _ (omega arith) (omega arith) (c.place-in-loop-i-3.ensures ∙ place 3 (4 * i + 3) refl (lit< tt))
    (fill-place cells (4 * i + 2) (4 * i + 3) _ _ (omega arith) (omega arith) (c.place-in-loop-i-2.ensures ∙ place 2 (4 * i + 2) refl (lit< tt))
    (fill-place cells (4 * i + 1) (4 * i + 2) _ _ (omega arith) (omega arith) (c.place-in-loop-i.ensures ∙ place 1 (4 * i + 1) refl (lit< tt))
    (fill-place cells (4 * i) (4 * i + 1) _ _ refl (omega arith) (c.place.ensures ∙ place 0 (4 * i) (omega arith) (lit< tt)) loop.invariant)))

pub returns : goal.returns
unfolding places_of
returns c =
    let e : 4 * c.loop-i.i ≡ sub_balance_count = omega arith in
    fill-all (place_at _) no_place sub_balance_count _ (rw e at c.loop-i.invariant)
