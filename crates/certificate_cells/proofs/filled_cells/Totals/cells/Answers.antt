-- `cells` meets its contract. The loop's invariant: the cells before a number are listed. Assumes nothing.
use native.Mathlib.Omega.{arith}
use mathlib.Core.Path.{sym, ◌∙◌}
use Rattle.certificate_cells.specs.Cells.{form_cell, cell_value}
use Rattle.certificate_cells.specs.Inner.Listing.{accepted_cells}
use Rattle.certificate_cells.proofs.ListingLaws.{listed-some, listed-none, listing_start, listing-room, listing-present, listing-absent, listing-done}
use Rattle.certificate_cells.proofs.filled_cells.Totals.cells.Goals as goal
use Rattle.certificate_cells.proofs.filled_cells.Totals.cells.Goals.{in-Some, in_default}

pub loop-cell-init : goal.loop-cell-init
loop-cell-init c = listing_start _

-- a cell that is handed back has room
pub offset_bounds-cells-count : goal.offset_bounds-cells-count
offset_bounds-cells-count c =
    let l = c.loop-cell in
    let held = listed-some c.args.self.now l.cell c.in-Some.value (sym c.value_of.ensures ∙ c.in-Some.is) in
    omega (arith, listing-room c.args.self.now l.cells l.count l.cell l.invariant c.loop-cell-test.true held.0)

pub bounds-cells-count : goal.bounds-cells-count
bounds-cells-count c =
    let l = c.loop-cell in
    let held = listed-some c.args.self.now l.cell c.in-Some.value (sym c.value_of.ensures ∙ c.in-Some.is) in
    listing-room c.args.self.now l.cells l.count l.cell l.invariant c.loop-cell-test.true held.0

pub overflow_add-count : goal.overflow_add-count
overflow_add-count c =
    let l = c.loop-cell in
    let held = listed-some c.args.self.now l.cell c.in-Some.value (sym c.value_of.ensures ∙ c.in-Some.is) in
    omega (arith, listing-room c.args.self.now l.cells l.count l.cell l.invariant c.loop-cell-test.true held.0)

-- one that is handed back goes to the next entry with its value, one that is not leaves all as it was
pub loop-cell-preserved : goal.loop-cell-preserved
unfolding cell_value form_cell
loop-cell-preserved c =
    let t = c.args.self.now in
    let l = c.loop-cell in
    let below = c.loop-cell-test.true in
    elim c.match-value_of.branch [
      | in-Some w ↦
          let held = listed-some t l.cell w.in-Some.value (sym c.value_of.ensures ∙ w.in-Some.is) in
          rw (w.cells-is, w.count-is) (listing-present t l.cells l.count l.cell l.invariant below _ (rw held.1) held.0)
      | in_default w ↦ rw (w.cells-is, w.count-is)
          (listing-absent t l.cells l.count l.cell l.invariant below (listed-none t l.cell (sym c.value_of.ensures ∙ w.in_default.is)))
    ]

pub returns : goal.returns
unfolding accepted_cells
returns c =
    let l = c.loop-cell in
    let all = listing-done c.args.self.now l.cells l.count l.cell l.invariant c.loop-cell-test.false in
    rw (all.0, all.1)
