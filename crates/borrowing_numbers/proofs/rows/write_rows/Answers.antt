-- `write_rows` meets its contract. The loop's invariant: the rows of the borrowings so far are written. Assumes nothing.
use Prim.Native.Nat.{◌+◌, ◌*◌, ◌<◌}
use native.Mathlib.Omega.{arith}
use mathlib.Core.Path.{◌≡◌, ◌∙◌}
use mathlib.Core.List.{[]}
use Rattle.lists.specs.Tables.{table_from, joined}
use Rattle.lists.proofs.RunLaws.{overwritten-none, overwritten-row}
use Rattle.form.specs.Borrowings.{borrowing_count}
use Rattle.form.specs.Counts.{place_number_count}
use Rattle.filing_contents.specs.Contents.{libor_in}
use Rattle.pricing.specs.Rounding.{down, up}
use Rattle.price_factors.proofs.FactorLaws.{factors-at-most-par}
use Rattle.borrowing_numbers.specs.Numbers.{borrowing_numbers}
use Rattle.borrowing_numbers.proofs.NumberLaws.{row-length}
use Rattle.borrowing_numbers.proofs.RowLaws.{Tables, tables-made, table-row}
use Rattle.borrowing_numbers.proofs.rows.write_rows.Goals as goal

pub loop-i-init : goal.loop-i-init
unfolding table_from joined
loop-i-init c = overwritten-none _

pub row_of-row-requires : goal.row_of-row-requires
row_of-row-requires c =
    let prepared : Tables c.args.cells.now (libor_in c.args.sheets.now) c.fill_factors.new.lower c.fill_factors.new.upper = tables-made _ _ _ _ _ c.longest_term-longest.ensures (rw c.row_used-libor.ensures.0 at c.fill_factors.ensures.0) (rw c.row_used-libor.ensures.0 at c.fill_factors.ensures.1) in
    let p = c.requires in
    let tables = prepared in
    (p.0, c.loop-i-test.true, rw tables.lower-is (factors-at-most-par down _ _), rw tables.upper_is (factors-at-most-par up _ _))

-- the rows of the borrowings before i are written up to 15 i; the row that is made is that of borrowing i, and it is written from there on,
-- up to 15 (i + 1), which is within the list
pub loop-i-preserved : goal.loop-i-preserved
loop-i-preserved c =
    let prepared : Tables c.args.cells.now (libor_in c.args.sheets.now) c.fill_factors.new.lower c.fill_factors.new.upper = tables-made _ _ _ _ _ c.longest_term-longest.ensures (rw c.row_used-libor.ensures.0 at c.fill_factors.ensures.0) (rw c.row_used-libor.ensures.0 at c.fill_factors.ensures.1) in
    let state = c.loop-i in
    let more : state.i < borrowing_count = omega arith in
    rw c.write.ensures (overwritten-row [] (borrowing_numbers _ _) place_number_count (row-length _ _) state.i (place_number_count * state.i) (place_number_count * (state.i + 1))
    _ state.list c.row_of-row.result state.invariant
    (c.row_of-row.ensures ∙ table-row _ _ _ _ prepared c.requires.0 state.i more) (omega (arith, more)) (omega (arith, more, c.requires.2)))

pub returns : goal.returns
returns c =
    let e : c.loop-i.i ≡ borrowing_count = omega arith in
    c.loop-i.invariant.is ∙ rw e
