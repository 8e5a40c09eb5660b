-- `repeated` meets its contract: what is noted of the record's item tells whether it stands in an earlier record.
-- Assumes nothing.
use native.Mathlib.Omega.{arith}
use Rattle.std.specs.Prelude.{Some}
use mathlib.Core.Path.{sym, ◌∙◌, ap}
use Rattle.record_kinds.proofs.ItemLaws.{OfCell, OfSheet, record-of-cell, record-of-sheet}
use Rattle.record_shape.proofs.RepetitionLaws.{cell-repeated, sheet-repeated, amendment-single, nothing-repeated}
use Rattle.record_shape.proofs.repeated.Goals as goal

pub overflow_sub-i : goal.overflow_sub-i
overflow_sub-i c =
    let of-cell : OfCell c.args.s.now c.args.at c.in-Some-Cell.cell = record-of-cell _ _ _ (sym c.record_item.ensures ∙ c.in-Some-Cell.is ∙ ap Some c.in-Some-Cell.field-0-is) in
    of-cell.from_first

pub offset_bounds-cells-i : goal.offset_bounds-cells-i
offset_bounds-cells-i c =
    let of-cell : OfCell c.args.s.now c.args.at c.in-Some-Cell.cell = record-of-cell _ _ _ (sym c.record_item.ensures ∙ c.in-Some-Cell.is ∙ ap Some c.in-Some-Cell.field-0-is) in
    omega (arith, of-cell.to_last)

pub bounds-cells-i : goal.bounds-cells-i
bounds-cells-i c =
    let of-cell : OfCell c.args.s.now c.args.at c.in-Some-Cell.cell = record-of-cell _ _ _ (sym c.record_item.ensures ∙ c.in-Some-Cell.is ∙ ap Some c.in-Some-Cell.field-0-is) in
    omega (arith, of-cell.to_last)

pub offset_bounds-sheets-kind : goal.offset_bounds-sheets-kind
offset_bounds-sheets-kind c =
    let of-sheet : OfSheet c.args.s.now c.args.at c.in-Some-Sheet.kind = record-of-sheet _ _ _ (sym c.record_item.ensures ∙ c.in-Some-Sheet.is ∙ ap Some c.in-Some-Sheet.field-0-is) in
    omega (arith, of-sheet.known)

pub bounds-sheets-kind : goal.bounds-sheets-kind
bounds-sheets-kind c =
    let of-sheet : OfSheet c.args.s.now c.args.at c.in-Some-Sheet.kind = record-of-sheet _ _ _ (sym c.record_item.ensures ∙ c.in-Some-Sheet.is ∙ ap Some c.in-Some-Sheet.field-0-is) in
    of-sheet.known

pub returns-in-Some-Cell : goal.returns-in-Some-Cell
returns-in-Some-Cell c =
    rw c.requires.2 (cell-repeated _ _ _ c.requires.0 (sym c.record_item.ensures ∙ c.in-Some-Cell.is ∙ ap Some c.in-Some-Cell.field-0-is))

pub returns-in-Some-Sheet : goal.returns-in-Some-Sheet
returns-in-Some-Sheet c =
    rw c.requires.1 (sheet-repeated _ _ _ c.requires.0 (sym c.record_item.ensures ∙ c.in-Some-Sheet.is ∙ ap Some c.in-Some-Sheet.field-0-is))

pub returns-in-Some-Amendment : goal.returns-in-Some-Amendment
returns-in-Some-Amendment c = sym (amendment-single _ _ _ _ (sym c.record_item.ensures ∙ c.in-Some-Amendment.is ∙ ap Some c.in-Some-Amendment.field-0-is))

pub returns-in-None : goal.returns-in-None
returns-in-None c = sym (nothing-repeated _ _ (sym c.record_item.ensures ∙ c.in-None.is))
