-- `note` meets its contract: a record's cell or kind is one of those that are noted.
-- Assumes nothing.
use native.Mathlib.Omega.{arith}
use mathlib.Core.Path.{sym, ap, ◌∙◌}
use Rattle.std.specs.Prelude.{Some}
use Rattle.record_kinds.proofs.ItemLaws.{OfSheet, record-of-sheet}
use Rattle.record_offsets.specs.Inner.Notes.{note_falling, note_item}
use Rattle.record_offsets.proofs.note.Goals as goal

pub note_cell-requires : goal.note_cell-requires
note_cell-requires c =
    sym c.record_item.ensures ∙ c.in-Some-Cell.is ∙ ap Some c.in-Some-Cell.field-0-is

pub offset_bounds-sheets-kind : goal.offset_bounds-sheets-kind
offset_bounds-sheets-kind c =
    let of-sheet : OfSheet c.args.s.now c.args.at c.in-Some-Sheet.kind = record-of-sheet _ _ _ (sym c.record_item.ensures ∙ c.in-Some-Sheet.is ∙ ap Some c.in-Some-Sheet.field-0-is) in
    omega (arith, of-sheet.known)

pub bounds-sheets-kind : goal.bounds-sheets-kind
bounds-sheets-kind c =
    let of-sheet : OfSheet c.args.s.now c.args.at c.in-Some-Sheet.kind = record-of-sheet _ _ _ (sym c.record_item.ensures ∙ c.in-Some-Sheet.is ∙ ap Some c.in-Some-Sheet.field-0-is) in
    of-sheet.known

pub note_amendment-requires : goal.note_amendment-requires
note_amendment-requires c =
    sym c.record_item.ensures ∙ c.in-Some-Amendment.is ∙ ap Some c.in-Some-Amendment.field-0-is

pub returns-in-Some-Cell : goal.returns-in-Some-Cell
unfolding note_item
returns-in-Some-Cell c =
    rw (← c.record_item.ensures, c.in-Some-Cell.is, c.in-Some-Cell.field-0-is, c.note_cell.ensures.0, c.note_cell.ensures.1)

pub returns-in-Some-Sheet : goal.returns-in-Some-Sheet
unfolding note_item
returns-in-Some-Sheet c = rw (← c.record_item.ensures, c.in-Some-Sheet.is, c.in-Some-Sheet.field-0-is)

pub returns-in-Some-Amendment : goal.returns-in-Some-Amendment
unfolding note_falling note_item
returns-in-Some-Amendment c =
    rw (← c.record_item.ensures, c.in-Some-Amendment.is, c.in-Some-Amendment.field-0-is, c.note_amendment.ensures.0, c.note_amendment.ensures.1)

pub returns-in-None : goal.returns-in-None
unfolding note_item
returns-in-None c = rw (← c.record_item.ensures, c.in-None.is)
