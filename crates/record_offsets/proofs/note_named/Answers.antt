-- `note_named` meets its contract: the item of the record goes by its kind.
-- Assumes nothing.
use Rattle.std.specs.Prelude.{Some}
use mathlib.Core.Path.{◌≡◌, sym, ◌∙◌}
use Rattle.record_kinds.specs.declared.items.Item.TheVariants.{Cell, Amendment}
use Rattle.record_kinds.specs.Items.{record_item}
use Rattle.record_offsets.specs.Inner.Notes.{note_falling, note_item}
use Rattle.record_offsets.proofs.NoteLaws.{named-cell, named-amendment}
use Rattle.record_offsets.proofs.note_named.Goals as goal

pub note_amendment-requires : goal.note_amendment-requires
note_amendment-requires c =
    let amendment-is : record_item c.args.s.now c.args.at
    ≡ Some (Amendment c.field_within-cell.result c.number_of.result) = named-amendment _ _ (sym c.field_within.ensures ∙ c.if-field_within-eq-AMENDMENT_KIND.true) c.requires.2
    c.field_within-cell.ensures c.number_of.ensures in
    amendment-is

pub note_cell-requires : goal.note_cell-requires
note_cell-requires c =
    let cell-is : record_item c.args.s.now c.args.at
    ≡ Some (Cell c.field_within-cell.result) = named-cell _ _ c.requires.1 (λ k. c.if-field_within-eq-AMENDMENT_KIND.false (c.field_within.ensures ∙ k)) c.requires.2
    c.field_within-cell.ensures in
    cell-is

pub returns-then-field_within-eq-AMENDMENT_KIND : goal.returns-then-field_within-eq-AMENDMENT_KIND
unfolding note_falling note_item
returns-then-field_within-eq-AMENDMENT_KIND c =
    let amendment-is : record_item c.args.s.now c.args.at
    ≡ Some (Amendment c.field_within-cell.result c.number_of.result) = named-amendment _ _ (sym c.field_within.ensures ∙ c.if-field_within-eq-AMENDMENT_KIND.true) c.requires.2
    c.field_within-cell.ensures c.number_of.ensures in
    λ sheets. rw (amendment-is, c.note_amendment.ensures.0, c.note_amendment.ensures.1)

pub returns-else-field_within-eq-AMENDMENT_KIND : goal.returns-else-field_within-eq-AMENDMENT_KIND
unfolding note_item
returns-else-field_within-eq-AMENDMENT_KIND c =
    let cell-is : record_item c.args.s.now c.args.at
    ≡ Some (Cell c.field_within-cell.result) = named-cell _ _ c.requires.1 (λ k. c.if-field_within-eq-AMENDMENT_KIND.false (c.field_within.ensures ∙ k)) c.requires.2
    c.field_within-cell.ensures in
    λ sheets. rw (cell-is, c.note_cell.ensures.0, c.note_cell.ensures.1)
