-- `sound_value` meets its contract.
-- Assumes nothing.
use Prim.Native.Nat.{ℕ, ◌+◌, ◌-◌, ◌≤◌, ◌<◌}
use native.Mathlib.Nat.{add-zero}
use native.Mathlib.Omega.{arith}
use mathlib.Core.Path.{◌≡◌, sym, ap, ◌∙◌}
use mathlib.Core.Bool.{Bool}
use mathlib.Core.List.{List}
use borrow.Author.Tests.{leb-true, le-leb}
use lib.Dec.{eqb}
use lib.ListN.{get_or}
use Rattle.form.specs.Cells.{first_cell, cell_count}
use Rattle.record_fields.specs.Bytes.{number_at}
use Rattle.record_fields.specs.Records.{record_length, record_kind, record_cell}
use Rattle.record_kinds.specs.Kinds.{fine_coupon_kind}
use Rattle.record_offsets.specs.Inner.Notes.{noted_before}
use Rattle.record_kinds.proofs.ItemLaws.{cell-listed}
use Rattle.record_verdicts.specs.Inner.SoundRecords.{most_in}
use Rattle.record_verdicts.proofs.LimitLaws.{most-listed, listed-most, most-limit}
use Rattle.record_verdicts.proofs.NamedLaws.{told, not-told, value-told, told-value}
use Rattle.record_verdicts.proofs.sound_records.sound_value.Goals as goal

pub returns-then-field_within-ne12 : goal.returns-then-field_within-ne12
returns-then-field_within-ne12 c =
    let size_is : c.field_within.result ≡ record_length c.args.s.now c.args.at = c.field_within.ensures ∙ ap (λ (i : ℕ). number_at c.args.s.now i 2) (add-zero c.args.at) in
    not-told _ _ (λ t. c.if-field_within-ne12.true (size_is ∙ (told-value _ _ c.requires.at_in_bounds.1 t).sized))

pub returns-then-limit-eq0 : goal.returns-then-limit-eq0
returns-then-limit-eq0 c =
    let bytes : List ℕ = c.args.s.now in
    let offset : ℕ = c.args.at in
    let most-is : c.most_in-limit.result ≡ most_in (eqb (record_kind bytes offset) fine_coupon_kind) (record_cell bytes offset) = c.most_in-limit.ensures
    ∙ ap (λ (fine : Bool). most_in fine c.field_within-cell.result) c.requires.at_in_bounds.2
    ∙ ap (most_in (eqb (record_kind bytes offset) fine_coupon_kind)) c.field_within-cell.ensures in
    not-told _ _ (λ t. listed-most _ _ (told-value _ _ c.requires.at_in_bounds.1 t).listed (sym most-is ∙ c.if-limit-eq0.true))

pub overflow_sub-i : goal.overflow_sub-i
overflow_sub-i c =
    let bytes : List ℕ = c.args.s.now in
    let offset : ℕ = c.args.at in
    let most-is : c.most_in-limit.result ≡ most_in (eqb (record_kind bytes offset) fine_coupon_kind) (record_cell bytes offset) = c.most_in-limit.ensures
    ∙ ap (λ (fine : Bool). most_in fine c.field_within-cell.result) c.requires.at_in_bounds.2
    ∙ ap (most_in (eqb (record_kind bytes offset) fine_coupon_kind)) c.field_within-cell.ensures in
    let range : (first_cell ≤ c.field_within-cell.result) × (c.field_within-cell.result < first_cell + cell_count) = let listed = cell-listed _ _ (most-listed _ _ (λ z. c.if-limit-eq0.false (most-is ∙ z))) in
    (omega (arith, listed.0, c.field_within-cell.ensures), omega (arith, listed.1, c.field_within-cell.ensures)) in
    range.0

pub offset_bounds-cells-i : goal.offset_bounds-cells-i
offset_bounds-cells-i c =
    let bytes : List ℕ = c.args.s.now in
    let offset : ℕ = c.args.at in
    let most-is : c.most_in-limit.result ≡ most_in (eqb (record_kind bytes offset) fine_coupon_kind) (record_cell bytes offset) = c.most_in-limit.ensures
    ∙ ap (λ (fine : Bool). most_in fine c.field_within-cell.result) c.requires.at_in_bounds.2
    ∙ ap (most_in (eqb (record_kind bytes offset) fine_coupon_kind)) c.field_within-cell.ensures in
    let range : (first_cell ≤ c.field_within-cell.result) × (c.field_within-cell.result < first_cell + cell_count) = let listed = cell-listed _ _ (most-listed _ _ (λ z. c.if-limit-eq0.false (most-is ∙ z))) in
    (omega (arith, listed.0, c.field_within-cell.ensures), omega (arith, listed.1, c.field_within-cell.ensures)) in
    omega (arith, range.1)

pub bounds-cells-i : goal.bounds-cells-i
bounds-cells-i c =
    let bytes : List ℕ = c.args.s.now in
    let offset : ℕ = c.args.at in
    let most-is : c.most_in-limit.result ≡ most_in (eqb (record_kind bytes offset) fine_coupon_kind) (record_cell bytes offset) = c.most_in-limit.ensures
    ∙ ap (λ (fine : Bool). most_in fine c.field_within-cell.result) c.requires.at_in_bounds.2
    ∙ ap (most_in (eqb (record_kind bytes offset) fine_coupon_kind)) c.field_within-cell.ensures in
    let range : (first_cell ≤ c.field_within-cell.result) × (c.field_within-cell.result < first_cell + cell_count) = let listed = cell-listed _ _ (most-listed _ _ (λ z. c.if-limit-eq0.false (most-is ∙ z))) in
    (omega (arith, listed.0, c.field_within-cell.ensures), omega (arith, listed.1, c.field_within-cell.ensures)) in
    omega (arith, range.0, range.1)

pub returns-then-cells-i : goal.returns-then-cells-i
returns-then-cells-i c =
    let bytes : List ℕ = c.args.s.now in
    let offset : ℕ = c.args.at in
    let noted-at : get_or c.args.cells.now (c.field_within-cell.result - first_cell) 0
    ≡ get_or (noted_before bytes offset).cells (record_cell bytes offset - first_cell) 0 = let cell = c.field_within-cell in
    ap (λ (l : List ℕ). get_or l (cell.result - first_cell) 0) c.requires.cells_value
    ∙ ap (λ (n : ℕ). get_or (noted_before bytes offset).cells (n - first_cell) 0) cell.ensures in
    not-told _ _ (λ t. omega (arith, c.if-cells-i.true, noted-at, (told-value _ _ c.requires.at_in_bounds.1 t).once))

-- the tests before have left 14 bytes, length 12, a listed cell and nothing noted for it, so that only the limit is open: where the value is
-- within it the record is sound, and a sound one's value is within it
pub returns : goal.returns
returns c =
    let size_is : c.field_within.result ≡ record_length c.args.s.now c.args.at = c.field_within.ensures ∙ ap (λ (i : ℕ). number_at c.args.s.now i 2) (add-zero c.args.at) in
    let bytes : List ℕ = c.args.s.now in
    let offset : ℕ = c.args.at in
    let most-is : c.most_in-limit.result ≡ most_in (eqb (record_kind bytes offset) fine_coupon_kind) (record_cell bytes offset) = c.most_in-limit.ensures
    ∙ ap (λ (fine : Bool). most_in fine c.field_within-cell.result) c.requires.at_in_bounds.2
    ∙ ap (most_in (eqb (record_kind bytes offset) fine_coupon_kind)) c.field_within-cell.ensures in
    let noted-at : get_or c.args.cells.now (c.field_within-cell.result - first_cell) 0
    ≡ get_or (noted_before bytes offset).cells (record_cell bytes offset - first_cell) 0 = let cell = c.field_within-cell in
    ap (λ (l : List ℕ). get_or l (cell.result - first_cell) 0) c.requires.cells_value
    ∙ ap (λ (n : ℕ). get_or (noted_before bytes offset).cells (n - first_cell) 0) cell.ensures in
    let gives = c.requires.at_in_bounds.1 in
    let some : most_in (eqb (record_kind bytes offset) fine_coupon_kind) (record_cell bytes offset) ≡ 0 → ⊥ = λ z. c.if-limit-eq0.false (most-is ∙ z) in
    let limit = most-limit bytes offset some in
    told _ _ _
    (λ e. value-told _ _ gives record {
      within = c.requires.at_in_bounds.0;
      sized = sym size_is ∙ c.if-field_within-ne12.false;
      listed = most-listed bytes offset some;
      once = omega (arith, c.if-cells-i.false, noted-at);
      low = omega (arith, leb-true c.field_within-2.result c.most_in-limit.result e, c.field_within-2.ensures, most-is, limit);
    })
    (λ t. le-leb c.field_within-2.result c.most_in-limit.result (omega (arith, (told-value _ _ gives t).low, c.field_within-2.ensures, most-is, limit)))
