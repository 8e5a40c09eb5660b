-- The records of a made filing: what each holds, that none stands twice, and that each passes. Assumes nothing.
use Rattle.std.specs.Prelude.{Some}
use Prim.Native.Nat.{ℕ, suc, ◌+◌, ◌*◌, ◌≤◌, ◌<◌}
use native.Mathlib.Nat.{le_of_suc-le-suc, eq-or-lt_of_le}
use native.Mathlib.Omega.{arith}
use mathlib.Core.Path.{◌≡◌, refl, sym, ap, subst, ◌∙◌}
use mathlib.Core.Logic.{◌⊎◌, inl, inr, ⊎_elim}
use mathlib.Core.Bool.{false, not}
use mathlib.Core.List.{List, []}
use borrow.Author.Tests.{le-ltb, ne_eqb}
use lib.Dec.{eqb}
use lib.ListN.{length, get_or}
use Rattle.lists.proofs.OrderLaws.{lt-or-le}
use Rattle.lists.proofs.TestLaws.{entries-le}
use Rattle.form.specs.Limits.{class_limits, class_limit, rate_limit}
use Rattle.form.specs.Classes.{cell_class}
use Rattle.answers.specs.Verdict.{accepted}
use Rattle.record_fields.specs.Bytes.{number_at}
use Rattle.record_fields.specs.Records.{next_record}
use Rattle.record_kinds.specs.Kinds.{rate_path_kind}
use Rattle.record_kinds.specs.declared.items.Item.TheVariants.{Cell, Sheet}
use Rattle.record_kinds.specs.Items.{same_item, record_item, first_with}
use Rattle.record_shape.specs.Faults.{stands_before, sheet_before, path_beside_flat}
use Rattle.record_verdicts.specs.RecordVerdicts.{record_verdict, first_refused, verdict_by, records_verdict}
use Rattle.certificate_cells.specs.declared.filled_cells.CellValue.{CellValue}
use Rattle.certificate_cells.specs.Cells.{no_cell}
use Rattle.theorem_certificates.specs.Filed.{run, cell_body, sheet_body, filed_bodies}
use Rattle.theorem_certificates.proofs.RecordRunLaws.{offset, offset-last, offset-lt, record-field, record-length, record-next, search-none}
use Rattle.theorem_certificates.proofs.BodyLaws.{cell-body-length, cell-body-kind, cell-body-cell, cell-body-value, sheet-body-length, sheet-body-kind, sheet-body-number, bodies-cell, bodies-yields, bodies-rates, bodies-length}
use Rattle.theorem_certificates.proofs.PassLaws.{CellRecord, SheetRecord, cell-item, cell-passes, sheet-item, sheet-passes, yields-sheet, rates-sheet}
use Rattle.theorem_certificates.proofs.FileableLaws.{Entry, Fileable, fileable-at, fileable-rising}

-- every limit fits eight bytes
class-limit-le : (k : ℕ) → class_limit k ≤ 18446744073709551615
unfolding class_limit
class-limit-le k = entries-le class_limits 18446744073709551615 tt k

-- one of n, or one of the two behind them
three : (n i : ℕ) → i < n + 2 → (i < n) ⊎ ((i ≡ n) ⊎ (i ≡ suc n))
three n i h = ⊎_elim inl (λ l. inr (⊎_elim (λ e. inl (sym e)) (λ m. inr (omega arith)) (eq-or-lt_of_le l))) (lt-or-le i n)

module _ (cells : List CellValue) (yields rates : ℕ → ℕ) where
  abbrev bodies : List (List ℕ)
  bodies = filed_bodies cells yields rates

  abbrev made : List ℕ
  made = run bodies

  abbrev cell_at : ℕ → CellValue
  cell_at i = get_or cells i no_cell

  pub filed-length : length bodies ≡ length cells + 2
  unfolding filed_bodies
  filed-length = bodies-length (sheet_body 2 120 yields) (sheet_body 3 3 rates) cells

  -- the bodies by their index
  body-cell : (i : ℕ) → i < length cells → get_or bodies i [] ≡ cell_body (cell_at i)
  unfolding filed_bodies
  body-cell i h = bodies-cell no_cell (sheet_body 2 120 yields) (sheet_body 3 3 rates) cells i h

  body-yields : get_or bodies (length cells) [] ≡ sheet_body 2 120 yields
  unfolding filed_bodies
  body-yields = bodies-yields (sheet_body 2 120 yields) (sheet_body 3 3 rates) cells

  body-rates : get_or bodies (suc (length cells)) [] ≡ sheet_body 3 3 rates
  unfolding filed_bodies
  body-rates = bodies-rates (sheet_body 2 120 yields) (sheet_body 3 3 rates) cells

  pub sized : (i : ℕ) → i < length bodies → length (get_or bodies i []) < 65536
  sized i h =
      ⊎_elim (λ l. omega (arith, ap length (body-cell i l), cell-body-length (cell_at i)))
      (⊎_elim (λ e. rw e (omega (arith, ap length body-yields, sheet-body-length yields 2 120)))
      (λ e. rw e (omega (arith, ap length body-rates, sheet-body-length rates 3 3)))) (three (length cells) i (rw filed-length at h))

  -- a number of record i
  field_at : (i index j k : ℕ) → i < length cells + 2 → index ≡ offset bodies i + 2 + j → j + k ≤ length (get_or bodies i [])
      → number_at made index k ≡ number_at (get_or bodies i []) j k
  field_at i index j k h e l = ap (λ (m : ℕ). number_at made m k) e ∙ record-field bodies i (rw filed-length h) j k l

  module _ (fileable : Fileable 0 cells) where
    entry : (i : ℕ) → i < length cells → Entry 0 (cell_at i)
    entry i h = fileable-at no_cell 0 cells fileable i h

    -- a cell's record: its body is 12 bytes, and kind, cell and value are read off it 0, 2 and 4 bytes on, where each number fits its bytes
    pub cell-record : (i : ℕ) → i < length cells → CellRecord made (offset bodies i) (cell_at i)
    cell-record i h =
        let body = body-cell i h in
        let long : length (get_or bodies i []) ≡ 12 = ap length body ∙ cell-body-length (cell_at i) in
        let all : i < length cells + 2 = omega arith in
        let e = entry i h in
        let at : ℕ = offset bodies i in
        record {
          length-is = record-length bodies i (rw filed-length all) (omega (arith, long)) ∙ long;
          kind-is = field_at i (at + 2) 0 2 all (omega arith) (omega (arith, long)) ∙ rw body (cell-body-kind (cell_at i));
          cell-is = field_at i (at + 4) 2 2 all (omega arith) (omega (arith, long)) ∙ rw body (cell-body-cell (cell_at i) (omega (arith, e.to-total)));
          value-is =
              field_at i (at + 6) 4 8 all (omega arith) (omega (arith, long))
              ∙ rw body (cell-body-value (cell_at i) (omega (arith, e.limit, class-limit-le (cell_class (cell_at i).cell))));
        }

  -- a sheet's record: its body is 2 + 2 n bytes, the kind is read off its first two, and number j + 1 2 + 2 j bytes on, where a rate fits
  sheet-record : (i kind n : ℕ) (f : ℕ → ℕ) → i < length cells + 2 → get_or bodies i [] ≡ sheet_body kind n f → kind < 256 → n < 1000
      → ((j : ℕ) → f j ≤ rate_limit) → SheetRecord made (offset bodies i) kind n f
  sheet-record i kind n f h body small few low =
      let long : length (get_or bodies i []) ≡ 2 + 2 * n = ap length body ∙ sheet-body-length f kind n in
      let at : ℕ = offset bodies i in
      record {
        length-is = record-length bodies i (rw filed-length h) (omega (arith, long)) ∙ long;
        kind-is = field_at i (at + 2) 0 2 h (omega arith) (omega (arith, long)) ∙ rw body (sheet-body-kind f kind n (omega arith));
        number_is =
            λ j l. field_at i (at + 2 + 2 * suc j) (2 + 2 * j) 2 h (omega arith) (omega (arith, long))
            ∙ rw body (sheet-body-number f kind n j l (omega (arith, low (suc j))));
      }

  module _ (fileable : Fileable 0 cells) (ys : (t : ℕ) → yields t ≤ rate_limit) (rs : (j : ℕ) → rates j ≤ rate_limit) where
    yields-record : SheetRecord made (offset bodies (length cells)) 2 120 yields
    yields-record = sheet-record (length cells) 2 120 yields (omega arith) body-yields (omega arith) (omega arith) ys

    rates-record : SheetRecord made (offset bodies (suc (length cells))) 3 3 rates
    rates-record = sheet-record (suc (length cells)) 3 3 rates (omega arith) body-rates (omega arith) (omega arith) rs

    -- what each record may stand once as
    pub item-cell : (i : ℕ) → i < length cells → record_item made (offset bodies i) ≡ Some (Cell (cell_at i).cell)
    item-cell i h = cell-item made (offset bodies i) (cell_at i) (cell-record fileable i h) (entry fileable i h).listed

    pub item-yields : record_item made (offset bodies (length cells)) ≡ Some (Sheet 2)
    item-yields = sheet-item made (offset bodies (length cells)) 2 120 yields yields-record yields-sheet

    pub item-rates : record_item made (offset bodies (suc (length cells))) ≡ Some (Sheet 3)
    item-rates = sheet-item made (offset bodies (suc (length cells))) 3 3 rates rates-record rates-sheet

    -- no two are the same
    same-cells : (i k : ℕ) → i < k → k < length cells → same_item (record_item made (offset bodies i)) (record_item made (offset bodies k)) ≡ false
    unfolding same_item
    same-cells i k l h =
        rw (item-cell i (omega arith), item-cell k h)
        (ne_eqb (cell_at i).cell (cell_at k).cell (λ e. omega (arith, fileable-rising no_cell 0 cells fileable i k l h)))

    -- a sheet is none of the cells, and none of the other sheets
    pub cell-no-sheet : (i kind : ℕ) → i < length cells → same_item (record_item made (offset bodies i)) (Some (Sheet kind)) ≡ false
    unfolding same_item
    cell-no-sheet i kind h = rw (item-cell i h)

    yields-no-sheet : (kind : ℕ) → eqb 2 kind ≡ false → same_item (record_item made (offset bodies (length cells))) (Some (Sheet kind)) ≡ false
    unfolding same_item
    yields-no-sheet kind h = rw item-yields h

    pub before-rates : (i kind : ℕ) → i < suc (length cells) → eqb 2 kind ≡ false → same_item (record_item made (offset bodies i)) (Some (Sheet kind)) ≡ false
    before-rates i kind h other =
        ⊎_elim (λ e. subst (λ (m : ℕ). same_item (record_item made (offset bodies m)) (Some (Sheet kind)) ≡ false) (sym e) (yields-no-sheet kind other))
        (λ l. cell-no-sheet i kind l) (eq-or-lt_of_le (le_of_suc-le-suc h))

    apart : (i k : ℕ) → i < k → k < length cells + 2 → same_item (record_item made (offset bodies i)) (record_item made (offset bodies k)) ≡ false
    apart i k l h =
        ⊎_elim (λ m. same-cells i k l m)
        (⊎_elim (λ e. subst (λ (m : ℕ). same_item (record_item made (offset bodies i)) (record_item made (offset bodies m)) ≡ false) (sym e) (rw item-yields (cell-no-sheet i 2 (omega arith))))
        (λ e. subst (λ (m : ℕ). same_item (record_item made (offset bodies i)) (record_item made (offset bodies m)) ≡ false) (sym e) (rw item-rates (before-rates i 3 (omega arith) refl))))
        (three (length cells) k h)

    once : (k : ℕ) → k < length cells + 2 → stands_before made (offset bodies k) ≡ false
    unfolding stands_before first_with
    once k h =
        let none = search-none bodies sized (λ (at : ℕ). same_item (record_item made at) (record_item made (offset bodies k))) k (omega (arith, filed-length)) (λ i l. apart i k l h) in
        rw none (le-ltb (offset bodies k) (offset bodies k) (omega arith))

    -- no rates by month stand before the flat ones
    flat-alone : path_beside_flat made (offset bodies (suc (length cells))) ≡ false
    unfolding path_beside_flat sheet_before first_with
    flat-alone =
        let k : ℕ = suc (length cells) in
        let none = search-none bodies sized (λ (at : ℕ). same_item (record_item made at) (Some (Sheet rate_path_kind))) k (omega (arith, filed-length)) (λ i l. before-rates i rate_path_kind l refl) in
        rw (rates-record.kind-is, none) (le-ltb (offset bodies k) (offset bodies k) (omega arith))

    yields-alone : path_beside_flat made (offset bodies (length cells)) ≡ false
    unfolding path_beside_flat
    yields-alone = rw yields-record.kind-is

    ends : (i : ℕ) → i < length cells + 2 → next_record made (offset bodies i) ≤ length made
    ends i h =
        let l : i < length bodies = rw filed-length h in
        rw (record-next bodies i l (sized i l))
        (⊎_elim (λ e. omega (arith, ap (offset bodies) e, offset-last bodies)) (λ m. omega (arith, offset-lt bodies (suc i) (length bodies) m (omega arith), offset-last bodies))
        (eq-or-lt_of_le l))

    -- each passes: a cell's record holds a listed cell within its limit, the two sheets numbers within theirs; each ends within the bytes and stands
    -- once, and no path stands beside the flat rates
    pub passes_at : (i : ℕ) → i < length cells + 2 → record_verdict made (offset bodies i) ≡ accepted
    passes_at i h = ⊎_elim cell (⊎_elim at-yields at-rates) (three (length cells) i h)
      where
        cell : i < length cells → record_verdict made (offset bodies i) ≡ accepted
        cell l =
            cell-passes made (offset bodies i) (cell_at i) (cell-record fileable i l) (entry fileable i l).listed (entry fileable i l).limit (ends i h) (once i h)

        at-yields : i ≡ length cells → record_verdict made (offset bodies i) ≡ accepted
        at-yields e =
            subst (λ (m : ℕ). record_verdict made (offset bodies m) ≡ accepted) (sym e)
            (sheet-passes made (offset bodies (length cells)) 2 120 yields yields-record yields-sheet (λ j l. ys (suc j)) (ends (length cells) (omega arith))
            (once (length cells) (omega arith)) yields-alone)

        at-rates : i ≡ suc (length cells) → record_verdict made (offset bodies i) ≡ accepted
        at-rates e =
            subst (λ (m : ℕ). record_verdict made (offset bodies m) ≡ accepted) (sym e)
            (sheet-passes made (offset bodies (suc (length cells))) 3 3 rates rates-record rates-sheet (λ j l. rs (suc j)) (ends (suc (length cells)) (omega arith))
            (once (suc (length cells)) (omega arith)) flat-alone)

    -- and so all
    pub records-pass : records_verdict made ≡ accepted
    unfolding verdict_by first_refused accepted
    records-pass =
        let all : length bodies ≡ length cells + 2 = filed-length in
        let none =
        search-none bodies sized (λ (at : ℕ). not (eqb (record_verdict made at).number 0)) (length bodies) (omega arith)
        (λ i l. rw (passes_at i (rw all at l))) in
        rw (rw (offset-last bodies) at none) (simp (le-ltb (length made) (length made) (omega arith)))
