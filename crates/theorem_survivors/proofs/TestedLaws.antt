-- Whether a filing has only the surviving cells of another is a finite test: the cells 601 to 715, the kinds of sheet, and the numbers of each sheet.
-- Assumes nothing.
use Prim.Native.Nat.{ℕ, ◌≤◌, ◌<◌}
use native.Mathlib.Omega.{arith}
use mathlib.Core.Path.{◌≡◌, refl, sym, ◌∙◌}
use mathlib.Core.Bool.{Bool, true, false, cond, not, ◌&&◌, true≢false}
use mathlib.Core.List.{List}
use borrow.Author.Tests.{lt-ltb, ltb-true, leb-true, eq-eqb, eqb-true, eqb-false, not-true}
use lib.Dec.{T, leb, ltb, eqb}
use lib.ListN.{length}
use Rattle.lists.proofs.TestLaws.{both, all_from, all-at}
use Rattle.form.specs.Cells.{first_cell, last_cell, cell_count}
use Rattle.record_fields.specs.Records.{record_kind, sheet_number, first_record}
use Rattle.record_kinds.specs.Kinds.{kind_count, amendment_kind}
use Rattle.record_verdicts.specs.RecordVerdicts.{first_faulty}
use Rattle.filing_contents.specs.Amounts.{amount_at}
use Rattle.filing_decode.specs.Contents.{cell_offset, sheet_offset}
use Rattle.theorem_survivors.specs.Survivors.{survives, own_offset, has_sheet, numbers_of, Surviving}

-- a test that passes is true
passed : (b : Bool) → T b → b ≡ true
passed true h = refl
passed false h = absurd h

-- two tests agree
abbrev pub same : Bool → Bool → Bool
same true b = b
same false b = not b

-- tests that are equal agree
same-holds : (a b : Bool) → a ≡ b → T (not (same a b)) → ⊥
same-holds true true e h = h
same-holds true false e h = true≢false e
same-holds false true e h = true≢false (sym e)
same-holds false false e h = h

module _ (s t : List ℕ) where
  -- the cell stands in t with its amount, or is absent
  unfoldable pub cell_kept : ℕ → Bool
  cell_kept n =
      cond (survives s n) (ltb (own_offset t n) (length t) && eqb (amount_at t (own_offset t n)) (amount_at s (cell_offset s n)))
      (eqb (own_offset t n) (length t))

  -- a number of a sheet is the same
  abbrev pub number_kept : ℕ → ℕ → Bool
  number_kept kind i = eqb (sheet_number t (sheet_offset t kind) i) (sheet_number s (sheet_offset s kind) i)

  -- the sheet is present in both with its numbers, or in neither
  unfoldable pub sheet_kept : ℕ → Bool
  sheet_kept kind = cond (has_sheet s kind) (has_sheet t kind && all_from 1 (numbers_of s kind) (number_kept kind)) (not (has_sheet t kind))

  unfoldable pub all_kept : Bool
  all_kept =
      (eqb (first_faulty t) (length t) && eqb (first_record t (λ (at : ℕ). eqb (record_kind t at) amendment_kind) (length t)) (length t))
      && (all_from first_cell cell_count cell_kept && all_from 0 kind_count sheet_kept)

  -- what the test of a cell says
  record CellKept (n : ℕ) : Type 0 where
    stands : survives s n ≡ true → own_offset t n < length t
    gives : survives s n ≡ true → amount_at t (own_offset t n) ≡ amount_at s (cell_offset s n)
    absent : survives s n ≡ false → own_offset t n ≡ length t

  -- for a cell that survives the test passes only where it stands in t with the same amount, for another only where it is absent from t; each
  -- clause of the other case has a hypothesis that is false
  cell-kept : (n : ℕ) → T (cell_kept n) → CellKept n
  unfolding cell_kept
  cell-kept n h = by (survives s n) refl h
    where
      by : (b : Bool) → survives s n ≡ b
          → T (cond b (ltb (own_offset t n) (length t) && eqb (amount_at t (own_offset t n)) (amount_at s (cell_offset s n))) (eqb (own_offset t n) (length t)))
          → CellKept n
      by true e h =
          let parts = both (ltb (own_offset t n) (length t)) (eqb (amount_at t (own_offset t n)) (amount_at s (cell_offset s n))) h in
          record {
            stands = λ f. ltb-true (own_offset t n) (length t) (passed _ parts.0);
            gives = λ f. eqb-true (amount_at t (own_offset t n)) (amount_at s (cell_offset s n)) (passed _ parts.1);
            absent = λ f. absurd (true≢false (sym e ∙ f));
          }
      by false e h =
          record {
            stands = λ f. absurd (true≢false (sym f ∙ e));
            gives = λ f. absurd (true≢false (sym f ∙ e));
            absent = λ f. eqb-true (own_offset t n) (length t) (passed _ h);
          }

  -- what the test of a sheet says
  record SheetKept (kind : ℕ) : Type 0 where
    present : has_sheet t kind ≡ has_sheet s kind
    numbers : has_sheet s kind ≡ true → (i : ℕ) → 1 ≤ i → i ≤ numbers_of s kind → sheet_number t (sheet_offset t kind) i ≡ sheet_number s (sheet_offset s kind) i

  -- the test passes only where the sheet is in both or in neither; in both it is that of each number from the first to the last, in neither
  -- nothing is asked of the numbers
  sheet-kept : (kind : ℕ) → T (sheet_kept kind) → SheetKept kind
  unfolding sheet_kept
  sheet-kept kind h = by (has_sheet s kind) (has_sheet t kind) refl refl h
    where
      by : (a b : Bool) → has_sheet s kind ≡ a → has_sheet t kind ≡ b → T (cond a (b && all_from 1 (numbers_of s kind) (number_kept kind)) (not b))
          → SheetKept kind
      by true true p q h =
          record {
            present = q ∙ sym p;
            numbers =
                λ f i l m.
                eqb-true (sheet_number t (sheet_offset t kind) i) (sheet_number s (sheet_offset s kind) i)
                (passed _ (all-at 1 (numbers_of s kind) (number_kept kind) h i l (omega arith)));
          }
      by true false p q h = absurd h
      by false true p q h = absurd h
      by false false p q h = record { present = q ∙ sym p; numbers = λ f. absurd (true≢false (sym f ∙ p)) }

  -- the test passes at each cell of the form and at each kind, and so gives each field
  pub tested : T all_kept → Surviving s t
  unfolding all_kept
  tested h =
      let sides = both (eqb (first_faulty t) (length t) && eqb (first_record t (λ (at : ℕ). eqb (record_kind t at) amendment_kind) (length t)) (length t)) _ h in
      let records = both (eqb (first_faulty t) (length t)) _ sides.0 in
      let rest = both (all_from first_cell cell_count cell_kept) (all_from 0 kind_count sheet_kept) sides.1 in
      let cell : (n : ℕ) → first_cell ≤ n → n ≤ last_cell → CellKept n = λ n l m. cell-kept n (all-at first_cell cell_count cell_kept rest.0 n l (omega arith)) in
      let sheet : (kind : ℕ) → kind < kind_count → SheetKept kind = λ kind l. sheet-kept kind (all-at 0 kind_count sheet_kept rest.1 kind (omega arith) (omega arith)) in
      record {
        sound = eqb-true (first_faulty t) (length t) (passed _ records.0);
        unamended = eqb-true (first_record t (λ (at : ℕ). eqb (record_kind t at) amendment_kind) (length t)) (length t) (passed _ records.1);
        stands = λ n l m. (cell n l m).stands;
        gives = λ n l m. (cell n l m).gives;
        absent = λ n l m. (cell n l m).absent;
        same-sheets = λ kind l. (sheet kind l).present;
        same_numbers = λ kind i l f. (sheet kind l).numbers f i;
      }

  -- one number of a sheet of s that differs in t is enough to tell that t is none
  pub number-differs : (kind i : ℕ) → T (ltb kind kind_count && (has_sheet s kind && (leb 1 i && (leb i (numbers_of s kind) && not (number_kept kind i)))))
      → Surviving s t → ⊥
  number-differs kind i h u =
      let known = both (ltb kind kind_count) _ h in
      let there = both (has_sheet s kind) _ known.1 in
      let from = both (leb 1 i) _ there.1 in
      let to = both (leb i (numbers_of s kind)) _ from.1 in
      eqb-false (sheet_number t (sheet_offset t kind) i) (sheet_number s (sheet_offset s kind) i) (not-true (number_kept kind i) (passed _ to.1))
      (u.same_numbers kind i (ltb-true kind kind_count (passed _ known.0)) (passed _ there.0) (leb-true 1 i (passed _ from.0))
      (leb-true i (numbers_of s kind) (passed _ to.0)))

  -- and so is one sheet that is present in one of them only
  pub sheet-differs : (kind : ℕ) → T (ltb kind kind_count && not (same (has_sheet t kind) (has_sheet s kind))) → Surviving s t → ⊥
  sheet-differs kind h u =
      let known = both (ltb kind kind_count) _ h in
      same-holds (has_sheet t kind) (has_sheet s kind) (u.same-sheets kind (ltb-true kind kind_count (passed _ known.0))) known.1

  -- and so is one cell: the fields of that cell would make its test pass
  pub cell-differs : (n : ℕ) → T (leb first_cell n && (leb n last_cell && not (cell_kept n))) → Surviving s t → ⊥
  unfolding cell_kept
  cell-differs n h u =
      let from = both (leb first_cell n) _ h in
      let to = both (leb n last_cell) _ from.1 in
      by (leb-true first_cell n (passed _ from.0)) (leb-true n last_cell (passed _ to.0)) (survives s n) refl to.1
    where
      by : first_cell ≤ n → n ≤ last_cell → (b : Bool) → survives s n ≡ b
          → T (not (cond b (ltb (own_offset t n) (length t) && eqb (amount_at t (own_offset t n)) (amount_at s (cell_offset s n))) (eqb (own_offset t n) (length t))))
          → ⊥
      by l m true e d =
          let stands : ltb (own_offset t n) (length t) ≡ true = lt-ltb (own_offset t n) (length t) (u.stands n l m e) in
          let gives : eqb (amount_at t (own_offset t n)) (amount_at s (cell_offset s n)) ≡ true = eq-eqb (amount_at t (own_offset t n)) (amount_at s (cell_offset s n)) (u.gives n l m e) in
          rw (stands, gives) at d
      by l m false e d = rw (eq-eqb (own_offset t n) (length t) (u.absent n l m e)) at d
