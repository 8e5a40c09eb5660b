-- A record is repeated just where its item is noted among the records before it, and a kind of sheet stands there just where it is noted.
-- Assumes nothing.
use Rattle.std.specs.Prelude.{Option, Some, None}
use Prim.Native.Nat.{ℕ, ◌-◌, ◌≤◌, ◌<◌}
use native.Mathlib.Nat.{le_refl}
use native.Mathlib.Omega.{arith}
use mathlib.Core.Path.{◌≡◌, refl, sym, ap, ◌∙◌}
use mathlib.Core.Bool.{Bool, true, false, cond, not, and-false, true≢false}
use mathlib.Core.List.{List}
use borrow.Author.Tests.{ltb-true, lt-ltb, le-ltb, eqb-true, eq-eqb, ne_eqb}
use lib.Dec.{ltb, eqb}
use lib.ListN.{length, get_or}
use Rattle.form.specs.Cells.{first_cell}
use Rattle.record_kinds.specs.declared.items.Item.{Item}
use Rattle.record_kinds.specs.declared.items.Item.TheVariants.{Cell, Sheet, Amendment}
use Rattle.record_kinds.specs.Kinds.{kind_count, gives_cell, amendment_kind}
use Rattle.record_fields.specs.Records.{record_kind}
use Rattle.record_kinds.specs.Items.{same_item, record_item, first_with}
use Rattle.record_offsets.specs.Inner.Notes.{offset_before, noted_before}
use Rattle.record_kinds.proofs.ItemLaws.{same-nothing, record-of-cell, record-of-sheet, record-of-amendment}
use Rattle.record_offsets.proofs.NoteLaws.{noted-cell, noted-sheet}
use Rattle.record_fields.proofs.RecordLaws.{first_passes}
use Rattle.record_shape.specs.Faults.{stands_before, repeated, amendment_repeated, sheet_before}

-- an item that is no amendment
abbrev pub plain_item : Option Item → Bool
plain_item (Some (Cell cell)) = true
plain_item (Some (Sheet kind)) = true
plain_item (Some (Amendment cell number)) = false
plain_item None = true

-- a record that gives a cell its value is no amendment
pub gives-plain : (kind : ℕ) → gives_cell kind ≡ true → eqb kind amendment_kind ≡ false
unfolding gives_cell
gives-plain kind h = by (eqb kind amendment_kind) refl
  where
    by : (b : Bool) → eqb kind amendment_kind ≡ b → b ≡ false
    by true e = absurd (true≢false (sym h ∙ ap (λ (k : ℕ). gives_cell k) (eqb-true kind amendment_kind e)))
    by false e = refl

module _ (s : List ℕ) where
  -- an offset is noted for an item just where a record of it stands before
  offset-noted : (at : ℕ) (item : Option Item) → at ≤ length s → ltb (offset_before s at item) (length s) ≡ ltb (first_with s item at) at
  unfolding offset_before
  offset-noted at item l = within (first_with s item at) (ltb (first_with s item at) at) refl
    where
      within : (f : ℕ) (b : Bool) → ltb f at ≡ b → ltb (cond b f (length s)) (length s) ≡ b
      within f true e = lt-ltb f (length s) (omega (arith, ltb-true f at e))
      within f false e = le-ltb (length s) (length s) (le_refl (length s))

  offset-stands : (at : ℕ) (item : Option Item) → at ≤ length s → record_item s at ≡ item → ltb (offset_before s at item) (length s) ≡ stands_before s at
  unfolding stands_before
  offset-stands at item l is = rw is (offset-noted at item l)

  pub cell-repeated : (at cell : ℕ) → at ≤ length s → record_item s at ≡ Some (Cell cell)
      → ltb (get_or (noted_before s at).cells (cell - first_cell) 0) (length s) ≡ repeated s at
  cell-repeated at cell l is =
      let r = record-of-cell s at cell is in
      rw (noted-cell s at cell r.from_first r.to_last, gives-plain (record_kind s at) r.gives) (offset-stands at (Some (Cell cell)) l is)

  pub sheet-repeated : (at kind : ℕ) → at ≤ length s → record_item s at ≡ Some (Sheet kind)
      → ltb (get_or (noted_before s at).sheets kind 0) (length s) ≡ repeated s at
  sheet-repeated at kind l is =
      let r = record-of-sheet s at kind is in
      rw (noted-sheet s at kind r.known, r.kind-is, ne_eqb kind amendment_kind r.no-amendment) (offset-stands at (Some (Sheet kind)) l is)

  -- an amendment is not repeated in the sense of 4
  pub amendment-single : (at cell number : ℕ) → record_item s at ≡ Some (Amendment cell number) → repeated s at ≡ false
  amendment-single at cell number is = simp (eq-eqb (record_kind s at) amendment_kind (record-of-amendment s at cell number is).kind-is)

  -- a record of no item stands nowhere before
  nothing-stands : (at : ℕ) → record_item s at ≡ None → stands_before s at ≡ false
  unfolding stands_before first_with
  nothing-stands at e = rw e (by (ltb (first_with s None at) at) refl)
    where
      by : (b : Bool) → ltb (first_with s None at) at ≡ b → b ≡ false
      by true t =
          absurd (true≢false (sym (first_passes s (λ (i : ℕ). same_item (record_item s i) None) at (ltb-true (first_with s None at) at t))
          ∙ same-nothing (record_item s (first_with s None at))))
      by false t = refl

  pub nothing-repeated : (at : ℕ) → record_item s at ≡ None → repeated s at ≡ false
  nothing-repeated at e = rw (nothing-stands at e) (and-false (not (eqb (record_kind s at) amendment_kind)))

  -- a cell or a sheet that is not repeated stands nowhere before
  pub single-stands : (at : ℕ) (item : Option Item) → record_item s at ≡ item → plain_item item ≡ true → repeated s at ≡ false → stands_before s at ≡ false
  single-stands at (Some (Cell cell)) is p h = simp (gives-plain (record_kind s at) (record-of-cell s at cell is).gives) at h
  single-stands at (Some (Sheet kind)) is p h =
      let r = record-of-sheet s at kind is in
      simp (ne_eqb (record_kind s at) amendment_kind (λ e. r.no-amendment (sym r.kind-is ∙ e))) at h
  single-stands at (Some (Amendment cell number)) is p h = absurd (true≢false (sym p))
  single-stands at None is p h = nothing-stands at is

  -- 16 is about amendments alone
  pub amendment-stands : (at cell number : ℕ) → record_item s at ≡ Some (Amendment cell number) → amendment_repeated s at ≡ stands_before s at
  amendment-stands at cell number is = simp (eq-eqb (record_kind s at) amendment_kind (record-of-amendment s at cell number is).kind-is)

  pub plain-single : (at : ℕ) (item : Option Item) → record_item s at ≡ item → plain_item item ≡ true → amendment_repeated s at ≡ false
  plain-single at (Some (Cell cell)) is p = simp (gives-plain (record_kind s at) (record-of-cell s at cell is).gives)
  plain-single at (Some (Sheet kind)) is p =
      let r = record-of-sheet s at kind is in
      simp (ne_eqb (record_kind s at) amendment_kind (λ e. r.no-amendment (sym r.kind-is ∙ e)))
  plain-single at (Some (Amendment cell number)) is p = absurd (true≢false (sym p))
  plain-single at None is p = rw (nothing-stands at is) (and-false (eqb (record_kind s at) amendment_kind))

  -- what is noted of a kind of sheet
  pub sheet-before : (at kind : ℕ) → at ≤ length s → kind < kind_count → ltb (get_or (noted_before s at).sheets kind 0) (length s) ≡ sheet_before s at kind
  unfolding sheet_before
  sheet-before at kind l h = rw (noted-sheet s at kind h) (offset-noted at (Some (Sheet kind)) l)
