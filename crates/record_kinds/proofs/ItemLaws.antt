-- What a record is one of: which records are of a cell, of an amendment and of a sheet, and when two items are the same.
-- Assumes nothing.
use Rattle.std.specs.Prelude.{Option, Some, None}
use Prim.Native.Nat.{ℕ, ◌+◌, ◌≤◌, ◌<◌}
use native.Mathlib.Omega.{arith}
use mathlib.Core.Path.{◌≡◌, refl, sym, ap, ◌∙◌}
use mathlib.Core.Bool.{Bool, true, false, cond, true≢false}
use mathlib.Core.List.{List}
use borrow.Author.Tests.{ltb-true, ltb-false, eqb-true, eqb-false, eq-eqb, ne_eqb}
use lib.Dec.{ltb, eqb}
use lib.ListN.{length, get_or-eq_default}
use Rattle.lists.proofs.TestLaws.{and-true}
use Rattle.form.specs.Cells.{first_cell, cell_count}
use Rattle.form.specs.Limits.{coupon_class}
use Rattle.form.specs.Classes.{cell_class}
use Rattle.form.proofs.ClassLaws.{class-listed}
use Rattle.record_kinds.specs.declared.items.Item.{Item}
use Rattle.record_kinds.specs.declared.items.Item.TheVariants.{Cell, Sheet, Amendment}
use Rattle.record_fields.specs.Records.{record_kind, record_cell, amendment_number}
use Rattle.record_kinds.specs.Kinds.{kind_count, cell_kind, fine_coupon_kind, amendment_kind, gives_cell, sheet_of, sheet_kinds, sheet_kind, sheet_length, tiers_kind, due_length}
use Rattle.record_kinds.specs.Items.{same_item, record_class, record_item, first_with}
use Rattle.record_fields.proofs.ByteLaws.{number_past}
use Rattle.record_fields.proofs.RecordLaws.{first_passes}

-- the same item is the one item: items of two sorts are never the same, and of one sort they are where their numbers are equal
pub same_item_lem : (a b : Option Item) → same_item a b ≡ true → a ≡ b
unfolding same_item
same_item_lem (Some (Cell m)) (Some (Cell n)) e = ap (λ (c : ℕ). Some (Cell c)) (eqb-true m n e)
same_item_lem (Some (Cell m)) (Some (Sheet n)) e = absurd (true≢false (sym e))
same_item_lem (Some (Cell m)) (Some (Amendment n b)) e = absurd (true≢false (sym e))
same_item_lem (Some (Cell m)) None e = absurd (true≢false (sym e))
same_item_lem (Some (Sheet m)) (Some (Cell n)) e = absurd (true≢false (sym e))
same_item_lem (Some (Sheet m)) (Some (Sheet n)) e = ap (λ (c : ℕ). Some (Sheet c)) (eqb-true m n e)
same_item_lem (Some (Sheet m)) (Some (Amendment n b)) e = absurd (true≢false (sym e))
same_item_lem (Some (Sheet m)) None e = absurd (true≢false (sym e))
same_item_lem (Some (Amendment m a)) (Some (Cell n)) e = absurd (true≢false (sym e))
same_item_lem (Some (Amendment m a)) (Some (Sheet n)) e = absurd (true≢false (sym e))
same_item_lem (Some (Amendment m a)) (Some (Amendment n b)) e =
    let h = and-true (eqb m n) (eqb a b) e in
    ap (λ (c : ℕ). Some (Amendment c a)) (eqb-true m n h.0) ∙ ap (λ (c : ℕ). Some (Amendment n c)) (eqb-true a b h.1)
same_item_lem (Some (Amendment m a)) None e = absurd (true≢false (sym e))
same_item_lem None b e = absurd (true≢false (sym e))

-- the sort of an item; items of two sorts are not equal
abbrev sort_of : Option Item → ℕ
sort_of (Some (Cell m)) = 0
sort_of (Some (Sheet m)) = 1
sort_of (Some (Amendment m a)) = 2
sort_of None = 3

not-same-sort : (a b : Option Item) → eqb (sort_of a) (sort_of b) ≡ false → a ≡ b → ⊥
not-same-sort a b d e = eqb-false (sort_of a) (sort_of b) d (ap sort_of e)

-- nothing is the same as no item
pub same-nothing : (a : Option Item) → same_item a None ≡ false
unfolding same_item
same-nothing (Some (Cell m)) = refl
same-nothing (Some (Sheet m)) = refl
same-nothing (Some (Amendment m a)) = refl
same-nothing None = refl

-- a record that is found by its item is of that item
pub with-passes : (s : List ℕ) (item : Option Item) (end : ℕ) → first_with s item end < end → record_item s (first_with s item end) ≡ item
unfolding first_with
with-passes s item end h =
    same_item_lem (record_item s (first_with s item end)) item (first_passes s (λ (at : ℕ). same_item (record_item s at) item) end h)

-- no record stands past the end
pub item-past : (s : List ℕ) (at : ℕ) → length s ≤ at → record_item s at ≡ None
unfolding record_item gives_cell sheet_kinds sheet_kind sheet_of sheet_length due_length
item-past s at h = simp (number_past s (at + 2) 2 (omega arith))

-- a kind that is not known has no length
unknown-due : (s : List ℕ) (at : ℕ) → kind_count ≤ record_kind s at → due_length s at ≡ 0
unfolding gives_cell sheet_kinds sheet_kind sheet_of sheet_length due_length
unknown-due s at h =
    simp (
      ne_eqb (record_kind s at) cell_kind (λ e. omega arith),
      ne_eqb (record_kind s at) fine_coupon_kind (λ e. omega arith),
      ne_eqb (record_kind s at) amendment_kind (λ e. omega arith),
      ne_eqb (record_kind s at) tiers_kind (λ e. omega arith),
      get_or-eq_default sheet_kinds (sheet_of 0 0 0) {n = record_kind s at} h,
    )

-- a kind with a length is one of the kinds
kind-known : (s : List ℕ) (at : ℕ) → (due_length s at ≡ 0 → ⊥) → record_kind s at < kind_count
kind-known s at h = by (ltb (record_kind s at) kind_count) refl
  where
    by : (b : Bool) → ltb (record_kind s at) kind_count ≡ b → record_kind s at < kind_count
    by true e = ltb-true (record_kind s at) kind_count e
    by false e = absurd (h (unknown-due s at (ltb-false (record_kind s at) kind_count e)))

-- a record of a cell: its kind gives a cell its value, and it holds that cell, which is listed; one of kind 6 holds a coupon
pub record OfCell (s : List ℕ) (at cell : ℕ) : Type 0 where
  pub gives : gives_cell (record_kind s at) ≡ true
  pub cell-is : record_cell s at ≡ cell
  pub from_first : first_cell ≤ cell
  pub to_last : cell < first_cell + cell_count
  pub coupon : record_kind s at ≡ fine_coupon_kind → cell_class cell ≡ coupon_class

-- a record of an amendment: it is of kind 7, and holds that cell, which is listed, and that number
pub record OfAmendment (s : List ℕ) (at cell number : ℕ) : Type 0 where
  pub kind-is : record_kind s at ≡ amendment_kind
  pub cell-is : record_cell s at ≡ cell
  pub number_is : amendment_number s at ≡ number
  pub from_first : first_cell ≤ cell
  pub to_last : cell < first_cell + cell_count

-- a record of a sheet: it is of that kind, which is one of the kinds
pub record OfSheet (s : List ℕ) (at kind : ℕ) : Type 0 where
  pub kind-is : record_kind s at ≡ kind
  pub gives_no_cell : gives_cell kind ≡ false
  pub no-amendment : kind ≡ amendment_kind → ⊥
  pub known : kind < kind_count

-- a class that is listed: the class of the cell itself, and for kind 6 a coupon's
listed-class : (class : ℕ) (fine coupon : Bool) → eqb class coupon_class ≡ coupon → (cond fine (cond coupon coupon_class 0) class ≡ 0 → ⊥)
    → (class ≡ 0 → ⊥) × (fine ≡ true → class ≡ coupon_class)
listed-class class true true e h = (λ z. omega (arith, eqb-true class coupon_class e), λ f. eqb-true class coupon_class e)
listed-class class true false e h = absurd (h refl)
listed-class class false coupon e h = (h, λ f. absurd (true≢false (sym f)))

module _ (s : List ℕ) (at : ℕ) where
  -- the item by the tests: the kind gives a cell, the cell is not listed, the kind is an amendment's, it is not known
  abbrev item_by : Bool → Bool → Bool → Bool → Option Item
  item_by gives off amends none =
      cond gives (cond off None (Some (Cell (record_cell s at))))
      (cond amends (cond off None (Some (Amendment (record_cell s at) (amendment_number s at)))) (cond none None (Some (Sheet (record_kind s at)))))

  class-is : (record_class s at ≡ 0 → ⊥)
      → (cell_class (record_cell s at) ≡ 0 → ⊥) × (eqb (record_kind s at) fine_coupon_kind ≡ true → cell_class (record_cell s at) ≡ coupon_class)
  unfolding record_class
  class-is = listed-class (cell_class (record_cell s at)) (eqb (record_kind s at) fine_coupon_kind) (eqb (cell_class (record_cell s at)) coupon_class) refl

  -- a cell of a class that is listed
  pub cell-listed : (record_class s at ≡ 0 → ⊥) → (first_cell ≤ record_cell s at) × (record_cell s at < first_cell + cell_count)
  cell-listed h = let l = class-listed (record_cell s at) (class-is h).0 in (omega (arith, l.0), omega (arith, l.1))

  -- An item is a cell only where the kind gives one and its cell is listed; in every other case it is of another sort. There the cell is the
  -- record's, a listed cell lies from the first to the last, and for kind 6 the listed class is a coupon's
  of-cell : (cell : ℕ) (gives off amends none : Bool) → gives_cell (record_kind s at) ≡ gives → eqb (record_class s at) 0 ≡ off
      → item_by gives off amends none ≡ Some (Cell cell) → OfCell s at cell
  of-cell cell true true amends none a b e = absurd (not-same-sort _ _ refl e)
  of-cell cell true false amends none a b e =
      let is : record_cell s at ≡ cell = cc in
      let class = eqb-false (record_class s at) 0 b in
      record {
        gives = a;
        cell-is = is;
        from_first = rw is at (cell-listed class).0;
        to_last = rw is at (cell-listed class).1;
        coupon = λ k. rw is at ((class-is class).1 (eq-eqb (record_kind s at) fine_coupon_kind k));
      }
  of-cell cell false true true none a b e = absurd (not-same-sort _ _ refl e)
  of-cell cell false false true none a b e = absurd (not-same-sort _ _ refl e)
  of-cell cell false off false true a b e = absurd (not-same-sort _ _ refl e)
  of-cell cell false off false false a b e = absurd (not-same-sort _ _ refl e)

  -- an item is an amendment only where the kind is 7 and its cell is listed; in every other case it is of another sort. There cell and number
  -- are the record's, and a listed cell lies from the first to the last
  of-amendment : (cell number : ℕ) (gives off amends none : Bool) → eqb (record_kind s at) amendment_kind ≡ amends → eqb (record_class s at) 0 ≡ off
      → item_by gives off amends none ≡ Some (Amendment cell number) → OfAmendment s at cell number
  of-amendment cell number true true amends none a b e = absurd (not-same-sort _ _ refl e)
  of-amendment cell number true false amends none a b e = absurd (not-same-sort _ _ refl e)
  of-amendment cell number false true true none a b e = absurd (not-same-sort _ _ refl e)
  of-amendment cell number false false true none a b e =
      let is : record_cell s at ≡ cell = cc in
      let class = eqb-false (record_class s at) 0 b in
      record {
        kind-is = eqb-true (record_kind s at) amendment_kind a;
        cell-is = is;
        number_is = cc;
        from_first = rw is at (cell-listed class).0;
        to_last = rw is at (cell-listed class).1;
      }
  of-amendment cell number false off false true a b e = absurd (not-same-sort _ _ refl e)
  of-amendment cell number false off false false a b e = absurd (not-same-sort _ _ refl e)

  -- an item is a sheet only where the kind gives no cell, is no amendment's and has a length; in every other case it is of another sort.
  -- A kind that has a length is one of the kinds
  of-sheet : (kind : ℕ) (gives off amends none : Bool) → gives_cell (record_kind s at) ≡ gives → eqb (record_kind s at) amendment_kind ≡ amends
      → eqb (due_length s at) 0 ≡ none
      → item_by gives off amends none ≡ Some (Sheet kind) → OfSheet s at kind
  of-sheet kind true true amends none a b d e = absurd (not-same-sort _ _ refl e)
  of-sheet kind true false amends none a b d e = absurd (not-same-sort _ _ refl e)
  of-sheet kind false true true none a b d e = absurd (not-same-sort _ _ refl e)
  of-sheet kind false false true none a b d e = absurd (not-same-sort _ _ refl e)
  of-sheet kind false off false true a b d e = absurd (not-same-sort _ _ refl e)
  of-sheet kind false off false false a b d e =
      let is : record_kind s at ≡ kind = cc in
      record {
        kind-is = is;
        gives_no_cell = rw is at a;
        no-amendment = λ k. eqb-false (record_kind s at) amendment_kind b (is ∙ k);
        known = rw (← is) (kind-known s at (eqb-false (due_length s at) 0 d));
      }

  pub record-of-cell : (cell : ℕ) → record_item s at ≡ Some (Cell cell) → OfCell s at cell
  unfolding record_item
  record-of-cell cell e =
      of-cell cell (gives_cell (record_kind s at)) (eqb (record_class s at) 0) (eqb (record_kind s at) amendment_kind) (eqb (due_length s at) 0) refl refl e

  pub record-of-amendment : (cell number : ℕ) → record_item s at ≡ Some (Amendment cell number) → OfAmendment s at cell number
  unfolding record_item
  record-of-amendment cell number e =
      of-amendment cell number (gives_cell (record_kind s at)) (eqb (record_class s at) 0) (eqb (record_kind s at) amendment_kind) (eqb (due_length s at) 0) refl refl e

  pub record-of-sheet : (kind : ℕ) → record_item s at ≡ Some (Sheet kind) → OfSheet s at kind
  unfolding record_item
  record-of-sheet kind e =
      of-sheet kind (gives_cell (record_kind s at)) (eqb (record_class s at) 0) (eqb (record_kind s at) amendment_kind) (eqb (due_length s at) 0) refl refl refl e
