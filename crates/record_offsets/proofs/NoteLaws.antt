-- The rank of a record, and what is noted of the records before one: where an item is noted, and what is noted once all of them are read.
-- Assumes nothing.
use Rattle.std.specs.Prelude.{Option, Some}
use Prim.Native.Nat.{ℕ, ◌+◌, ◌-◌, ◌/◌, ◌^◌, ◌≤◌, ◌<◌}
use native.Mathlib.Omega.{arith}
use mathlib.Core.Path.{◌≡◌, refl, ap, ◌∙◌}
use mathlib.Core.Bool.{Bool, true, false, cond, ◌||◌}
use mathlib.Core.List.{List}
use borrow.Author.Tests.{ltb-false, eqb-true, eq-eqb, ne_eqb}
use lib.Dec.{ltb, eqb}
use lib.ListN.{length, get_or}
use Rattle.lists.proofs.TableLaws.{table_from-get_or, table-get_or}
use Rattle.form.specs.Cells.{first_cell, cell_count}
use Rattle.record_kinds.specs.declared.items.Item.{Item}
use Rattle.record_kinds.specs.declared.items.Item.TheVariants.{Cell, Sheet, Amendment}
use Rattle.record_kinds.specs.Kinds.{kind_count, amendment_kind, gives_cell, names_cell}
use Rattle.record_kinds.specs.Items.{same_item, record_class, record_item, first_with}
use Rattle.record_offsets.specs.Counting.{item_rank, rank, counting, counting_before}
use Rattle.record_offsets.specs.Inner.Notes.{offset_before, block_size, block_count, block_of, falls_before, noted_before}
use Rattle.record_fields.specs.Records.{record_kind, record_cell, amendment_number}
use Rattle.record_fields.proofs.RecordLaws.{first-le}

-- a number has one of the blocks
pub block-lt : (number : ℕ) → block_of number < block_count
unfolding block_of
block-lt number = omega arith

-- the blocks of numbers of 2 bytes are theirs alone
pub block-is : (number : ℕ) → number < 2 ^ 16 → number / block_size ≡ block_of number
unfolding block_of
block-is number h = omega arith

module _ (s : List ℕ) where
  -- the rank of a record for its own cell
  pub rank-of-cell : (at cell : ℕ) → record_item s at ≡ Some (Cell cell) → rank s cell at ≡ 1
  unfolding item_rank
  rank-of-cell at cell e = rw e (simp (eq-eqb cell cell refl))

  pub rank-of-amendment : (at cell number : ℕ) → record_item s at ≡ Some (Amendment cell number) → rank s cell at ≡ number + 1
  unfolding item_rank
  rank-of-amendment at cell number e = rw e (simp (eq-eqb cell cell refl))

  -- a record of a listed cell, by its kind
  pub named-cell : (at : ℕ) {cell : ℕ} → names_cell (record_kind s at) ≡ true → (record_kind s at ≡ amendment_kind → ⊥) → (record_class s at ≡ 0 → ⊥)
      → cell ≡ record_cell s at
      → record_item s at ≡ Some (Cell cell)
  unfolding names_cell record_item
  named-cell at {cell} named other class is = by (gives_cell (record_kind s at)) refl named
    where
      by : (b : Bool) → gives_cell (record_kind s at) ≡ b → (b || eqb (record_kind s at) amendment_kind) ≡ true → record_item s at ≡ Some (Cell cell)
      by true e h = rw (is, e, ne_eqb (record_class s at) 0 class)
      by false e h = absurd (other (eqb-true (record_kind s at) amendment_kind h))

  pub named-amendment : (at : ℕ) {cell number : ℕ} → record_kind s at ≡ amendment_kind → (record_class s at ≡ 0 → ⊥)
      → cell ≡ record_cell s at → number ≡ amendment_number s at
      → record_item s at ≡ Some (Amendment cell number)
  unfolding record_item gives_cell
  named-amendment at kind class p q = rw (p, q) (simp (kind, ne_eqb (record_class s at) 0 class))

  -- which record counts, by the ranks of two
  pub counting-by : (cell before at own : ℕ) → own ≡ rank s cell at → cond (ltb (rank s cell before) own) at before ≡ counting s cell before at
  unfolding counting
  counting-by cell before at own e = rw e

  -- what is noted of a listed cell and of a kind of sheet
  pub noted-cell : (at cell : ℕ) → first_cell ≤ cell → cell < first_cell + cell_count
      → get_or (noted_before s at).cells (cell - first_cell) 0 ≡ offset_before s at (Some (Cell cell))
  unfolding noted_before
  noted-cell at cell l u =
      let e : first_cell + (cell - first_cell) ≡ cell = omega arith in
      table_from-get_or first_cell cell_count (λ (n : ℕ). offset_before s at (Some (Cell n))) (cell - first_cell) 0 (omega arith)
      ∙ ap (λ (n : ℕ). offset_before s at (Some (Cell n))) e

  pub noted-sheet : (at kind : ℕ) → kind < kind_count → get_or (noted_before s at).sheets kind 0 ≡ offset_before s at (Some (Sheet kind))
  unfolding noted_before
  noted-sheet at kind h = table-get_or kind_count (λ (n : ℕ). offset_before s at (Some (Sheet n))) kind 0 h

  pub noted-counting : (at cell : ℕ) → first_cell ≤ cell → cell < first_cell + cell_count
      → get_or (noted_before s at).counting (cell - first_cell) 0 ≡ counting_before s cell at
  unfolding noted_before
  noted-counting at cell l u =
      let e : first_cell + (cell - first_cell) ≡ cell = omega arith in
      table_from-get_or first_cell cell_count (λ (n : ℕ). counting_before s n at) (cell - first_cell) 0 (omega arith)
      ∙ ap (λ (n : ℕ). counting_before s n at) e

  pub noted-falling : (at block : ℕ) → block < block_count → get_or (noted_before s at).falling block false ≡ falls_before s block at
  unfolding noted_before
  noted-falling at block h = table-get_or block_count (λ (n : ℕ). falls_before s n at) block false h

  -- all records read: the first of each item
  pub offset-end : (item : Option Item) → offset_before s (length s) item ≡ first_with s item (length s)
  unfolding offset_before first_with
  offset-end item =
      found (first_with s item (length s)) (length s) (ltb (first_with s item (length s)) (length s)) refl
      (first-le s (λ (at : ℕ). same_item (record_item s at) item) (length s))
    where
      found : (f size : ℕ) (b : Bool) → ltb f size ≡ b → f ≤ size → cond b f size ≡ f
      found f size true e l = refl
      found f size false e l = omega (arith, ltb-false f size e)
