-- The record that counts for a cell, and whether its amendments rise, once one record more is read; it ranks as high as each record.
-- Assumes nothing.
use Rattle.std.specs.Prelude.{Option, Some, None}
use Prim.Native.Nat.{ℕ, zero, suc, ◌+◌, ◌≤◌, ◌<◌}
use native.Mathlib.Nat.{le_refl}
use native.Mathlib.Omega.{arith}
use mathlib.Core.Path.{◌≡◌, refl, sym, ◌∙◌}
use mathlib.Core.Bool.{Bool, true, false, cond, or-false, ◌||◌}
use mathlib.Core.List.{List}
use borrow.Author.Tests.{eqb-true, le-leb, lt-leb, leb-false, ltb-true, ltb-false, le-ltb}
use lib.Dec.{eqb, leb, ltb}
use lib.ListN.{length}
use Rattle.record_fields.specs.Records.{next_record}
use Rattle.record_kinds.specs.declared.items.Item.{Item}
use Rattle.record_kinds.specs.declared.items.Item.TheVariants.{Cell, Sheet, Amendment}
use Rattle.record_kinds.specs.Items.{record_item}
use Rattle.record_offsets.specs.Counting.{item_rank, rank, counting, counts_from, counting_before}
use Rattle.record_offsets.specs.Inner.Notes.{amends_in, falls_as, falls, falls_before}
use Rattle.record_fields.proofs.SearchLaws.{Reached, here, step, next-lt, reached-le, reached-next, found-next}

-- a rank above 0 is that of the cell itself
pub ranked-cell : (m n number : ℕ) → 0 < cond (eqb m n) number 0 → m ≡ n
ranked-cell m n number = by (eqb m n) refl
  where
    by : (b : Bool) → eqb m n ≡ b → 0 < cond b number 0 → m ≡ n
    by true e l = eqb-true m n e
    by false e l = absurd (omega arith)

module _ (s : List ℕ) (cell : ℕ) where
  counts_end : (end before at steps : ℕ) → end ≤ at → counts_from s cell end before at steps ≡ before
  unfolding counts_from
  counts_end end before at zero h = refl
  counts_end end before at (suc steps) h = simp (le-leb end at h)

  counts-more : (end before at steps : ℕ) → at < end
      → counts_from s cell end before at (suc steps) ≡ counts_from s cell end (counting s cell before at) (next_record s at) steps
  unfolding counts_from
  counts-more end before at steps h = simp (lt-leb end at h)

  -- By the way from the start to the record at `at`: there the shorter walk has ended and the longer one takes that record too
  counts-next : {from at : ℕ} → Reached s from at → (before n m : ℕ) → at ≤ from + n → next_record s at ≤ from + m
      → counts_from s cell (next_record s at) before from m ≡ counting s cell (counts_from s cell at before from n) at
  counts-next {from} here before n zero p q = absurd (omega (arith, next-lt s from))
  counts-next {from} here before n (suc m) p q =
      rw (counts_end from before from n (le_refl from))
      (counts-more (next_record s from) before from m (omega (arith, next-lt s from))
      ∙ counts_end (next_record s from) (counting s cell before from) (next_record s from) m (le_refl (next_record s from)))
  counts-next {from} (step r) before zero m p q = absurd (omega (arith, next-lt s from, reached-le s r))
  counts-next {from} {at} (step r) before (suc n) zero p q = absurd (omega (arith, next-lt s from, next-lt s at, reached-le s r))
  counts-next {from} {at} (step r) before (suc n) (suc m) p q =
      rw (
        counts-more (next_record s at) before from m (omega (arith, next-lt s from, next-lt s at, reached-le s r)),
        counts-more at before from n (omega (arith, next-lt s from, reached-le s r)),
      )
      (counts-next r (counting s cell before from) n m (omega (arith, next-lt s from)) (omega (arith, next-lt s from)))

  pub counting-next : {at : ℕ} → Reached s 0 at → counting_before s cell (next_record s at) ≡ counting s cell (counting_before s cell at) at
  unfolding counting_before
  counting-next {at} r = counts-next r (length s) at (next_record s at) (omega arith) (omega arith)

  -- a record that is not of the cell changes nothing
  pub counting-stays : {at : ℕ} → Reached s 0 at → item_rank cell (record_item s at) ≡ 0 → counting_before s cell at ≡ counting_before s cell (next_record s at)
  unfolding counting
  counting-stays {at} r none =
      let none_above : rank s cell at ≤ rank s cell (counting_before s cell at) = omega (arith, none) in
      sym (counting-next r ∙ simp (le-ltb (rank s cell (counting_before s cell at)) (rank s cell at) none_above))

  -- the record that counts ranks as high as each of the records
  counting-above : (before at : ℕ) → (rank s cell before ≤ rank s cell (counting s cell before at)) × (rank s cell at ≤ rank s cell (counting s cell before at))
  unfolding counting
  counting-above before at = by (ltb (rank s cell before) (rank s cell at)) refl
    where
      by : (b : Bool) → ltb (rank s cell before) (rank s cell at) ≡ b
          → (rank s cell before ≤ rank s cell (cond b at before)) × (rank s cell at ≤ rank s cell (cond b at before))
      by true e = (omega (arith, ltb-true (rank s cell before) (rank s cell at) e), omega arith)
      by false e = (omega arith, omega (arith, ltb-false (rank s cell before) (rank s cell at) e))

  counts-above : (end before at steps : ℕ) → rank s cell before ≤ rank s cell (counts_from s cell end before at steps)
  unfolding counts_from
  counts-above end before at zero = omega arith
  counts-above end before at (suc steps) =
      by (leb end at) _ (omega (arith, counts-above end (counting s cell before at) (next_record s at) steps, (counting-above before at).0))
    where
      by : (over : Bool) (later : ℕ) → rank s cell before ≤ rank s cell later → rank s cell before ≤ rank s cell (cond over before later)
      by true later h = omega arith
      by false later h = h

  -- by steps to the record: once it is read the record that counts ranks as high, and no later one that counts ranks lower; the steps suffice,
  -- since each moves on by a byte at least
  counts-most : {from at : ℕ} → Reached s from at → (end before steps : ℕ) → at < end → end ≤ from + steps
      → rank s cell at ≤ rank s cell (counts_from s cell end before from steps)
  counts-most here end before zero l q = absurd (omega arith)
  counts-most {from} here end before (suc steps) l q =
      rw (counts-more end before from steps l)
      (omega (arith, (counting-above before from).1, counts-above end (counting s cell before from) (next_record s from) steps))
  counts-most {from} (step r) end before zero l q = absurd (omega (arith, next-lt s from, reached-le s r))
  counts-most {from} (step r) end before (suc steps) l q =
      rw (counts-more end before from steps (omega (arith, next-lt s from, reached-le s r)))
      (counts-most r end (counting s cell before from) steps l (omega (arith, next-lt s from)))

  pub counting-most : (end at : ℕ) → Reached s 0 at → at < end → rank s cell at ≤ rank s cell (counting_before s cell end)
  unfolding counting_before
  counting-most end at r l = counts-most r end (length s) end l (omega arith)

  -- what holds of the input's length, and of each record of the cell, holds of the record that counts: it stays what it was, or becomes a record
  -- that ranks above it, and so above 0
  counts-holds : (P : ℕ → Type 0) (end before from steps : ℕ) → Reached s 0 from → P before
      → ((at : ℕ) → Reached s 0 at → at < end → 0 < rank s cell at → P at) → P (counts_from s cell end before from steps)
  unfolding counts_from counting
  counts-holds P end before from zero r h each = h
  counts-holds P end before from (suc steps) r h each =
      by (leb end from) (ltb (rank s cell before) (rank s cell from)) refl refl (λ n p. counts-holds P end n (next_record s from) steps (reached-next s r) p each)
    where
      by : (over above : Bool) → leb end from ≡ over → ltb (rank s cell before) (rank s cell from) ≡ above
          → ((n : ℕ) → P n → P (counts_from s cell end n (next_record s from) steps))
          → P (cond over before (counts_from s cell end (cond above from before) (next_record s from) steps))
      by true above o a rest = h
      by false true o a rest = rest from (each from r (leb-false end from o) (omega (arith, ltb-true (rank s cell before) (rank s cell from) a)))
      by false false o a rest = rest before h

  pub counting_holds : (P : ℕ → Type 0) (end : ℕ) → P (length s) → ((at : ℕ) → Reached s 0 at → at < end → 0 < rank s cell at → P at)
      → P (counting_before s cell end)
  unfolding counting_before
  counting_holds P end none each = counts-holds P end (length s) 0 end here none each

module _ (s : List ℕ) (block : ℕ) where
  pub falls-next : {at : ℕ} → Reached s 0 at → falls_before s block (next_record s at) ≡ (falls_before s block at || falls s block at)
  unfolding falls_before
  falls-next r = found-next s (falls s block) r

  -- a record that is no amendment with a number of the block changes nothing
  pub falls-stays : {at : ℕ} → Reached s 0 at → amends_in block (record_item s at) ≡ false → falls_before s block at ≡ falls_before s block (next_record s at)
  unfolding falls amends_in falls_as
  falls-stays {at} r none = sym (falls-next r ∙ rw (not-falling (record_item s at) none) (or-false (falls_before s block at)))
    where
      not-falling : (item : Option Item) → amends_in block item ≡ false → falls_as s block at item ≡ false
      not-falling (Some (Cell n)) e = refl
      not-falling (Some (Sheet kind)) e = refl
      not-falling (Some (Amendment n number)) e = simp e
      not-falling None e = refl
