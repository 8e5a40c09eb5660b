-- Repeated amendments, block by block of their numbers: where the numbers of a block rise none is repeated, and the blocks together have all of them.
-- Assumes nothing.
use Rattle.std.specs.Prelude.{Option, Some, None}
use Prim.Native.Nat.{ℕ, zero, suc, ◌≤◌, ◌<◌}
use native.Mathlib.Nat.{le_refl, le_trans}
use native.Mathlib.Omega.{arith}
use mathlib.Core.Path.{◌≡◌, refl, sym, ap, ◌∙◌}
use mathlib.Core.Bool.{Bool, true, false, and-false, ◌&&◌, true≢false}
use mathlib.Core.List.{List}
use borrow.Author.Tests.{le-leb, ltb-true, ltb-false, eq-eqb}
use lib.Dec.{ltb}
use Rattle.lists.specs.Tables.{any_below}
use Rattle.lists.proofs.TestLaws.{and-true, any_here}
use Rattle.record_kinds.specs.declared.items.Item.{Item}
use Rattle.record_kinds.specs.declared.items.Item.TheVariants.{Cell, Sheet, Amendment}
use Rattle.record_fields.specs.Records.{first_record}
use Rattle.record_kinds.specs.Items.{same_item, record_item, first_with}
use Rattle.record_offsets.specs.Counting.{item_rank, rank, counting_before}
use Rattle.record_offsets.specs.Inner.Notes.{block_count, block_of, amends_in, outranked, falls_as, falls, falls_before}
use Rattle.record_fields.proofs.RecordLaws.{first-le}
use Rattle.record_kinds.proofs.ItemLaws.{with-passes}
use Rattle.record_offsets.proofs.NoteLaws.{block-lt}
use Rattle.record_shape.specs.Faults.{stands_before, amendment_repeated}
use Rattle.record_shape.proofs.RepetitionLaws.{amendment-stands, plain-single}
use Rattle.record_fields.proofs.SearchLaws.{Reached}
use Rattle.record_fields.proofs.FirstLaws.{first-none, first-earlier, first-reached, first-same, first-or}
use Rattle.record_offsets.proofs.CountingLaws.{counting-most}
use Rattle.record_checks.specs.Inner.Repetitions.{repeats, repetitions_below}

-- no test passes: none of them does
any-never : (test : ℕ → Bool) (n : ℕ) → ((i : ℕ) → test i ≡ false) → any_below test n ≡ false
unfolding any_below
any-never test zero none = refl
any-never test (suc n) none = rw (any-never test n none) (none n)

module _ (s : List ℕ) where
  earlier-reached : (item : Option Item) (end : ℕ) → first_with s item end < end → Reached s 0 (first_with s item end)
  unfolding first_with
  earlier-reached item end l = first-reached s (λ (j : ℕ). same_item (record_item s j) item) end l

  -- a repeated amendment ranks no higher than the earlier one of its number, and so than the record that counts before it
  repeats-falls : (block at : ℕ) → Reached s 0 at → repeats s block at ≡ true → falls s block at ≡ true
  unfolding repeats falls falls_as amends_in outranked stands_before
  repeats-falls block at r h =
      let parts = and-true (amends_in block (record_item s at)) (ltb (first_with s (record_item s at) at) at) h in
      by (record_item s at) refl parts.0 (ltb-true (first_with s (record_item s at) at) at parts.1)
    where
      by : (item : Option Item) → record_item s at ≡ item → amends_in block item ≡ true → first_with s (record_item s at) at < at → falls_as s block at item ≡ true
      by (Some (Cell n)) e a l = a
      by (Some (Sheet kind)) e a l = a
      by (Some (Amendment cell number)) e a l =
          let i = first_with s (record_item s at) at in
          let same : rank s cell i ≡ rank s cell at = ap (item_rank cell) (with-passes s (record_item s at) at l) in
          let most = counting-most s cell at i (earlier-reached (record_item s at) at l) l in
          rw a (le-leb (rank s cell at) (rank s cell (counting_before s cell at)) (omega (arith, same, most)))
      by None e a l = a

  -- where none falls before `end`, none is repeated before a record up to it
  pub rising-single : (block end first : ℕ) → falls_before s block end ≡ false → first ≤ end → first_record s (repeats s block) first ≡ first
  unfolding falls_before
  rising-single block end first none l =
      first-none s (repeats s block) first
      (λ at r u. by at r (first-earlier s (falls s block) end at r (omega (arith, ltb-false (first_record s (falls s block) end) end none))) (repeats s block at) refl)
    where
      by : (at : ℕ) → Reached s 0 at → falls s block at ≡ false → (b : Bool) → repeats s block at ≡ b → b ≡ false
      by at r f true e = absurd (true≢false (sym (repeats-falls block at r e) ∙ f))
      by at r f false e = refl

  -- 16 at a record is that of one of the blocks: an amendment amends in the block of its number and in no other, and is repeated where the same
  -- stands before; of any other record neither holds
  repeated-any : (at : ℕ) → amendment_repeated s at ≡ any_below (λ (i : ℕ). repeats s i at) block_count
  unfolding repeats amends_in
  repeated-any at = by (record_item s at) refl
    where
      stands : (cell number : ℕ) → record_item s at ≡ Some (Amendment cell number) → (b : Bool) → stands_before s at ≡ b
          → b ≡ any_below (λ (i : ℕ). amends_in i (record_item s at) && stands_before s at) block_count
      stands cell number e true h =
          sym (any_here _ block_count (block_of number) (block-lt number) (rw (e, h) (simp (eq-eqb (block_of number) (block_of number) refl))))
      stands cell number e false h = sym (any-never _ block_count (λ i. rw h (and-false (amends_in i (record_item s at)))))

      by : (item : Option Item) → record_item s at ≡ item → amendment_repeated s at ≡ any_below (λ (i : ℕ). amends_in i (record_item s at) && stands_before s at) block_count
      by (Some (Cell cell)) e = plain-single s at (Some (Cell cell)) e refl ∙ sym (any-never _ block_count (λ i. rw e))
      by (Some (Sheet kind)) e = plain-single s at (Some (Sheet kind)) e refl ∙ sym (any-never _ block_count (λ i. rw e))
      by (Some (Amendment cell number)) e = amendment-stands s at cell number e ∙ stands cell number e (stands_before s at) refl
      by None e = plain-single s at None e refl ∙ sym (any-never _ block_count (λ i. rw e))

  -- the search block by block is the search for all of the numbers
  blocks-first : (n end : ℕ) → repetitions_below s n end ≡ first_record s (λ (at : ℕ). any_below (λ (i : ℕ). repeats s i at) n) end
  unfolding repetitions_below any_below
  blocks-first zero end = sym (first-none s (λ (at : ℕ). false) end (λ at r u. refl))
  blocks-first (suc n) end =
      ap (first_record s (repeats s n)) (blocks-first n end)
      ∙ sym (first-or s (λ (at : ℕ). any_below (λ (i : ℕ). repeats s i at) n) (repeats s n) end)

  pub repetitions-first : (end : ℕ) → repetitions_below s block_count end ≡ first_record s (amendment_repeated s) end
  repetitions-first end = blocks-first block_count end ∙ sym (first-same s (amendment_repeated s) _ end repeated-any)

  pub repetitions-le : (n end : ℕ) → repetitions_below s n end ≤ end
  unfolding repetitions_below
  repetitions-le zero end = le_refl end
  repetitions-le (suc n) end = le_trans (first-le s (repeats s n) (repetitions_below s n end)) (repetitions-le n end)
