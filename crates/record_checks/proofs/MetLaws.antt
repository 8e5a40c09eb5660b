-- The cells and numbers met in a pass for a block: none at its start, one record more, and what they say of the record at hand.
-- Assumes nothing.
use Rattle.std.specs.Prelude.{Option, Some, None}
use Prim.Native.Nat.{ℕ, ◌+◌, ◌*◌, ◌/◌, ◌%◌, ◌^◌, ◌≤◌, ◌<◌}
use native.Mathlib.Nat.{div-eq_of_lt}
use native.Mathlib.Omega.{arith}
use mathlib.Core.Path.{◌≡◌, refl, sym, ap, ◌∙◌}
use mathlib.Core.Bool.{Bool, true, false, cond, and-false, or-false, or_comm, ◌||◌, ◌&&◌}
use mathlib.Core.List.{List}
use borrow.Author.Tests.{eqb-true, eqb-false, eq-eqb, ne_eqb}
use lib.Dec.{eqb, ltb}
use lib.ListN.{length, replicate, length-set}
use lib.Pow.{pow_pos}
use Rattle.lists.proofs.TableLaws.{zeros-get_or}
use Rattle.record_checks.specs.Members.{bit, member, with_member}
use Rattle.record_checks.proofs.BitLaws.{member-with}
use Rattle.form.specs.Cells.{first_cell, cell_count}
use Rattle.record_kinds.specs.declared.items.Item.{Item}
use Rattle.record_kinds.specs.declared.items.Item.TheVariants.{Cell, Sheet, Amendment}
use Rattle.record_fields.specs.Records.{amendment_number, next_record, search_records, first_record}
use Rattle.record_kinds.specs.Items.{same_item, record_item, first_with}
use Rattle.record_offsets.specs.Inner.Notes.{block_size, block_of, amends_in}
use Rattle.record_fields.proofs.ByteLaws.{Bytes, number_lt}
use Rattle.record_kinds.proofs.ItemLaws.{record-of-amendment}
use Rattle.record_offsets.proofs.NoteLaws.{block-is}
use Rattle.record_shape.specs.Faults.{stands_before}
use Rattle.record_fields.proofs.SearchLaws.{Reached, found-next}
use Rattle.record_checks.specs.Inner.Repetitions.{repeats, key_of, met_again, met_with}

-- the words of a set
abbrev pub word_count : ℕ
word_count = 1024

-- a set of no word but 0 has no member
none-member : (n v : ℕ) → member (replicate n 0) v ≡ false
unfolding member bit
none-member n v = rw (zeros-get_or n (v / 64), div-eq_of_lt (pow_pos (v % 64)))

-- a cell that is noted, with a number of a block
pub record InBlock (block cell number : ℕ) : Type 0 where
  pub from_first : first_cell ≤ cell
  pub to_last : cell < first_cell + cell_count
  pub number_lt : number < 2 ^ 16
  pub block-is : block_of number ≡ block

-- it has an index of its own in the set
key-lt : {block cell number : ℕ} → InBlock block cell number → key_of cell number / 64 < word_count
unfolding key_of
key-lt h = omega (arith, h.from_first, h.to_last)

key-alone : {block cell number n m : ℕ} → InBlock block cell number → InBlock block n m → key_of cell number ≡ key_of n m → (cell ≡ n) × (number ≡ m)
unfolding key_of block_of
key-alone h o e =
    (omega (arith, h.from_first, o.from_first, e), omega (arith, h.from_first, o.from_first, h.number_lt, o.number_lt, h.block-is, o.block-is, e))

key-same : {block cell number n m : ℕ} → InBlock block cell number → InBlock block n m
    → eqb (key_of cell number) (key_of n m) ≡ same_item (Some (Amendment n m)) (Some (Amendment cell number))
unfolding same_item
key-same {block} {cell} {number} {n} {m} h o = by (eqb n cell) (eqb m number) refl refl
  where
    by : (a b : Bool) → eqb n cell ≡ a → eqb m number ≡ b → eqb (key_of cell number) (key_of n m) ≡ (a && b)
    by true true p q = eq-eqb (key_of cell number) (key_of n m) (rw (eqb-true n cell p, eqb-true m number q))
    by true false p q = ne_eqb (key_of cell number) (key_of n m) (λ k. eqb-false m number q (sym (key-alone h o k).1))
    by false b p q = ne_eqb (key_of cell number) (key_of n m) (λ k. eqb-false n cell p (sym (key-alone h o k).0))

-- the number of an amendment is what is read for it, in its block
pub number-block : (s : List ℕ) (at n number : ℕ) → Bytes s → record_item s at ≡ Some (Amendment n number) → amendment_number s at / block_size ≡ block_of number
number-block s at n number bytes e =
    let of = record-of-amendment s at n number e in
    let small : number < 2 ^ 16 = omega (arith, number_lt s (at + 2 + 2 * 2) 2 bytes, of.number_is) in
    ap (λ (v : ℕ). v / block_size) of.number_is ∙ block-is number small

-- where what would be its number is of another block, a record meets nothing: it is no amendment, or one whose number is of that other block
pub other-met : (s : List ℕ) (block at : ℕ) (met : List ℕ) → Bytes s → (amendment_number s at / block_size ≡ block → ⊥)
    → (met_again block (record_item s at) met ≡ false) × (met_with block (record_item s at) met ≡ met)
unfolding met_again met_with
other-met s block at met bytes other = by (record_item s at) refl
  where
    by : (item : Option Item) → record_item s at ≡ item → (met_again block item met ≡ false) × (met_with block item met ≡ met)
    by (Some (Cell n)) e = (refl, refl)
    by (Some (Sheet kind)) e = (refl, refl)
    by (Some (Amendment n number)) e =
        let none = ne_eqb (block_of number) block (λ q. other (number-block s at n number bytes e ∙ q)) in
        (simp none, simp none)
    by None e = (refl, refl)

module _ (s : List ℕ) (block : ℕ) where
  -- the members of the set are the cells and numbers of the block's amendments before `at`
  pub record Met (at : ℕ) (met : List ℕ) : Type 0 where
    pub long : length met ≡ word_count
    pub holds : (cell v : ℕ) → InBlock block cell v → member met (key_of cell v) ≡ ltb (first_with s (Some (Amendment cell v)) at) at

  -- before the first record none is met
  pub met_start : Met 0 (replicate word_count 0)
  unfolding first_with first_record search_records
  met_start = record { long = refl; holds = λ cell v h. none-member word_count (key_of cell v) }

  -- the cell and number of an amendment that is a record
  in_block : Bytes s → (at n number : ℕ) → record_item s at ≡ Some (Amendment n number) → block_of number ≡ block → InBlock block n number
  in_block bytes at n number e b =
      let of = record-of-amendment s at n number e in
      record {
        from_first = of.from_first;
        to_last = of.to_last;
        number_lt = omega (arith, number_lt s (at + 2 + 2 * 2) 2 bytes, of.number_is);
        block-is = b;
      }

  module _ (at : ℕ) (met : List ℕ) (so_far : Met at met) (bytes : Bytes s) where
    -- the record at hand has a cell and number that were met just where it repeats an amendment: an amendment of the block is met just where the
    -- same stands before, and any other record neither meets nor repeats
    pub again-is : met_again block (record_item s at) met ≡ repeats s block at
    unfolding repeats stands_before met_again amends_in
    again-is = by (record_item s at) refl
      where
        same : (n number : ℕ) (b : Bool) → record_item s at ≡ Some (Amendment n number) → eqb (block_of number) block ≡ b
            → cond b (member met (key_of n number)) false ≡ (b && ltb (first_with s (Some (Amendment n number)) at) at)
        same n number true e q = so_far.holds n number (in_block bytes at n number e (eqb-true (block_of number) block q))
        same n number false e q = refl

        by : (item : Option Item) → record_item s at ≡ item → met_again block item met ≡ (amends_in block item && ltb (first_with s item at) at)
        by (Some (Cell n)) e = refl
        by (Some (Sheet kind)) e = refl
        by (Some (Amendment n number)) e = same n number (eqb (block_of number) block) e refl
        by None e = refl

    -- the amendments before the next record: those before this one, and this one
    amended-next : Reached s 0 at → (cell v : ℕ)
        → ltb (first_with s (Some (Amendment cell v)) (next_record s at)) (next_record s at)
        ≡ (ltb (first_with s (Some (Amendment cell v)) at) at || same_item (record_item s at) (Some (Amendment cell v)))
    unfolding first_with
    amended-next r cell v = found-next s (λ (i : ℕ). same_item (record_item s i) (Some (Amendment cell v))) r

    -- one record more: an amendment of the block puts its key into the set, which then has those met before and this one, since keys of a block are
    -- equal only for the same cell and number; any other record changes neither the set nor what stands before
    pub met_next : Reached s 0 at → Met (next_record s at) (met_with block (record_item s at) met)
    unfolding met_with same_item with_member
    met_next r = by (record_item s at) refl
      where
        stays : ((cell v : ℕ) → InBlock block cell v → same_item (record_item s at) (Some (Amendment cell v)) ≡ false) → Met (next_record s at) met
        stays other =
            record { long = so_far.long; holds = λ cell v h. so_far.holds cell v h ∙ sym (amended-next r cell v ∙ rw (other cell v h) (or-false _)) }

        other_block : (n number cell v : ℕ) → InBlock block cell v → eqb (block_of number) block ≡ false → (b : Bool) → eqb number v ≡ b → (eqb n cell && b) ≡ false
        other_block n number cell v h q true e =
            absurd (eqb-false (block_of number) block q (ap block_of (eqb-true number v e) ∙ h.block-is))
        other_block n number cell v h q false e = and-false (eqb n cell)

        more : (n number : ℕ) (b : Bool) → record_item s at ≡ Some (Amendment n number) → eqb (block_of number) block ≡ b
            → Met (next_record s at) (cond b (with_member met (key_of n number)) met)
        more n number true e q =
            let own = in_block bytes at n number e (eqb-true (block_of number) block q) in
            record {
              long = length-set met (key_of n number / 64) _ ∙ so_far.long;
              holds = λ cell v h.
                  member-with met (key_of n number) (key_of cell v) (omega (arith, key-lt own, so_far.long))
                  ∙ or_comm (eqb (key_of cell v) (key_of n number)) (member met (key_of cell v))
                  ∙ rw (so_far.holds cell v h, key-same h own) (sym (amended-next r cell v ∙ rw e));
            }
        more n number false e q = stays (λ cell v h. rw e (other_block n number cell v h q (eqb number v) refl))

        by : (item : Option Item) → record_item s at ≡ item → Met (next_record s at) (met_with block item met)
        by (Some (Cell n)) e = stays (λ cell v h. rw e)
        by (Some (Sheet kind)) e = stays (λ cell v h. rw e)
        by (Some (Amendment n number)) e = more n number (eqb (block_of number) block) e refl
        by None e = stays (λ cell v h. rw e)
