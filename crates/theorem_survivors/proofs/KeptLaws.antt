-- The surviving records in the filing that is composed of them: each is kept whole, and where it stands is reached. Assumes nothing.
use Rattle.std.specs.Prelude.{Option, Some, None}
use Prim.Native.Nat.{ℕ, suc, ◌+◌, ◌≤◌, ◌<◌}
use native.Mathlib.Nat.{add-zero}
use native.Mathlib.Omega.{arith}
use mathlib.Core.Path.{◌≡◌, refl, sym, ap, ◌∙◌}
use mathlib.Core.Bool.{true, false, ◌||◌, true≢false}
use mathlib.Core.List.{List}
use borrow.Author.Tests.{ltb-false}
use lib.Dec.{ltb}
use lib.ListN.{length}
use Rattle.lists.proofs.TestLaws.{neither}
use Rattle.record_fields.specs.Bytes.{number_at}
use Rattle.record_fields.specs.Records.{record_length, next_record}
use Rattle.record_fields.proofs.SearchLaws.{Reached}
use Rattle.record_kinds.specs.Kinds.{gives_cell, due_length}
use Rattle.record_kinds.specs.declared.items.Item.{Item}
use Rattle.record_kinds.specs.declared.items.Item.TheVariants.{Cell, Sheet, Amendment}
use Rattle.record_kinds.specs.Items.{record_item}
use Rattle.record_kinds.proofs.ItemLaws.{record-of-amendment}
use Rattle.record_shape.specs.Faults.{incomplete}
use Rattle.record_verdicts.specs.RecordVerdicts.{first_faulty}
use Rattle.record_verdicts.proofs.FaultLaws.{Faultless, complete-ends, shaped-length}
use Rattle.theorem_survivors.specs.Composed.{record_bytes, keeps, kept_as, offset_of, only_survivors}
use Rattle.theorem_survivors.proofs.OwnLaws.{faultless-at}
use Rattle.theorem_survivors.proofs.PieceLaws.{copy-length, copy-number, amended-length, amended-size}
use Rattle.theorem_survivors.proofs.CopyLaws.{Copied, due-four}
use Rattle.theorem_survivors.proofs.WalkLaws.{kept_is, piece, place, offset-reached, numbered-lt, kept-within, place_kept, place_mono, place-last, number-made, place-reached, Source, source}

module _ (s : List ℕ) (none : first_faulty s ≡ length s) where
  abbrev made : List ℕ
  made = only_survivors s

  pub fault-free : (m : ℕ) → kept_is s m ≡ true → Faultless s (offset_of s m)
  fault-free m k = faultless-at s none (offset_of s m) (offset-reached s m) (kept-within s m k)

  pub shape_of : (m : ℕ) → kept_is s m ≡ true → record_length s (offset_of s m) ≡ due_length s (offset_of s m)
  shape_of m k = shaped-length s (offset_of s m) (fault-free m k).shaped

  pub ends_of : (m : ℕ) → kept_is s m ≡ true → next_record s (offset_of s m) ≤ length s
  ends_of m k = complete-ends s (offset_of s m) (fault-free m k).complete

  -- a record that is complete has a kind's length, and that is 4 at least
  pub four-long : (m : ℕ) → kept_is s m ≡ true → 4 ≤ record_length s (offset_of s m)
  unfolding incomplete
  four-long m k =
      let at : ℕ = offset_of s m in
      let rest = (neither (ltb (length s) (at + 2)) (ltb (record_length s at) 2 || ltb (length s) (next_record s at)) (fault-free m k).complete).1 in
      let two = ltb-false (record_length s at) 2 (neither (ltb (record_length s at) 2) (ltb (length s) (next_record s at)) rest).0 in
      omega (arith, due-four s at (λ e. omega (arith, shape_of m k)), shape_of m k)

  -- an amendment takes 18 bytes
  pub amendment-long : (m n number : ℕ) → kept_is s m ≡ true → record_item s (offset_of s m) ≡ Some (Amendment n number) → record_length s (offset_of s m) ≡ 16
  unfolding due_length gives_cell
  amendment-long m n number k e = shape_of m k ∙ rw (record-of-amendment s (offset_of s m) n number e).kind-is

  pub amendment-ends : (m n number : ℕ) → kept_is s m ≡ true → record_item s (offset_of s m) ≡ Some (Amendment n number) → offset_of s m + 18 ≤ length s
  unfolding next_record
  amendment-ends m n number k e = omega (arith, ends_of m k, amendment-long m n number k e)

  -- each record is kept as a whole record: a copy has the length that it says, as it had in s; an amendment is kept in 14 bytes that say 12
  pub framed : (m : ℕ) → kept_is s m ≡ true → length (piece s m) ≡ 2 + number_at (piece s m) 0 2
  unfolding keeps kept_as
  framed m k = by (record_item s (offset_of s m)) refl k
    where
      copy : length (record_bytes s (offset_of s m)) ≡ 2 + number_at (record_bytes s (offset_of s m)) 0 2
      copy =
          let said = rw (add-zero (offset_of s m)) at (copy-number s (offset_of s m) 0 2 (omega arith)) in
          omega (arith, copy-length s (offset_of s m) (ends_of m k))

      by : (item : Option Item) → record_item s (offset_of s m) ≡ item → keeps s (offset_of s m) item ≡ true
          → length (kept_as s (offset_of s m) item) ≡ 2 + number_at (kept_as s (offset_of s m) item) 0 2
      by (Some (Cell n)) e h = copy
      by (Some (Sheet kind)) e h = copy
      by (Some (Amendment n number)) e h = amended-length s (offset_of s m) (amendment-ends m n number k e) ∙ sym (ap (λ (x : ℕ). 2 + x) (amended-size s (offset_of s m)))
      by None e h = absurd (true≢false (sym h))

  pub within : (m : ℕ) → kept_is s m ≡ true → m < length s
  within m k = numbered-lt s m (kept-within s m k)

  pub place-ends : (m : ℕ) → kept_is s m ≡ true → place s m + length (piece s m) ≤ length made
  place-ends m k = omega (arith, place_kept s m k, place_mono s (suc m) (length s) (within m k), place-last s)

  pub reached-place : (m : ℕ) → kept_is s m ≡ true → Reached made 0 (place s m)
  reached-place m k = place-reached s framed m (omega (arith, within m k))

  pub comes-from : {j : ℕ} → Reached made 0 j → j < length made → Source s framed j
  comes-from r l = source s framed r l

  -- a record of a cell or a sheet is copied: a number within it is read at its place off the bytes that are kept, which are those of s, and
  -- these end within the composed filing
  pub copied : (m : ℕ) → kept_is s m ≡ true → piece s m ≡ record_bytes s (offset_of s m) → Copied s made (offset_of s m) (place s m)
  copied m k e =
      let size : length (piece s m) ≡ 2 + record_length s (offset_of s m) = ap length e ∙ copy-length s (offset_of s m) (ends_of m k) in
      record {
        numbers = λ i n h.
            number-made s m (within m k) k i n (omega arith)
            ∙ ap (λ (l : List ℕ). number_at l i n) e
            ∙ copy-number s (offset_of s m) i n h;
        ends = omega (arith, place-ends m k);
      }
