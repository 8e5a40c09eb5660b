-- The filing that is composed of the surviving records is no longer than the one it comes from, and of bytes where that is. Assumes nothing.
use Rattle.std.specs.Prelude.{Option, Some, None}
use Prim.Native.Nat.{ℕ, zero, suc, ◌+◌, ◌≤◌}
use native.Mathlib.Omega.{arith}
use mathlib.Core.Path.{◌≡◌, refl, sym}
use mathlib.Core.Bool.{Bool, true, false, true≢false}
use mathlib.Core.List.{List, [], ◌∷◌, ◌++◌}
use borrow.Author.Tests.{ltb-true, ltb-false}
use lib.Dec.{ltb}
use lib.ListN.{length, get_or, take, drop, length-take, get_or-eq_default}
use lib.Seq.{get_or-take, get_or-drop}
use Rattle.lists.proofs.TestLaws.{either, entries-le}
use Rattle.lists.proofs.TableLaws.{append-le}
use Rattle.record_fields.specs.Records.{record_length, next_record}
use Rattle.record_fields.proofs.SearchLaws.{next-lt}
use Rattle.record_kinds.specs.declared.items.Item.{Item}
use Rattle.record_kinds.specs.declared.items.Item.TheVariants.{Cell, Sheet, Amendment}
use Rattle.record_kinds.specs.Items.{record_item}
use Rattle.record_verdicts.specs.RecordVerdicts.{first_faulty}
use Rattle.theorem_survivors.specs.Composed.{record_bytes, amended_cell, keeps, kept_as, kept_at, offset_of, kept_before, only_survivors}
use Rattle.theorem_survivors.proofs.PieceLaws.{copy-length, amended-length}
use Rattle.theorem_survivors.proofs.WalkLaws.{kept_is, piece, place, place_kept, place-lost, place-last}
use Rattle.theorem_survivors.proofs.KeptLaws.{ends_of, amendment-ends, amendment-long}

-- what is read of a part of the bytes is a byte
part-byte : (s : List ℕ) → ((i : ℕ) → get_or s i 0 ≤ 255) → (size from i : ℕ) → get_or (take size (drop from s)) i 0 ≤ 255
part-byte s h size from i = by (ltb i size) refl
  where
    by : (b : Bool) → ltb i size ≡ b → get_or (take size (drop from s)) i 0 ≤ 255
    by true e = rw (get_or-take size (drop from s) i 0 (ltb-true i size e), get_or-drop from s i 0) (h (from + i))
    by false e =
        let past : length (take size (drop from s)) ≤ i = rw (length-take size (drop from s)) (omega (arith, ltb-false i size e)) in
        omega (arith, get_or-eq_default (take size (drop from s)) 0 {n = i} past)

module _ (s : List ℕ) (h : (i : ℕ) → get_or s i 0 ≤ 255) where
  -- a record is kept as bytes of s, or, an amendment, as 12, 0, 1, 0 and ten bytes of s; past its end 0 is read
  kept_byte : (at : ℕ) (item : Option Item) (i : ℕ) → get_or (kept_as s at item) i 0 ≤ 255
  unfolding kept_as record_bytes amended_cell
  kept_byte at (Some (Cell n)) i = part-byte s h (2 + record_length s at) at i
  kept_byte at (Some (Sheet kind)) i = part-byte s h (2 + record_length s at) at i
  kept_byte at (Some (Amendment n number)) i =
      append-le (12 ∷ 0 ∷ 1 ∷ 0 ∷ []) (take 2 (drop (at + 4) s) ++ take 8 (drop (at + 10) s)) 255 front
      (append-le (take 2 (drop (at + 4) s)) (take 8 (drop (at + 10) s)) 255 (part-byte s h 2 (at + 4)) (part-byte s h 8 (at + 10))) i
    where
      front : (j : ℕ) → get_or (12 ∷ 0 ∷ 1 ∷ 0 ∷ []) j 0 ≤ 255
      front = entries-le (12 ∷ 0 ∷ 1 ∷ 0 ∷ []) 255 tt
  kept_byte at None i = omega arith

  before-byte : (m i : ℕ) → get_or (kept_before s m) i 0 ≤ 255
  unfolding kept_before kept_at
  before-byte zero i = omega arith
  before-byte (suc m) i =
      append-le (kept_before s m) (kept_at s (offset_of s m)) 255 (before-byte m)
      (λ j. either (λ (l : List ℕ). get_or l j 0 ≤ 255) (kept_is s m) (kept_byte (offset_of s m) (record_item s (offset_of s m)) j) (omega arith)) i

  pub made_bytes : (i : ℕ) → get_or (only_survivors s) i 0 ≤ 255
  unfolding only_survivors
  made_bytes = before-byte (length s)

next-is : (s : List ℕ) (at : ℕ) → next_record s at ≡ at + (2 + record_length s at)
unfolding next_record
next-is s at = omega arith

module _ (s : List ℕ) (none : first_faulty s ≡ length s) where
  -- a record is kept in no more bytes than it has: an amendment, of 18, in 14
  piece-le : (m : ℕ) → kept_is s m ≡ true → length (piece s m) ≤ 2 + record_length s (offset_of s m)
  unfolding kept_as keeps
  piece-le m k = by (record_item s (offset_of s m)) refl k
    where
      copy : length (record_bytes s (offset_of s m)) ≤ 2 + record_length s (offset_of s m)
      copy = omega (arith, copy-length s (offset_of s m) (ends_of s none m k))

      by : (item : Option Item) → record_item s (offset_of s m) ≡ item → keeps s (offset_of s m) item ≡ true
          → length (kept_as s (offset_of s m) item) ≤ 2 + record_length s (offset_of s m)
      by (Some (Cell n)) e h = copy
      by (Some (Sheet kind)) e h = copy
      by (Some (Amendment n number)) e h =
          omega (arith, amended-length s (offset_of s m) (amendment-ends s none m n number k e), amendment-long s none m n number k e)
      by None e h = absurd (true≢false (sym h))

  -- where a record is kept it stands no later than in s, and within its bytes: one more record moves both on, the place by no more bytes
  -- than the record has, or not at all where it is not kept
  place-le : (m : ℕ) → (place s m ≤ offset_of s m) × (place s m ≤ length s)
  unfolding place kept_before offset_of
  place-le zero = (omega arith, omega arith)
  place-le (suc m) = by (kept_is s m) refl (place-le m)
    where
      by : (b : Bool) → kept_is s m ≡ b → (place s m ≤ offset_of s m) × (place s m ≤ length s)
          → (place s (suc m) ≤ next_record s (offset_of s m)) × (place s (suc m) ≤ length s)
      by true k p =
          let next : next_record s (offset_of s m) ≡ offset_of s m + (2 + record_length s (offset_of s m)) = next-is s (offset_of s m) in
          let le = piece-le m k in
          let ends = ends_of s none m k in
          let more = place_kept s m k in
          (omega (arith, p.0), omega (arith, p.0))
      by false k p =
          let same = place-lost s m k in
          (omega (arith, p.0, next-lt s (offset_of s m)), omega (arith, p.1))

  pub not-longer : length (only_survivors s) ≤ length s
  not-longer = omega (arith, place-last s, (place-le (length s)).1)
