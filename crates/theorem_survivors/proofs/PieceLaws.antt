-- The bytes that a record is kept as: a copy of the record, or an amendment's cell and value in a record of kind 1. Assumes nothing.
use Prim.Native.Nat.{ℕ, zero, suc, ◌+◌, ◌≤◌, ◌<◌}
use native.Mathlib.Nat.{add-zero, add_assoc}
use native.Mathlib.Omega.{arith}
use mathlib.Core.Path.{◌≡◌, refl, ap, ◌∙◌}
use mathlib.Core.List.{List, [], ◌∷◌, ◌++◌}
use lib.ListN.{length, take, drop, length-append, length-drop}
use lib.Seq.{length-take-le, get_or-take, get_or-drop}
use Rattle.record_fields.specs.Bytes.{number_at}
use Rattle.record_fields.specs.Records.{record_length, record_cell, amendment_value, next_record}
use Rattle.theorem_certificates.proofs.ByteLaws.{number_behind, number-front}
use Rattle.theorem_survivors.specs.Composed.{record_bytes, amended_cell}

-- a number within a part of the bytes
number-part : (s : List ℕ) (size from i n : ℕ) → i + n ≤ size → number_at (take size (drop from s)) i n ≡ number_at s (from + i) n
unfolding number_at
number-part s size from i zero h = refl
number-part s size from i (suc n) h =
    let l : i < size = omega arith in
    rw (get_or-take size (drop from s) i 0 l, get_or-drop from s i 0, number-part s size from (i + 1) n (omega arith), ← add_assoc from i 1)

part_length : (s : List ℕ) (size from : ℕ) → from + size ≤ length s → length (take size (drop from s)) ≡ size
part_length s size from h = length-take-le size (drop from s) (rw (length-drop from s) (omega arith))

module _ (s : List ℕ) (at : ℕ) where
  -- a copy of the record
  pub copy-length : next_record s at ≤ length s → length (record_bytes s at) ≡ 2 + record_length s at
  unfolding record_bytes next_record
  copy-length h = part_length s (2 + record_length s at) at (omega arith)

  pub copy-number : (i n : ℕ) → i + n ≤ 2 + record_length s at → number_at (record_bytes s at) i n ≡ number_at s (at + i) n
  unfolding record_bytes
  copy-number i n h = number-part s (2 + record_length s at) at i n h

  -- an amendment as a record of kind 1: its length, kind, cell and value
  abbrev front : List ℕ
  front = 12 ∷ 0 ∷ 1 ∷ 0 ∷ []

  abbrev cell_part : List ℕ
  cell_part = take 2 (drop (at + 4) s)

  abbrev value_part : List ℕ
  value_part = take 8 (drop (at + 10) s)

  pub amended-length : at + 18 ≤ length s → length (amended_cell s at) ≡ 14
  unfolding amended_cell
  amended-length h =
      omega (arith, length-append cell_part value_part, part_length s 2 (at + 4) (omega arith), part_length s 8 (at + 10) (omega arith))

  pub amended-size : number_at (amended_cell s at) 0 2 ≡ 12
  unfolding amended_cell number_at
  amended-size = refl

  pub amended-kind : number_at (amended_cell s at) 2 2 ≡ 1
  unfolding amended_cell number_at
  amended-kind = refl

  pub amended-cell : at + 18 ≤ length s → number_at (amended_cell s at) 4 2 ≡ record_cell s at
  unfolding amended_cell
  amended-cell h =
      number_behind front (cell_part ++ value_part) 0 2
      ∙ number-front cell_part value_part 0 2 (rw (part_length s 2 (at + 4) (omega arith)) (omega arith))
      ∙ number-part s 2 (at + 4) 0 2 (omega arith)
      ∙ ap (λ (i : ℕ). number_at s i 2) (add-zero (at + 4))

  pub amended-value : at + 18 ≤ length s → number_at (amended_cell s at) 6 8 ≡ amendment_value s at
  unfolding amended_cell
  amended-value h =
      let two : length cell_part ≡ 2 = part_length s 2 (at + 4) (omega arith) in
      number_behind front (cell_part ++ value_part) 2 8
      ∙ ap (λ (i : ℕ). number_at (cell_part ++ value_part) i 8) (omega arith)
      ∙ number_behind cell_part value_part 0 8
      ∙ number-part s 8 (at + 10) 0 8 (omega arith)
      ∙ ap (λ (i : ℕ). number_at s i 8) (add-zero (at + 10))
