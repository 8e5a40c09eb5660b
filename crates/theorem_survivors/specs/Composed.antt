-- The filing with only the surviving cells of another, composed of its records (02:CR 6). Definitions only.
use Rattle.std.specs.Prelude.{ℕ, zero, suc, ◌+◌, Bool, true, false, cond, not, ◌&&◌, List, [], ◌∷◌, ◌++◌, eqb, length, take, drop, Option, Some, None}
use Rattle.record_fields.specs.Records.{record_length, next_record}
use Rattle.record_kinds.specs.declared.items.Item.{Item}
use Rattle.record_kinds.specs.declared.items.Item.TheVariants.{Cell, Sheet, Amendment}
use Rattle.record_kinds.specs.Items.{record_item}
use Rattle.filing_decode.specs.Contents.{cell_offset}
use Rattle.theorem_survivors.specs.Survivors.{withdraws}

-- a record's bytes, its length and what follows
unfoldable pub record_bytes : List ℕ → ℕ → List ℕ
record_bytes s at = take (2 + record_length s at) (drop at s)

-- an amendment's cell and value in a record of kind 1, length 12: the value is in kind 1's unit
unfoldable pub amended_cell : List ℕ → ℕ → List ℕ
amended_cell s at = 12 ∷ 0 ∷ 1 ∷ 0 ∷ (take 2 (drop (at + 4) s) ++ take 8 (drop (at + 10) s))

-- the record at an offset is kept, by what it is: each sheet; a record of a cell where it counts for the cell and does not withdraw it
unfoldable pub keeps : List ℕ → ℕ → Option Item → Bool
keeps s at (Some (Cell n)) = eqb (cell_offset s n) at
keeps s at (Some (Sheet kind)) = true
keeps s at (Some (Amendment n number)) = eqb (cell_offset s n) at && not (withdraws s at)
keeps s at None = false

-- the bytes that it is kept as: its own, or, where it is an amendment, those of a record of kind 1
unfoldable pub kept_as : List ℕ → ℕ → Option Item → List ℕ
kept_as s at (Some (Cell n)) = record_bytes s at
kept_as s at (Some (Sheet kind)) = record_bytes s at
kept_as s at (Some (Amendment n number)) = amended_cell s at
kept_as s at None = []

unfoldable pub kept_at : List ℕ → ℕ → List ℕ
kept_at s at = cond (keeps s at (record_item s at)) (kept_as s at (record_item s at)) []

-- the offset of record m, from 0
unfoldable pub offset_of : List ℕ → ℕ → ℕ
offset_of s zero = 0
offset_of s (suc m) = next_record s (offset_of s m)

-- what is kept of the first m records, in their order
unfoldable pub kept_before : List ℕ → ℕ → List ℕ
kept_before s zero = []
kept_before s (suc m) = kept_before s m ++ kept_at s (offset_of s m)

-- the filing with only the surviving cells. Each record takes at least two bytes, so there are no more records than bytes
unfoldable pub only_survivors : List ℕ → List ℕ
only_survivors s = kept_before s (length s)
