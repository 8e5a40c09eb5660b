-- What can be wrong with one record before its body is looked at: refusals 1 to 4 (01:31-34; 02:CR 4), 12 (02:CR 3) and 16
-- (02:CR 6), in that order. Definitions only.
use Rattle.std.specs.Prelude.{ℕ, ◌+◌, Bool, false, cond, not, ◌||◌, ◌&&◌, List, length, ltb, eqb, Some}
use Rattle.record_fields.specs.Records.{record_length, record_kind, next_record}
use Rattle.record_kinds.specs.declared.items.Item.TheVariants.{Sheet}
use Rattle.record_kinds.specs.Kinds.{names_cell, amendment_kind, flat_rates_kind, rate_path_kind, due_length}
use Rattle.record_kinds.specs.Items.{record_class, record_item, first_with}

-- 1: the record runs past the end, its length or itself, or its length is below 2
unfoldable pub incomplete : List ℕ → ℕ → Bool
incomplete s at = ltb (length s) (at + 2) || (ltb (record_length s at) 2 || ltb (length s) (next_record s at))

-- 2: the kind is unknown, or the length is not that kind's
abbrev pub misshapen : List ℕ → ℕ → Bool
misshapen s at = not (eqb (record_length s at) (due_length s at))

-- 3: the cell is not listed for a record of its kind
abbrev pub unlisted : List ℕ → ℕ → Bool
unlisted s at = names_cell (record_kind s at) && eqb (record_class s at) 0

-- what the record is one of stands in an earlier record
unfoldable pub stands_before : List ℕ → ℕ → Bool
stands_before s at = ltb (first_with s (record_item s at) at) at

-- 4: the cell, or the kind of sheet, stands in an earlier record
abbrev pub repeated : List ℕ → ℕ → Bool
repeated s at = not (eqb (record_kind s at) amendment_kind) && stands_before s at

-- 16: the amendment of the same cell and number stands in an earlier record
abbrev pub amendment_repeated : List ℕ → ℕ → Bool
amendment_repeated s at = eqb (record_kind s at) amendment_kind && stands_before s at

-- a sheet of a kind stands in an earlier record
unfoldable pub sheet_before : List ℕ → ℕ → ℕ → Bool
sheet_before s at kind = ltb (first_with s (Some (Sheet kind)) at) at

-- 12: retail rates by month beside flat ones, at the later record
unfoldable pub path_beside_flat : List ℕ → ℕ → Bool
path_beside_flat s at =
    cond (eqb (record_kind s at) flat_rates_kind) (sheet_before s at rate_path_kind)
    (cond (eqb (record_kind s at) rate_path_kind) (sheet_before s at flat_rates_kind) false)
