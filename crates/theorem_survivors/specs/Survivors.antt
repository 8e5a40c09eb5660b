-- A filing with only the surviving cells of another (02:CR 6). Definitions only.
use Rattle.std.specs.Prelude.{ℕ, ◌+◌, ◌*◌, ◌≤◌, ◌<◌, ◌≡◌, Bool, true, false, cond, not, ◌&&◌, List, ltb, eqb, length, Some}
use Rattle.form.specs.Cells.{first_cell, last_cell}
use Rattle.record_kinds.specs.declared.items.Item.TheVariants.{Cell}
use Rattle.record_fields.specs.Records.{record_kind, amendment_state, sheet_number, tier_count, first_record}
use Rattle.record_kinds.specs.Kinds.{kind_count, amendment_kind, tiers_kind, sheet_kind}
use Rattle.record_kinds.specs.Items.{first_with}
use Rattle.record_verdicts.specs.RecordVerdicts.{first_faulty}
use Rattle.filing_contents.specs.Amounts.{amount_at}
use Rattle.filing_decode.specs.Contents.{cell_offset, sheet_offset}

-- the record withdraws its cell
unfoldable pub withdraws : List ℕ → ℕ → Bool
withdraws s at = eqb (record_kind s at) amendment_kind && not (eqb (amendment_state s at) 0)

-- the cell survives: a record counts for it, and does not withdraw it
unfoldable pub survives : List ℕ → ℕ → Bool
survives s n = ltb (cell_offset s n) (length s) && not (withdraws s (cell_offset s n))

-- the offset of a cell's own record, of kind 1 or 6, or the input's length where there is none
abbrev pub own_offset : List ℕ → ℕ → ℕ
own_offset t n = first_with t (Some (Cell n)) (length t)

-- a sheet of the kind is present
abbrev pub has_sheet : List ℕ → ℕ → Bool
has_sheet s kind = ltb (sheet_offset s kind) (length s)

-- how many numbers of 2 bytes a filing's sheet of a kind has (01:8-9; 02:CR 3, CR 8); of the tiers (02:CR 1) their count, and an edge and a withdrawal for each
unfoldable pub numbers_of : List ℕ → ℕ → ℕ
numbers_of s kind = cond (eqb kind tiers_kind) (1 + 2 * tier_count s (sheet_offset s kind)) (sheet_kind kind).numbers

-- t is the filing with only the surviving cells of s (02:CR 6). The order of its records is left open, and so is the kind, 1 or 6, by which it gives a
-- coupon
pub record Surviving (s t : List ℕ) : Type 0 where
  -- the records of t pass 1 to 5, 11, 12 and 16, and none is an amendment
  pub sound : first_faulty t ≡ length t
  pub unamended : first_record t (λ (at : ℕ). eqb (record_kind t at) amendment_kind) (length t) ≡ length t
  -- a cell that survives in s stands in t, with the amount that the record that counts in s gives it; no other cell stands in t
  pub stands : (n : ℕ) → first_cell ≤ n → n ≤ last_cell → survives s n ≡ true → own_offset t n < length t
  pub gives : (n : ℕ) → first_cell ≤ n → n ≤ last_cell → survives s n ≡ true → amount_at t (own_offset t n) ≡ amount_at s (cell_offset s n)
  pub absent : (n : ℕ) → first_cell ≤ n → n ≤ last_cell → survives s n ≡ false → own_offset t n ≡ length t
  -- t has the sheets of s, each with the same numbers, from the first to the sheet's last
  pub same-sheets : (kind : ℕ) → kind < kind_count → has_sheet t kind ≡ has_sheet s kind
  pub same_numbers : (kind i : ℕ) → kind < kind_count → has_sheet s kind ≡ true → 1 ≤ i → i ≤ numbers_of s kind
      → sheet_number t (sheet_offset t kind) i ≡ sheet_number s (sheet_offset s kind) i
