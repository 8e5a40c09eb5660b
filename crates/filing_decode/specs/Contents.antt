-- What a filing says: its cells (amended, 02:CR 6; coupons in thousandths, 02:CR 4), its CD yields, its retail rates (01:6-11; by month, 02:CR 3),
-- its LIBOR yields (02:CR 8) and its tiers (02:CR 1). Definitions only.
use Rattle.std.specs.Prelude.{ℕ, ◌+◌, ◌/◌, cond, List, length, ltb, Some}
use Rattle.lists.specs.Tables.{table, table_from}
use Rattle.form.specs.Cells.{first_cell, cell_count}
use Rattle.form.specs.Limits.{sheet_months, rate_count}
use Rattle.record_fields.specs.Records.{sheet_number}
use Rattle.record_kinds.specs.Kinds.{yields_kind, flat_rates_kind, tiers_kind, rate_path_kind, libor_kind}
use Rattle.record_kinds.specs.declared.items.Item.TheVariants.{Sheet}
use Rattle.record_kinds.specs.Items.{first_with}
use Rattle.record_offsets.specs.Counting.{counting_before}
use Rattle.filing_contents.specs.Contents.{Contents, contents_with}
use Rattle.filing_contents.specs.Amounts.{amount_at}
use Rattle.filing_contents.specs.Sheets.{tiers_at}

-- the offset of the record that counts for a cell (02:CR 6), or the input's length where there is none
unfoldable pub cell_offset : List ℕ → ℕ → ℕ
cell_offset s n = counting_before s n (length s)

-- the value of a cell; an absent cell is 0
unfoldable pub cell_value : List ℕ → ℕ → ℕ
cell_value s n = cond (ltb (cell_offset s n) (length s)) (amount_at s (cell_offset s n)) 0

-- the offset of a kind of sheet, or the input's length where there is none
unfoldable pub sheet_offset : List ℕ → ℕ → ℕ
sheet_offset s kind = first_with s (Some (Sheet kind)) (length s)

-- the i-th retail rate, from 0, column by column (02:CR 3): the number of kind 5, or, where there is none, the flat rate of kind 3 in each month of its
-- column, hundredths of a percent a year
unfoldable pub rate_number : List ℕ → ℕ → ℕ
rate_number s i =
    cond (ltb (sheet_offset s rate_path_kind) (length s)) (sheet_number s (sheet_offset s rate_path_kind) (i + 1))
    (sheet_number s (sheet_offset s flat_rates_kind) (i / sheet_months + 1))

-- the cells from 601 on, the yields of kind 2 by month from 1 on, the retail rates of kinds 3 and 5 column by column, the LIBOR yields
-- of kind 8 by month, the tiers of kind 4. Where there is no kind 8 its numbers are read at the input's length, where every number is 0
unfoldable pub contents_of : List ℕ → Contents
contents_of s =
    contents_with
    (table_from first_cell cell_count (cell_value s))
    (table_from 1 sheet_months (sheet_number s (sheet_offset s yields_kind)))
    (table rate_count (rate_number s))
    (table_from 1 sheet_months (sheet_number s (sheet_offset s libor_kind)))
    (tiers_at s (sheet_offset s tiers_kind))
