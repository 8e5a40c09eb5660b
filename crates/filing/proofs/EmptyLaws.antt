-- An empty filing says zeros: it has no record, so every number read of it is 0. Assumes nothing.
use Prim.Native.Nat.{ℕ}
use mathlib.Core.Path.{◌≡◌, refl}
use lib.ListN.{replicate}
use Rattle.lists.specs.Tables.{table_from}
use Rattle.form.specs.Cells.{cell_count}
use Rattle.form.specs.Limits.{sheet_number_count}
use Rattle.record_fields.specs.Bytes.{number_at}
use Rattle.record_fields.specs.Records.{search_records, first_record}
use Rattle.record_kinds.specs.Items.{first_with}
use Rattle.record_offsets.specs.Counting.{counts_from, counting_before}
use Rattle.filing_contents.specs.Contents.{yields_in, rates_in, libor_in, contents_in}
use Rattle.filing_decode.specs.Contents.{cell_offset, cell_value, sheet_offset, rate_number, contents_of}
use Rattle.filing.specs.EmptyContents.{empty_contents}

pub zeros-said : contents_in (replicate {A = ℕ} cell_count 0) (replicate {A = ℕ} sheet_number_count 0) empty_contents.tiers ≡ empty_contents
unfolding yields_in rates_in libor_in empty_contents contents_of cell_value cell_offset counting_before counts_from sheet_offset rate_number table_from number_at search_records first_record first_with
zeros-said = refl
