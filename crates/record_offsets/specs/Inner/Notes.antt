-- What reading a filing notes: for each kind of sheet and each cell its first record, for each cell the record that counts, and for each block of
-- amendment numbers whether an amendment with one of them does not come by rising number. Definitions only.
use Rattle.std.specs.Prelude.{ℕ, ◌-◌, ◌/◌, ◌%◌, Bool, false, cond, ◌||◌, ◌&&◌, List, length, get_or, set, replicate, leb, ltb, eqb, Option, Some, None}
use Rattle.lists.specs.Tables.{table, table_from}
use Rattle.form.specs.Cells.{first_cell, cell_count}
use Rattle.record_kinds.specs.declared.items.Item.{Item}
use Rattle.record_kinds.specs.declared.items.Item.TheVariants.{Cell, Sheet, Amendment}
use Rattle.record_fields.specs.Records.{first_record}
use Rattle.record_kinds.specs.Kinds.{kind_count}
use Rattle.record_kinds.specs.Items.{record_item, first_with}
use Rattle.record_offsets.specs.Counting.{rank, counting, counting_before}

-- What is noted: the offset of the first record of each kind of sheet, and of each cell from 601 on; of the record that counts for each cell: the input's
-- length where there is none. And for each block of numbers whether an amendment with one of them ranks no higher than the record that counts before it
pub record Noted : Type 0 where
  pub sheets : List ℕ
  pub cells : List ℕ
  pub counting : List ℕ
  pub falling : List Bool

-- the offset of the first record of an item before `at`, or the input's length where there is none
unfoldable pub offset_before : List ℕ → ℕ → Option Item → ℕ
offset_before s at item = cond (ltb (first_with s item at) at) (first_with s item at) (length s)

-- the numbers of amendments by blocks of so many, as many as numbers of 2 bytes fill
abbrev pub block_size : ℕ
block_size = 512

abbrev pub block_count : ℕ
block_count = 128

unfoldable pub block_of : ℕ → ℕ
block_of number = number / block_size % block_count

-- an amendment whose number is of a block
unfoldable pub amends_in : ℕ → Option Item → Bool
amends_in block (Some (Cell n)) = false
amends_in block (Some (Sheet kind)) = false
amends_in block (Some (Amendment n number)) = eqb (block_of number) block
amends_in block None = false

-- a record that does not rank above the one that counts before it
unfoldable pub outranked : List ℕ → ℕ → ℕ → ℕ → Bool
outranked s cell before at = leb (rank s cell at) (rank s cell before)

-- an amendment, with a number of a block, that does not rank above the record that counts for its cell before it. Without one the amendments with these
-- numbers come by rising number in each cell
unfoldable pub falls_as : List ℕ → ℕ → ℕ → Option Item → Bool
falls_as s block at (Some (Cell n)) = false
falls_as s block at (Some (Sheet kind)) = false
falls_as s block at (Some (Amendment n number)) = eqb (block_of number) block && outranked s n (counting_before s n at) at
falls_as s block at None = false

unfoldable pub falls : List ℕ → ℕ → ℕ → Bool
falls s block at = falls_as s block at (record_item s at)

unfoldable pub falls_before : List ℕ → ℕ → ℕ → Bool
falls_before s block at = ltb (first_record s (falls s block) at) at

-- what is noted of the records before `at`
unfoldable pub noted_before : List ℕ → ℕ → Noted
noted_before s at =
    record {
      sheets = table kind_count (λ (kind : ℕ). offset_before s at (Some (Sheet kind)));
      cells = table_from first_cell cell_count (λ (cell : ℕ). offset_before s at (Some (Cell cell)));
      counting = table_from first_cell cell_count (λ (cell : ℕ). counting_before s cell at);
      falling = table block_count (λ (block : ℕ). falls_before s block at);
    }

-- what is noted, by its four arrays
abbrev pub noted_as : List ℕ → List ℕ → List ℕ → List Bool → Noted
noted_as sheets cells counting falling = record { sheets = sheets; cells = cells; counting = counting; falling = falling }

-- nothing is noted of an input of `size` bytes
abbrev pub nothing_noted : ℕ → Noted
nothing_noted size =
    record {
      sheets = replicate kind_count size;
      cells = replicate cell_count size;
      counting = replicate cell_count size;
      falling = replicate block_count false;
    }

-- a record that names a cell is noted among those that count, and an amendment that ranks no higher than the one before it
unfoldable pub note_counting : List ℕ → List ℕ → ℕ → ℕ → List ℕ
note_counting s noted cell at = set noted (cell - first_cell) (counting s cell (get_or noted (cell - first_cell) 0) at)

unfoldable pub note_falling : List ℕ → Noted → ℕ → ℕ → ℕ → List Bool
note_falling s noted cell number at =
    set noted.falling (block_of number)
    (get_or noted.falling (block_of number) false || outranked s cell (get_or noted.counting (cell - first_cell) 0) at)

-- the record at an offset is noted, by its item
unfoldable pub note_item : List ℕ → Noted → Option Item → ℕ → Noted
note_item s noted (Some (Cell cell)) at =
    record {
      sheets = noted.sheets;
      cells = set noted.cells (cell - first_cell) at;
      counting = note_counting s noted.counting cell at;
      falling = noted.falling;
    }
note_item s noted (Some (Sheet kind)) at =
    record { sheets = set noted.sheets kind at; cells = noted.cells; counting = noted.counting; falling = noted.falling }
note_item s noted (Some (Amendment cell number)) at =
    record {
      sheets = noted.sheets;
      cells = noted.cells;
      counting = note_counting s noted.counting cell at;
      falling = note_falling s noted cell number at;
    }
note_item s noted None at = noted
