-- The search for amendments that come with a number a second time (02:CR 6), block by block of the numbers, with the set of the cells' numbers met.
-- Definitions only.
use Rattle.std.specs.Prelude.{ℕ, zero, suc, ◌+◌, ◌*◌, ◌-◌, ◌%◌, Bool, false, cond, ◌&&◌, List, eqb, Option, Some, None}
use Rattle.record_checks.specs.Members.{member, with_member}
use Rattle.form.specs.Cells.{first_cell}
use Rattle.record_kinds.specs.declared.items.Item.{Item}
use Rattle.record_kinds.specs.declared.items.Item.TheVariants.{Cell, Sheet, Amendment}
use Rattle.record_fields.specs.Records.{first_record}
use Rattle.record_kinds.specs.Items.{record_item}
use Rattle.record_offsets.specs.Inner.Notes.{block_size, block_of, amends_in}
use Rattle.record_shape.specs.Faults.{stands_before}

-- an amendment with a number of a block that an earlier one of its cell has
unfoldable pub repeats : List ℕ → ℕ → ℕ → Bool
repeats s block at = amends_in block (record_item s at) && stands_before s at

-- the first such record before `end`, of the first n blocks: `end` where there is none
unfoldable pub repetitions_below : List ℕ → ℕ → ℕ → ℕ
repetitions_below s zero end = end
repetitions_below s (suc n) end = first_record s (repeats s n) (repetitions_below s n end)

-- what stands in a block's set for a cell and a number
unfoldable pub key_of : ℕ → ℕ → ℕ
key_of cell number = (cell - first_cell) * block_size + number % block_size

-- an amendment with a number of the block has its cell and number in the set
unfoldable pub met_again : ℕ → Option Item → List ℕ → Bool
met_again block (Some (Cell n)) met = false
met_again block (Some (Sheet kind)) met = false
met_again block (Some (Amendment n number)) met = cond (eqb (block_of number) block) (member met (key_of n number)) false
met_again block None met = false

-- the set with the cell and number of an amendment with a number of the block
unfoldable pub met_with : ℕ → Option Item → List ℕ → List ℕ
met_with block (Some (Cell n)) met = met
met_with block (Some (Sheet kind)) met = met
met_with block (Some (Amendment n number)) met = cond (eqb (block_of number) block) (with_member met (key_of n number)) met
met_with block None met = met
