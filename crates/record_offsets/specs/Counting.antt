-- The record that counts for a cell (02:CR 6): its amendment with the highest number, a record of kind 1 or 6 counting as number 0. Definitions only.
use Rattle.std.specs.Prelude.{ℕ, zero, suc, ◌+◌, cond, List, leb, ltb, eqb, length, Option, Some, None}
use Rattle.record_kinds.specs.declared.items.Item.{Item}
use Rattle.record_kinds.specs.declared.items.Item.TheVariants.{Cell, Sheet, Amendment}
use Rattle.record_fields.specs.Records.{next_record}
use Rattle.record_kinds.specs.Items.{record_item}

-- the rank of an item for a cell: one more than its number, and 0 where it is not of the cell
unfoldable pub item_rank : ℕ → Option Item → ℕ
item_rank cell (Some (Cell n)) = cond (eqb n cell) 1 0
item_rank cell (Some (Sheet kind)) = 0
item_rank cell (Some (Amendment n number)) = cond (eqb n cell) (number + 1) 0
item_rank cell None = 0

abbrev pub rank : List ℕ → ℕ → ℕ → ℕ
rank s cell at = item_rank cell (record_item s at)

-- which of two records counts for a cell: the later one where it ranks higher
unfoldable pub counting : List ℕ → ℕ → ℕ → ℕ → ℕ
counting s cell before at = cond (ltb (rank s cell before) (rank s cell at)) at before

-- which counts of the record `before` and of those from `at` on and before `end`. Each takes at least two bytes, so no more steps than `end` are needed
unfoldable pub counts_from : List ℕ → ℕ → ℕ → ℕ → ℕ → ℕ → ℕ
counts_from s cell end before at zero = before
counts_from s cell end before at (suc steps) =
    let later = counts_from s cell end (counting s cell before at) (next_record s at) steps in
    cond (leb end at) before later

-- the record before `end` that counts for a cell: its offset, or the input's length, where no record stands, if there is none
unfoldable pub counting_before : List ℕ → ℕ → ℕ → ℕ
counting_before s cell end = counts_from s cell end (length s) 0 end
