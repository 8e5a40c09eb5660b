-- A filing as a run of records (01:6-9): where a record stands, what it holds, and the search over records. Definitions only.
use Rattle.std.specs.Prelude.{ℕ, zero, suc, ◌+◌, ◌*◌, Bool, cond, List, leb}
use Rattle.record_fields.specs.Bytes.{number_at}

-- the length of the record at an offset: the number of bytes after the length itself
abbrev pub record_length : List ℕ → ℕ → ℕ
record_length s at = number_at s at 2

-- the record's kind
abbrev pub record_kind : List ℕ → ℕ → ℕ
record_kind s at = number_at s (at + 2) 2

-- a record that gives a cell its value: the cell, and the value in that kind's unit
abbrev pub record_cell : List ℕ → ℕ → ℕ
record_cell s at = number_at s (at + 4) 2

abbrev pub record_value : List ℕ → ℕ → ℕ
record_value s at = number_at s (at + 6) 8

-- a sheet: its i-th number of 2 bytes, from 1
abbrev pub sheet_number : List ℕ → ℕ → ℕ → ℕ
sheet_number s at i = number_at s (at + 2 + 2 * i) 2

-- kind 7, an amendment of a cell (02:CR 6): its number, its state, 0 for a value and 1 where the cell is withdrawn, and the value in kind 1's unit
abbrev pub amendment_number : List ℕ → ℕ → ℕ
amendment_number s at = sheet_number s at 2

abbrev pub amendment_state : List ℕ → ℕ → ℕ
amendment_state s at = sheet_number s at 3

abbrev pub amendment_value : List ℕ → ℕ → ℕ
amendment_value s at = number_at s (at + 10) 8

-- kind 4, tiers of annual withdrawal (02:CR 1): their count; of the i-th, from 0, the edge in hundredths and the withdrawal in thousandths
abbrev pub tier_count : List ℕ → ℕ → ℕ
tier_count s at = sheet_number s at 1

abbrev pub tier_edge : List ℕ → ℕ → ℕ → ℕ
tier_edge s at i = sheet_number s at (2 + 2 * i)

abbrev pub tier_withdrawal : List ℕ → ℕ → ℕ → ℕ
tier_withdrawal s at i = sheet_number s at (3 + 2 * i)

-- the offset of the record after this one
unfoldable pub next_record : List ℕ → ℕ → ℕ
next_record s at = at + 2 + record_length s at

-- The first record from offset `at` on, and before `end`, that passes a test: its offset, or `end` where there is none.
-- Each record takes at least two bytes, so no more steps than `end` are needed
unfoldable pub search_records : List ℕ → (ℕ → Bool) → ℕ → ℕ → ℕ → ℕ
search_records s test end at zero = end
search_records s test end at (suc steps) =
    let rest = search_records s test end (next_record s at) steps in
    cond (leb end at) end (cond (test at) at rest)

unfoldable pub first_record : List ℕ → (ℕ → Bool) → ℕ → ℕ
first_record s test end = search_records s test end 0 end
