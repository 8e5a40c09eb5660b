-- The totals of a book after the values of a place changed (02:CR 7). Definitions only.
use Rattle.std.specs.Prelude.{ℕ, ◌+◌, ◌*◌, ◌-◌, ◌/◌, ◌%◌, ◌^◌, min, Bool, cond, List, leb, get_or}
use Rattle.lists.specs.Tables.{table}
use Rattle.form.specs.PlaceOrder.{is_short, is_long}
use Rattle.form.specs.Counts.{total_count}

-- a total that loses the old figure and gains the new one, within 64 bits
unfoldable pub moved : ℕ → ℕ → ℕ → ℕ
moved total old new = min (2 ^ 64 - 1) (total - old + new)

-- total i of the twenty-eight, short lower, short upper, long lower, long upper by scenario: which places it sums, and which of their fourteen values
unfoldable pub sums_place : ℕ → ℕ → Bool
sums_place i = cond (leb 2 (i % 4)) is_long is_short

unfoldable pub value_of_total : ℕ → ℕ
value_of_total i = 2 * (i / 4) + i % 2

-- the total after a place's values changed: it moves where it sums the place
unfoldable pub total_after : ℕ → ℕ → List ℕ → List ℕ → ℕ → ℕ
total_after total place old new i =
    cond (sums_place i place) (moved total (get_or old (value_of_total i) 0) (get_or new (value_of_total i) 0)) total

unfoldable pub totals_after : List ℕ → ℕ → List ℕ → List ℕ → List ℕ
totals_after totals place old new = table total_count (λ (i : ℕ). total_after (get_or totals i 0) place old new i)
