-- The totals of a scenario, dollars, from a list that begins with the rows of the thirty-six places (01:61). Definitions only.
use Rattle.std.specs.Prelude.{ℕ, ◌+◌, ◌*◌, ◌^◌, ◌≤◌, ◌<◌, List, [], ◌∷◌, length, get_or}
use Rattle.lists.specs.Sums.{sum}
use Rattle.lists.specs.Tables.{table_from}
use Rattle.form.specs.Counts.{place_number_count, totals_start}

-- no value is above this, dollars, so that the total of thirty-six fits 64 bits
abbrev pub value_limit : ℕ
value_limit = 5 * 10 ^ 12

-- the list has thirty-six rows of fifteen numbers, none above the limit of a value
pub record WithinRows (list : List ℕ) : Type 0 where
  pub long : totals_start ≤ length list
  pub within : (i : ℕ) → i < totals_start → get_or list i 0 ≤ value_limit

-- number r of a place's fifteen
unfoldable pub number_at : List ℕ → ℕ → ℕ → ℕ
number_at list r place = get_or list (place_number_count * place + r) 0

-- short lower, short upper, long lower and long upper total: rows 1 and 2 are places 0 to 23, rows 3 and 4 places 24 to 35
unfoldable pub row_totals : List ℕ → ℕ → List ℕ
row_totals list scenario =
    sum (table_from 0 24 (number_at list (2 * scenario + 1)))
    ∷ sum (table_from 0 24 (number_at list (2 * scenario + 2)))
    ∷ sum (table_from 24 12 (number_at list (2 * scenario + 1)))
    ∷ sum (table_from 24 12 (number_at list (2 * scenario + 2)))
    ∷ []
