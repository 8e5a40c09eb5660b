-- Closed cases of the dates and of the means, so that a wrong clause of a definition breaks a case. Each is computed. Assumes nothing.
use Prim.Native.Nat.{ℕ, ◌^◌}
use mathlib.Core.Path.{◌≡◌, refl}
use mathlib.Core.Bool.{true, false}
use mathlib.Core.List.{[], ◌∷◌, map}
use Rattle.lists.specs.Ranges.{within, first_from}
use Rattle.certificate_calendar.specs.declared.Date.{Date}
use Rattle.certificate_calendar.specs.Dates.{is_leap, last_day, is_date, on_or_after, day_in, moved_on, months_between}
use Rattle.certificate_cells.specs.Means.{mean}

abbrev pub date : ℕ → ℕ → ℕ → Date
date y m d = record { year = y; month = m; day = d }

-- 29 February: not in 1900 and 2100, in 2000 and 2024, not in 2023; the ends of the years, of a year and of a month
days : map is_date
    (date 1900 2 29
    ∷ date 2000 2 29
    ∷ date 2100 2 29
    ∷ date 2024 2 29
    ∷ date 2023 2 29
    ∷ date 2023 2 28
    ∷ date 1899 12 31
    ∷ date 1900 1 1
    ∷ date 2199 12 31
    ∷ date 2200 1 1
    ∷ date 2024 0 1
    ∷ date 2024 13 1
    ∷ date 2024 6 0
    ∷ date 2024 6 30
    ∷ date 2024 6 31
    ∷ date 2024 7 31
    ∷ date (2 ^ 64) 1 1
    ∷ [])
    ≡ false ∷ true ∷ false ∷ true ∷ false ∷ true ∷ false ∷ true ∷ true ∷ false ∷ false ∷ false ∷ false ∷ true ∷ false ∷ true ∷ false ∷ []
unfolding is_date within last_day is_leap
days = refl

-- 31 January moved on 1 and 2 months, in a leap year, 13 months from it, past 2199, and not at all
moved : moved_on (date 2023 1 31) 1
    ∷ moved_on (date 2023 1 31) 2
    ∷ moved_on (date 2024 1 31) 1
    ∷ moved_on (date 2023 1 31) 13
    ∷ moved_on (date 2023 2 28) 1
    ∷ moved_on (date 2199 12 31) 2
    ∷ moved_on (date 2023 1 31) 0
    ∷ []
    ≡ date 2023 2 28
    ∷ date 2023 3 31
    ∷ date 2024 2 29
    ∷ date 2024 2 29
    ∷ date 2023 3 28
    ∷ date 2200 2 28
    ∷ date 2023 1 31
    ∷ []
unfolding moved_on day_in last_day is_leap
moved = refl

-- months from a date: to its own day, to an earlier one, to ends of months, a day before, on and past a number of months
apart : months_between (date 2024 6 15) (date 2024 6 15)
    ∷ months_between (date 2024 6 15) (date 1950 1 1)
    ∷ months_between (date 2023 1 31) (date 2023 2 28)
    ∷ months_between (date 2023 1 31) (date 2023 3 1)
    ∷ months_between (date 2023 1 31) (date 2023 3 31)
    ∷ months_between (date 2023 1 31) (date 2023 4 30)
    ∷ months_between (date 2024 1 31) (date 2024 2 29)
    ∷ months_between (date 2023 2 28) (date 2023 3 31)
    ∷ months_between (date 2024 6 15) (date 2034 6 14)
    ∷ months_between (date 2024 6 15) (date 2034 6 15)
    ∷ months_between (date 2024 6 15) (date 2034 6 16)
    ∷ []
    ≡ 1 ∷ 1 ∷ 1 ∷ 2 ∷ 2 ∷ 3 ∷ 1 ∷ 2 ∷ 120 ∷ 120 ∷ 121 ∷ []
unfolding months_between first_from on_or_after moved_on day_in last_day is_leap
apart = refl

-- halves up, just below a half, whole, 0
means : mean 1001 2 ∷ mean 49549 99 ∷ mean 49550 99 ∷ mean 1500 1 ∷ mean 0 7 ∷ [] ≡ 501 ∷ 500 ∷ 501 ∷ 1500 ∷ 0 ∷ []
unfolding mean
means = refl
