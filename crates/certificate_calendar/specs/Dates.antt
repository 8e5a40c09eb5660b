-- Dates of the Gregorian calendar (02:CR 5): the days of 1900 to 2199, their order, a date moved on some months, and the months from one date to
-- another. Definitions only.
use Rattle.std.specs.Prelude.{ℕ, ◌+◌, ◌*◌, ◌-◌, ◌/◌, ◌%◌, Bool, cond, not, ◌&&◌, ◌||◌, [], ◌∷◌, get_or, leb, ltb, eqb}
use Rattle.certificate_calendar.specs.declared.Date.{Date}
use Rattle.lists.specs.Ranges.{within, first_from}

-- a year of 366 days
unfoldable pub is_leap : ℕ → Bool
is_leap year = eqb (year % 400) 0 || (eqb (year % 4) 0 && not (eqb (year % 100) 0))

-- the last day of a month, 1 to 12; 0 for another number
unfoldable pub last_day : ℕ → ℕ → ℕ
last_day year month =
    get_or (0 ∷ 31 ∷ cond (is_leap year) 29 28 ∷ 31 ∷ 30 ∷ 31 ∷ 30 ∷ 31 ∷ 31 ∷ 30 ∷ 31 ∷ 30 ∷ 31 ∷ []) month 0

-- a day of the Gregorian years 1900 to 2199
unfoldable pub is_date : Date → Bool
is_date d = within 1900 2199 d.year && (within 1 12 d.month && within 1 (last_day d.year d.month) d.day)

-- a date's month, counted through the years
abbrev pub month_index : Date → ℕ
month_index d = 12 * d.year + (d.month - 1)

-- the first date is on or after the second: in a later month, or in the same month on no earlier day
unfoldable pub on_or_after : Date → Date → Bool
on_or_after a b = ltb (month_index b) (month_index a) || (eqb (month_index b) (month_index a) && leb b.day a.day)

-- a day of the month that is counted so: where the month lacks the day, its last one
unfoldable pub day_in : ℕ → ℕ → Date
day_in index day =
    record {
      year = index / 12;
      month = index % 12 + 1;
      day = cond (leb day (last_day (index / 12) (index % 12 + 1))) day (last_day (index / 12) (index % 12 + 1));
    }

-- the date moved on m months, counted from the date itself
unfoldable pub moved_on : Date → ℕ → Date
moved_on d m = day_in (month_index d + m) d.day

-- the least m of at least 1 for which the first date moved on m months is on or after the second. No two dates of 1900 to 2199 are further apart
-- than the 3,600 months of these years
unfoldable pub months_between : Date → Date → ℕ
months_between a b = first_from 1 3600 (λ (m : ℕ). on_or_after (moved_on a m) b)
