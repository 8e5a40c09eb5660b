-- Certificates as a list of numbers, their terms in months, and where each stands in Schedule CMR (02:CR 5). Definitions only.
use Rattle.std.specs.Prelude.{ℕ, ◌+◌, ◌*◌, ◌/◌, cond, ◌&&◌, List, length, get_or, leb, eqb}
use Rattle.form.specs.Cells.{position_at, within_row}
use Rattle.certificate_calendar.specs.declared.Date.{Date}
use Rattle.certificate_terms.specs.declared.Certificate.{Certificate}
use Rattle.lists.specs.Ranges.{first_from}
use Rattle.certificate_calendar.specs.Dates.{months_between}

-- the numbers of a certificate, one after the other: issue year, month and day, maturity year, month and day, balance (thousands of dollars),
-- coupon (hundredths of a percent a year)
abbrev pub certificate_numbers : ℕ
certificate_numbers = 8

-- how many whole certificates a list holds
unfoldable pub certificate_count : List ℕ → ℕ
certificate_count s = length s / certificate_numbers

-- a date from an index of the list on: year, month, day
unfoldable pub date_at : List ℕ → ℕ → Date
date_at s at = record { year = get_or s at 0; month = get_or s (at + 1) 0; day = get_or s (at + 2) 0 }

-- certificate k, counted from 0
unfoldable pub certificate_at : List ℕ → ℕ → Certificate
certificate_at s k =
    record {
      issue = date_at s (certificate_numbers * k);
      maturity = date_at s (certificate_numbers * k + 3);
      balance = get_or s (certificate_numbers * k + 6) 0;
      coupon = get_or s (certificate_numbers * k + 7) 0;
    }

-- months from the valuation date to maturity, and from issue to maturity
abbrev pub months_remaining : Date → Certificate → ℕ
months_remaining valuation c = months_between valuation c.maturity

abbrev pub original_months : Certificate → ℕ
original_months c = months_between c.issue c.maturity

-- the column of a maturity in original months (01:13): 12 or less, 13 to 36, 37 or more
unfoldable pub column_of : ℕ → ℕ
column_of months = cond (leb months 12) 1 (cond (leb months 36) 2 3)

-- the index, 0 to 8 by ascending balance cell, of the position of a row that holds the remaining months and of a column; 9 where there is none
unfoldable pub position_for : ℕ → ℕ → ℕ
position_for months column = first_from 0 9 (λ (i : ℕ). within_row (position_at i).row months && eqb (position_at i).column column)

-- the index of a certificate's position: its row by remaining months, its column by original months
unfoldable pub position_of : Date → Certificate → ℕ
position_of valuation c = position_for (months_remaining valuation c) (column_of (original_months c))
