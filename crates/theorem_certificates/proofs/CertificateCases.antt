-- Closed cases of the verdict on certificates and of the cells that they fill, so that a wrong clause of a definition breaks a case: each limit and the
-- number after it, the order of the tests, and the means. Each is computed. Assumes nothing.
use Prim.Native.Nat.{ℕ}
use mathlib.Core.Path.{◌≡◌, refl}
use mathlib.Core.List.{List, [], ◌∷◌, ◌++◌, map}
use lib.ListN.{replicate}
use Rattle.lists.specs.Ranges.{within, first_from}
use Rattle.lists.specs.Sums.{sum, sum_where}
use Rattle.lists.specs.Tables.{table_from, joined, those, contains}
use Rattle.form.specs.Cells.{position, positions, position_at, within_row, brokered_cell, penalty_balance_cell, penalty_months_cell, unused_cells}
use Rattle.form.specs.Borrowings.{borrowing, borrowing_at, coupon_cell, term_cell}
use Rattle.form.specs.Classes.{cell_class}
use Rattle.answers.specs.Verdict.{Verdict, accepted, refused, refused_if, first_refusal, first_of}
use Rattle.certificate_calendar.specs.declared.Date.{Date}
use Rattle.certificate_calendar.specs.Dates.{is_leap, last_day, is_date, on_or_after, day_in, moved_on, months_between}
use Rattle.certificate_terms.specs.Terms.{certificate_count, date_at, certificate_at, column_of, position_for, position_of}
use Rattle.certificate_terms.specs.Faults.{over_limit, no_such_day, not_outstanding, too_many_months, own_verdict}
use Rattle.certificate_cells.specs.declared.filled_cells.CellValue.{CellValue}
use Rattle.certificate_cells.specs.Means.{mean, balance_at, coupon_at, months_at}
use Rattle.certificate_cells.specs.Cells.{is_filled, is_of_position, position_with, form_cell, form_cells, is_present, value_of, cell_value, cells_of}
use Rattle.certificates.specs.Sums.{stands_at, position_sum, totals_of}
use Rattle.certificates.specs.EachVerdict.{sum_over_limit, certificate_verdict, each_verdict}
use Rattle.certificates.specs.Verdict.{count_verdict, certificates_verdict}
use Rattle.certificates.specs.Filled.{filled_cells}
use Rattle.theorem_certificates.proofs.DateCases.{date}

-- the eight numbers of a certificate: issue and maturity as dates, balance, coupon
abbrev certificate : Date → Date → ℕ → ℕ → List ℕ
certificate a b balance coupon = a.year ∷ a.month ∷ a.day ∷ b.year ∷ b.month ∷ b.day ∷ balance ∷ coupon ∷ []

-- issued on 1 January 2024
abbrev until : Date → ℕ → ℕ → List ℕ
until b balance coupon = certificate (date 2024 1 1) b balance coupon

-- a valuation date and certificates, and the verdict on them
record Case : Type 0 where
  valuation : Date
  certificates : List (List ℕ)
  verdict : Verdict

-- at 15 June 2024
abbrev gives : List (List ℕ) → Verdict → Case
gives cs v = record { valuation = date 2024 6 15; certificates = cs; verdict = v }

-- the count, 5 and 13 with the valuation date
abbrev first-cases : List Case
first-cases =
    gives [] (refused 5 0)
    ∷ gives ((1 ∷ 2 ∷ 3 ∷ 4 ∷ 5 ∷ 6 ∷ 7 ∷ []) ∷ []) (refused 5 0)
    ∷ record { valuation = date 2024 2 30; certificates = []; verdict = refused 5 0 }
    ∷ record { valuation = date 2024 2 30; certificates = until (date 2024 9 1) 1000000000 1 ∷ []; verdict = refused 5 0 }
    ∷ record { valuation = date 2024 2 30; certificates = until (date 2024 9 1) 1 1 ∷ []; verdict = refused 13 0 }
    ∷ gives (until (date 2024 9 15) 999999999 1500 ∷ []) accepted
    ∷ gives (until (date 2024 9 15) 1000000000 5 ∷ []) (refused 5 0)
    ∷ gives (until (date 2024 9 15) 5 1501 ∷ []) (refused 5 0)
    ∷ gives (until (date 2024 9 31) 5 1501 ∷ []) (refused 5 0)
    ∷ []

-- 13 to 15, and the sum of a cell after them
abbrev date-cases : List Case
date-cases =
    gives (until (date 2024 9 31) 0 5 ∷ []) (refused 13 0)
    ∷ gives (certificate (date 2024 2 30) (date 2024 9 1) 5 5 ∷ []) (refused 13 0)
    ∷ gives (certificate (date 2024 7 1) (date 2024 9 31) 5 5 ∷ []) (refused 13 0)
    ∷ gives (certificate (date 2024 6 15) (date 2024 6 16) 5 5 ∷ []) accepted
    ∷ gives (certificate (date 2024 6 16) (date 2024 9 1) 5 5 ∷ []) (refused 14 0)
    ∷ gives (until (date 2024 6 15) 5 5 ∷ []) (refused 14 0)
    ∷ gives (certificate (date 2024 7 1) (date 2040 1 1) 5 5 ∷ []) (refused 14 0)
    ∷ gives (until (date 2034 6 15) 5 5 ∷ []) accepted
    ∷ gives (until (date 2034 6 16) 0 5 ∷ []) (refused 15 0)
    ∷ gives (until (date 2024 9 15) 999999998 5 ∷ until (date 2024 9 15) 1 5 ∷ []) accepted
    ∷ gives (until (date 2024 9 15) 999999999 5 ∷ until (date 2024 9 15) 1 5 ∷ until (date 2024 9 31) 1 5 ∷ []) (refused 5 1)
    ∷ gives (until (date 2024 9 15) 999999999 5 ∷ until (date 2024 9 31) 1 5 ∷ []) (refused 13 1)
    ∷ gives (until (date 2024 9 15) 999999999 5 ∷ until (date 2025 9 15) 1 5 ∷ []) accepted
    ∷ []

verdicts-hold : map (λ (c : Case). certificates_verdict c.valuation (joined c.certificates)) (first-cases ++ date-cases)
    ≡ map (λ (c : Case). c.verdict) (first-cases ++ date-cases)
unfolding certificates_verdict count_verdict each_verdict certificate_verdict own_verdict sum_over_limit certificate_count certificate_at date_at over_limit no_such_day not_outstanding too_many_months position_sum stands_at position_of position_for column_of is_date within last_day is_leap on_or_after moved_on day_in months_between first_from within_row position_at positions position sum_where table_from joined refused accepted refused_if first_refusal first_of
verdicts-hold = refl

-- the column by original months: 12 and 13, 36 and 37
columns-hold : map column_of (1 ∷ 12 ∷ 13 ∷ 36 ∷ 37 ∷ 120 ∷ []) ≡ 1 ∷ 1 ∷ 2 ∷ 2 ∷ 3 ∷ 3 ∷ []
unfolding column_of
columns-hold = refl

-- the position of a certificate that matures on 28 September 2024 or a day later, at 28 June 2024: 3 and 4 months remain; 12 and 13, 36 and 37 from its issue
abbrev position_from : Date → Date → ℕ
position_from issue maturity = position_of (date 2024 6 28) (record { issue = issue; maturity = maturity; balance = 1; coupon = 1 })

-- each is computed
positions-hold : position_from (date 2023 9 28) (date 2024 9 28)
    ∷ position_from (date 2023 9 27) (date 2024 9 28)
    ∷ position_from (date 2021 9 28) (date 2024 9 28)
    ∷ position_from (date 2021 9 27) (date 2024 9 28)
    ∷ position_from (date 2023 9 29) (date 2024 9 29)
    ∷ position_from (date 2021 9 29) (date 2024 9 29)
    ∷ position_from (date 2021 9 28) (date 2024 9 29)
    ∷ []
    ≡ 0 ∷ 1 ∷ 1 ∷ 2 ∷ 3 ∷ 4 ∷ 5 ∷ []
unfolding position_of position_for column_of months_between first_from on_or_after moved_on day_in last_day is_leap within_row within position_at positions position
positions-hold = refl

-- 1,001 certificates, and 1,000, of which the first is faulty
counts-hold : certificates_verdict (date 2024 6 15) (replicate 8008 0) ∷ certificates_verdict (date 2024 6 15) (replicate 8000 0) ∷ [] ≡ refused 5 0 ∷ refused 13 0 ∷ []
unfolding certificates_verdict count_verdict each_verdict certificate_verdict own_verdict sum_over_limit certificate_count certificate_at date_at over_limit no_such_day not_outstanding too_many_months position_sum stands_at position_of position_for column_of is_date within last_day is_leap on_or_after moved_on day_in months_between first_from within_row position_at positions position sum_where table_from refused accepted refused_if first_refusal first_of
counts-hold = refl

abbrev cell : ℕ → ℕ → CellValue
cell n x = record { cell = n; value = x }

-- the cells of some certificates at 15 June 2024
abbrev filled : List (List ℕ) → List CellValue
filled cs = filled_cells (date 2024 6 15) (joined cs)

-- nothing but zero balances; a WAC of 0; halves up; two columns of one row; a certificate without a balance weighs nothing; a refusal gives no cell
cells-hold :
    filled (until (date 2024 9 15) 0 500 ∷ [])
    ∷ filled (until (date 2024 9 15) 7 0 ∷ [])
    ∷ filled (until (date 2024 11 15) 1 500 ∷ until (date 2024 12 15) 1 501 ∷ [])
    ∷ filled (certificate (date 2023 6 15) (date 2024 7 1) 5 5 ∷ certificate (date 2020 6 15) (date 2024 7 1) 6 6 ∷ until (date 2024 7 1) 0 1500 ∷ [])
    ∷ filled (until (date 2024 6 15) 5 5 ∷ [])
    ∷ []
    ≡ (cell 645 0 ∷ [])
    ∷ (cell 601 7 ∷ cell 605 0 ∷ cell 608 3 ∷ cell 645 7 ∷ [])
    ∷ (cell 615 2 ∷ cell 619 501 ∷ cell 622 6 ∷ cell 645 2 ∷ [])
    ∷ (cell 602 5 ∷ cell 603 6 ∷ cell 606 5 ∷ cell 607 6 ∷ cell 609 1 ∷ cell 610 1 ∷ cell 645 11 ∷ [])
    ∷ []
    ∷ []
unfolding filled_cells cells_of cell_value value_of is_present form_cells form_cell is_of_position position_with is_filled totals_of balance_at coupon_at months_at mean sum those contains cell_class brokered_cell penalty_balance_cell penalty_months_cell unused_cells certificates_verdict count_verdict each_verdict certificate_verdict own_verdict sum_over_limit certificate_count certificate_at date_at over_limit no_such_day not_outstanding too_many_months position_sum stands_at position_of position_for column_of is_date within last_day is_leap on_or_after moved_on day_in months_between first_from within_row position_at positions position sum_where table_from joined refused accepted refused_if first_refusal first_of borrowing borrowing_at coupon_cell term_cell
cells-hold = refl
