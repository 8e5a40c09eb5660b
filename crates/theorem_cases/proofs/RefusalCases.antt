-- Closed cases of what a filing says and of the verdict on it, so that a wrong clause of a definition breaks a case: the small examples of the table
-- (01:28-39), the shortest inputs, each limit and the number after it, the tiers (02:CR 1), the order of the tests, and accepted filings. Each is computed.
-- Assumes nothing.
use Prim.Native.Nat.{ℕ, ◌+◌, ◌-◌, ◌^◌}
use mathlib.Core.Path.{◌≡◌, refl}
use mathlib.Core.List.{List, [], ◌∷◌, ◌++◌, map}
use lib.ListN.{get_or}
use Rattle.lists.specs.Sums.{sum}
use Rattle.lists.specs.Tables.{table_from, those, contains, joined, any_below}
use Rattle.form.specs.Cells.{position, positions, in_column, within_row, brokered_cell, penalty_balance_cell, penalty_months_cell, unused_cells}
use Rattle.form.specs.Limits.{class_limit}
use Rattle.form.specs.Borrowings.{borrowing, borrowing_at, coupon_cell, term_cell, within_class, within_term}
use Rattle.form.specs.Classes.{cell_class}
use Rattle.form.specs.Shift.{path_rate}
use Rattle.answers.specs.Verdict.{accepted, refused, refused_if, first_refusal, first_of, list_verdict}
use Rattle.record_fields.specs.Bytes.{number_at}
use Rattle.record_fields.specs.Records.{next_record, search_records, first_record}
use Rattle.record_kinds.specs.Kinds.{gives_cell, names_cell, sheet_of, sheet_kinds, sheet_kind, sheet_length, due_length}
use Rattle.record_kinds.specs.Items.{same_item, record_class, record_item, first_with}
use Rattle.record_offsets.specs.Counting.{item_rank, counting, counts_from, counting_before}
use Rattle.record_limits.specs.Bodies.{value_limit, unfit_for, unfit_amendment, number_over, over_limit}
use Rattle.record_limits.specs.TierFaults.{unfit_tier, unsound_tiers}
use Rattle.record_shape.specs.Faults.{incomplete, stands_before, sheet_before, path_beside_flat}
use Rattle.record_verdicts.specs.RecordVerdicts.{shape_verdict, body_verdict, record_verdict, first_refused, verdict_by}
use Rattle.filing_cells.specs.BorrowingConditions.{filled, some_borrowed, class_borrowed, term_borrowed, coupon_outside, term_outside, borrowings, borrowings_differ}
use Rattle.filing_cells.specs.BorrowingVerdicts.{coupon_verdict, coupons_verdict, term_verdict, terms_verdict, borrowings_verdict}
use Rattle.lists.specs.Ranges.{within}
use Rattle.theorem_cases.specs.Filings.{bytes, filed, yield_sheet, rate_sheet, tier_sheet, complete, Case, gives}
use Rattle.filing_cells.specs.Balances.{cell_in, column_balances, balances}
use Rattle.filing_cells.specs.Conditions.{months_outside, above_column, total_differs}
use Rattle.filing_contents.specs.Amounts.{filed_value, amount_at}
use Rattle.filing_contents.specs.Sheets.{tier_number, tiers_at}
use Rattle.filing_decode.specs.Contents.{cell_offset, cell_value, sheet_offset, rate_number, contents_of}
use Rattle.filing_contents.specs.Contents.{Contents, cell, cd_yield, retail_rate}
use Rattle.filing.specs.RequiredSheets.{sheet_missing, sheet_verdict, libor_missing, libor_verdict}
use Rattle.filing.specs.Verdict.{filing_verdict}
use Rattle.filing_cells.specs.CellVerdicts.{position_verdict, months_verdict, column_verdict, columns_verdict, total_verdict, cells_verdict}

-- 1 and 2: the shortest inputs, a length below 2, a record that runs past the end, and a length that is not the kind's
abbrev shape-cases : List Case
shape-cases =
    gives [] (refused 6 0)
    ∷ gives (5 ∷ []) (refused 1 0)
    ∷ gives (12 ∷ 0 ∷ []) (refused 1 0)
    ∷ gives (0 ∷ 0 ∷ []) (refused 1 0)
    ∷ gives (1 ∷ 0 ∷ 9 ∷ []) (refused 1 0)
    ∷ gives ((1 ∷ 0 ∷ 9 ∷ []) ++ filed ((601, 0) ∷ [])) (refused 1 0)
    ∷ gives (2 ∷ 0 ∷ 9 ∷ []) (refused 1 0)
    ∷ gives (2 ∷ 0 ∷ 9 ∷ 0 ∷ []) (refused 2 0)
    ∷ gives (3 ∷ 0 ∷ 9 ∷ 0 ∷ []) (refused 1 0)
    ∷ gives (2 ∷ 0 ∷ 0 ∷ 0 ∷ []) (refused 2 0)
    ∷ gives (bytes 2 12 ++ bytes 2 1 ++ bytes 9 601) (refused 1 0)
    ∷ gives (bytes 2 11 ++ bytes 2 1 ++ bytes 9 601) (refused 2 0)
    ∷ gives (bytes 2 13 ++ bytes 2 1 ++ bytes 11 601) (refused 2 0)
    ∷ gives (bytes 2 8 ++ bytes 2 2 ++ bytes 6 0) (refused 2 0)
    ∷ gives (bytes 2 12 ++ bytes 2 3 ++ bytes 10 0) (refused 2 0)
    ∷ gives (bytes 2 8 ++ bytes 2 4 ++ bytes 6 0) (refused 2 0)
    ∷ gives (filed ((601, 0) ∷ []) ++ (5 ∷ [])) (refused 1 14)
    ∷ []

-- 3 to 5: a cell that is not listed, a cell twice, a value at its limit and one over; a filing that passes lacks its sheets, a 6
abbrev cell-cases : List Case
cell-cases =
    gives (filed ((600, 0) ∷ [])) (refused 3 0)
    ∷ gives (filed ((600, 2 ^ 64 - 1) ∷ [])) (refused 3 0)
    ∷ gives (filed ((600, 0) ∷ (600, 0) ∷ [])) (refused 3 0)
    ∷ gives (filed ((611, 0) ∷ [])) (refused 3 0)
    ∷ gives (filed ((662, 0) ∷ [])) (refused 3 0)
    ∷ gives (filed ((601, 0) ∷ (601, 0) ∷ [])) (refused 4 14)
    ∷ gives (filed ((604, 0) ∷ (604, 0) ∷ [])) (refused 4 14)
    ∷ gives (filed ((601, 0) ∷ (605, 0) ∷ (601, 1000000000) ∷ [])) (refused 4 28)
    ∷ gives (filed ((601, 1000000000) ∷ (600, 0) ∷ [])) (refused 5 0)
    ∷ gives (filed ((601, 999999999) ∷ [])) (refused 6 14)
    ∷ gives (filed ((601, 1000000000) ∷ [])) (refused 5 0)
    ∷ gives (filed ((641, 999999999) ∷ [])) (refused 6 14)
    ∷ gives (filed ((641, 1000000000) ∷ [])) (refused 5 0)
    ∷ gives (filed ((605, 1500) ∷ [])) (refused 6 14)
    ∷ gives (filed ((605, 1501) ∷ [])) (refused 5 0)
    ∷ gives (filed ((643, 1500) ∷ [])) (refused 6 14)
    ∷ gives (filed ((643, 1501) ∷ [])) (refused 5 0)
    ∷ gives (filed ((608, 120) ∷ [])) (refused 6 14)
    ∷ gives (filed ((608, 121) ∷ [])) (refused 5 0)
    ∷ gives (filed ((644, 120) ∷ [])) (refused 6 14)
    ∷ gives (filed ((644, 121) ∷ [])) (refused 5 0)
    ∷ gives (filed ((650, 3999999996) ∷ [])) (refused 6 14)
    ∷ gives (filed ((650, 3999999997) ∷ [])) (refused 5 0)
    ∷ gives (filed ((655, 3999999996) ∷ [])) (refused 6 14)
    ∷ gives (filed ((655, 3999999997) ∷ [])) (refused 5 0)
    ∷ gives (filed ((656, 3600) ∷ [])) (refused 6 14)
    ∷ gives (filed ((656, 3601) ∷ [])) (refused 5 0)
    ∷ gives (filed ((658, 3600) ∷ [])) (refused 6 14)
    ∷ gives (filed ((658, 3601) ∷ [])) (refused 5 0)
    ∷ gives (filed ((645, 8999999991) ∷ [])) (refused 6 14)
    ∷ gives (filed ((645, 8999999992) ∷ [])) (refused 5 0)
    ∷ gives (filed ((604, 2 ^ 64 - 1) ∷ [])) (refused 6 14)
    ∷ gives (filed ((661, 2 ^ 64 - 1) ∷ [])) (refused 6 14)
    ∷ []

-- 4 to 6 at the sheets: each rate at its limit and one over, a sheet twice, a sheet missing
abbrev sheet-cases : List Case
sheet-cases =
    gives (yield_sheet (λ (t : ℕ). 2500)) (refused 6 244)
    ∷ gives (yield_sheet (λ (t : ℕ). 2380 + t)) (refused 6 244)
    ∷ gives (yield_sheet (λ (t : ℕ). 2381 + t)) (refused 5 0)
    ∷ gives (yield_sheet (λ (t : ℕ). 2502 - t)) (refused 5 0)
    ∷ gives (rate_sheet (λ (j : ℕ). 2500)) (refused 6 10)
    ∷ gives (rate_sheet (λ (j : ℕ). 2498 + j)) (refused 5 0)
    ∷ gives (rate_sheet (λ (j : ℕ). 2502 - j)) (refused 5 0)
    ∷ gives (yield_sheet (λ (t : ℕ). 0) ++ yield_sheet (λ (t : ℕ). 2501)) (refused 4 244)
    ∷ gives (rate_sheet (λ (j : ℕ). 0) ++ rate_sheet (λ (j : ℕ). 0)) (refused 4 10)
    ∷ []

-- 7: a balance that is not zero with its months at the ends of its row and beyond them, and without months; the first WARM cell answers
abbrev months-cases : List Case
months-cases =
    gives (complete ((615, 10) ∷ (622, 3) ∷ [])) (refused 7 622)
    ∷ gives (complete ((615, 10) ∷ (622, 4) ∷ [])) (refused 9 645)
    ∷ gives (complete ((615, 10) ∷ (622, 12) ∷ [])) (refused 9 645)
    ∷ gives (complete ((615, 10) ∷ (622, 13) ∷ [])) (refused 7 622)
    ∷ gives (complete ((601, 10) ∷ (608, 0) ∷ [])) (refused 7 608)
    ∷ gives (complete ((601, 10) ∷ (608, 1) ∷ [])) (refused 9 645)
    ∷ gives (complete ((601, 10) ∷ (608, 3) ∷ [])) (refused 9 645)
    ∷ gives (complete ((601, 10) ∷ (608, 4) ∷ [])) (refused 7 608)
    ∷ gives (complete ((631, 10) ∷ (636, 12) ∷ [])) (refused 7 636)
    ∷ gives (complete ((631, 10) ∷ (636, 13) ∷ [])) (refused 9 645)
    ∷ gives (complete ((631, 10) ∷ (636, 36) ∷ [])) (refused 9 645)
    ∷ gives (complete ((631, 10) ∷ (636, 37) ∷ [])) (refused 7 636)
    ∷ gives (complete ((641, 10) ∷ (644, 36) ∷ [])) (refused 7 644)
    ∷ gives (complete ((641, 10) ∷ (644, 37) ∷ [])) (refused 9 645)
    ∷ gives (complete ((641, 10) ∷ (644, 120) ∷ [])) (refused 9 645)
    ∷ gives (complete ((632, 10) ∷ (603, 10) ∷ [])) (refused 7 610)
    ∷ gives (complete ((601, 10) ∷ (650, 11) ∷ [])) (refused 7 608)
    ∷ gives (complete ((622, 3) ∷ [])) accepted
    ∷ []

-- 8: a column's brokered and penalty balance at the column's sum and above it; the first cell answers
abbrev column-cases : List Case
column-cases =
    gives (complete ((601, 10) ∷ (608, 1) ∷ (650, 11) ∷ [])) (refused 8 650)
    ∷ gives (complete ((601, 10) ∷ (608, 1) ∷ (650, 10) ∷ [])) (refused 9 645)
    ∷ gives (complete ((601, 10) ∷ (608, 1) ∷ (653, 11) ∷ [])) (refused 8 653)
    ∷ gives (complete ((601, 10) ∷ (608, 1) ∷ (653, 11) ∷ (651, 1) ∷ [])) (refused 8 651)
    ∷ gives (complete ((602, 10) ∷ (609, 1) ∷ (616, 20) ∷ (623, 4) ∷ (631, 30) ∷ (636, 13) ∷ (651, 61) ∷ [])) (refused 8 651)
    ∷ gives (complete ((602, 10) ∷ (609, 1) ∷ (616, 20) ∷ (623, 4) ∷ (631, 30) ∷ (636, 13) ∷ (651, 60) ∷ (654, 60) ∷ [])) (refused 9 645)
    ∷ gives (complete ((603, 10) ∷ (610, 1) ∷ (617, 20) ∷ (624, 4) ∷ (632, 30) ∷ (637, 13) ∷ (641, 40) ∷ (644, 37) ∷ (655, 101) ∷ [])) (refused 8 655)
    ∷ []

-- 9 and acceptance: the total, without a WAC, with cells in any order, and with the cells that are not used
abbrev total-cases : List Case
total-cases =
    gives (complete ((601, 10) ∷ (608, 1) ∷ [])) (refused 9 645)
    ∷ gives (complete ((601, 10) ∷ (608, 1) ∷ (645, 11) ∷ [])) (refused 9 645)
    ∷ gives (complete ((601, 10) ∷ (608, 1) ∷ (645, 10) ∷ [])) accepted
    ∷ gives (complete []) accepted
    ∷ gives (complete ((645, 1) ∷ [])) (refused 9 645)
    ∷ gives (complete ((656, 3600) ∷ (604, 7) ∷ (661, 2 ^ 64 - 1) ∷ [])) accepted
    ∷ gives (filed ((645, 60) ∷ []) ++ rate_sheet (λ (j : ℕ). 0) ++ filed ((636, 13) ∷ (631, 30) ∷ (623, 4) ∷ (616, 20) ∷ [])
    ++ yield_sheet (λ (t : ℕ). 0) ++ filed ((609, 1) ∷ (602, 10) ∷ [])) accepted
    ∷ []

-- 2, 4 and 11 at the tiers: a length that is not 4 + 4 × count, tiers twice, each condition of 11 at its limit and beyond, and acceptance
abbrev tier-cases : List Case
tier-cases =
    gives (bytes 2 2 ++ bytes 2 4) (refused 2 0)
    ∷ gives (bytes 2 4 ++ bytes 2 4 ++ bytes 2 16384) (refused 2 0)
    ∷ gives (bytes 2 4 ++ bytes 2 4 ++ bytes 2 0) (refused 11 0)
    ∷ gives (tier_sheet ((0, 40) ∷ [])) (refused 6 10)
    ∷ gives (tier_sheet (table_from 0 16 (λ (i : ℕ). (i, i)))) (refused 6 70)
    ∷ gives (tier_sheet (table_from 0 17 (λ (i : ℕ). (i, i)))) (refused 11 0)
    ∷ gives (tier_sheet ((1, 40) ∷ [])) (refused 11 0)
    ∷ gives (tier_sheet ((0, 40) ∷ (65535, 40) ∷ [])) (refused 6 14)
    ∷ gives (tier_sheet ((0, 40) ∷ (0, 50) ∷ [])) (refused 11 0)
    ∷ gives (tier_sheet ((0, 40) ∷ (7, 50) ∷ (6, 60) ∷ [])) (refused 11 0)
    ∷ gives (tier_sheet ((0, 40) ∷ (7, 39) ∷ [])) (refused 11 0)
    ∷ gives (tier_sheet ((0, 600) ∷ [])) (refused 6 10)
    ∷ gives (tier_sheet ((0, 601) ∷ [])) (refused 11 0)
    ∷ gives (tier_sheet ((0, 40) ∷ []) ++ tier_sheet ((1, 601) ∷ [])) (refused 4 10)
    ∷ gives (complete [] ++ tier_sheet ((0, 40) ∷ (100, 130) ∷ [])) accepted
    ∷ []

abbrev cases : List Case
cases = shape-cases ++ cell-cases ++ sheet-cases ++ tier-cases ++ months-cases ++ column-cases ++ total-cases

-- every case holds
verdicts-hold : map (λ (c : Case). filing_verdict c.input) cases ≡ map (λ (c : Case). c.verdict) cases
unfolding number_at next_record search_records first_record gives_cell names_cell sheet_of sheet_kinds sheet_kind sheet_length due_length same_item record_class record_item first_with item_rank counting counts_from counting_before incomplete stands_before sheet_before path_beside_flat any_below value_limit unfit_for unfit_amendment number_over over_limit unfit_tier unsound_tiers cell_class class_limit contains position positions brokered_cell penalty_balance_cell penalty_months_cell unused_cells first_refused verdict_by sheet_offset sheet_missing filing_verdict refused filed_value amount_at cell_offset cell_value contents_of rate_number tiers_at tier_number cell_in months_outside column_balances balances above_column total_differs sum those in_column within_row sheet_verdict position_verdict months_verdict column_verdict columns_verdict total_verdict cells_verdict shape_verdict body_verdict record_verdict accepted refused_if first_refusal first_of table_from joined borrowing borrowing_at coupon_cell term_cell libor_missing libor_verdict filled some_borrowed class_borrowed term_borrowed coupon_outside term_outside borrowings borrowings_differ coupon_verdict coupons_verdict term_verdict terms_verdict borrowings_verdict within_class within_term within
verdicts-hold = refl

-- what a filing says: cells that are present and absent, the ends of the yields and of the rates, and reads beyond them
abbrev sample : Contents
sample = contents_of (complete ((601, 10) ∷ (661, 20) ∷ []) ++ tier_sheet ((0, 40) ∷ (100, 130) ∷ []))

contents-hold :
    cell sample 600 ∷ cell sample 601 ∷ cell sample 602 ∷ cell sample 661 ∷ cell sample 662
    ∷ cd_yield sample 1 ∷ cd_yield sample 120 ∷ cd_yield sample 121 ∷ retail_rate sample 1 1
    ∷ retail_rate sample 3 120 ∷ sample.tiers.count ∷ get_or sample.tiers.edges 1 0 ∷ get_or sample.tiers.withdrawals 0 0
    ∷ get_or sample.tiers.withdrawals 2 0 ∷ []
    ≡ 0 ∷ 10 ∷ 0 ∷ 20 ∷ 0 ∷ 10 ∷ 1200 ∷ 0 ∷ 100 ∷ 300 ∷ 2 ∷ 100 ∷ 40 ∷ 0 ∷ []
unfolding number_at next_record search_records first_record gives_cell names_cell sheet_of sheet_kinds sheet_kind sheet_length due_length same_item record_class record_item first_with item_rank counting counts_from counting_before cell_class contains position positions brokered_cell penalty_balance_cell penalty_months_cell unused_cells filed_value amount_at cell_offset cell_value sheet_offset contents_of tiers_at tier_number cell_in cd_yield path_rate rate_number table_from joined borrowing borrowing_at coupon_cell term_cell
contents-hold = refl

-- 10 comes before the verdict on the filing, at the list's length
lists-hold : first_refusal (list_verdict 568 567) (refused 1 0) ∷ first_refusal (list_verdict 568 568) (refused 1 0) ∷ [] ≡ refused 10 567 ∷ refused 1 0 ∷ []
unfolding list_verdict refused_if first_refusal refused accepted
lists-hold = refl
