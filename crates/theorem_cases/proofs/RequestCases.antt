-- Closed cases of what the requests add to a filing (02:CR 3, CR 4): the verdict on each record at its limits and beyond, the order of its tests, and what an
-- accepted filing says. Each is computed.
-- Assumes nothing.
use Prim.Native.Nat.{ℕ, ◌+◌, ◌-◌, ◌^◌}
use mathlib.Core.Path.{◌≡◌, refl}
use mathlib.Core.List.{List, [], ◌∷◌, ◌++◌, map}
use Rattle.lists.specs.Sums.{sum}
use Rattle.lists.specs.Tables.{table_from, those, contains, joined, any_below}
use Rattle.form.specs.Cells.{position, positions, in_column, within_row, brokered_cell, penalty_balance_cell, penalty_months_cell, unused_cells}
use Rattle.form.specs.Limits.{class_limit}
use Rattle.form.specs.Borrowings.{borrowing, borrowing_at, coupon_cell, term_cell, within_class, within_term}
use Rattle.form.specs.Classes.{cell_class}
use Rattle.form.specs.Shift.{path_rate}
use Rattle.answers.specs.Verdict.{accepted, refused, refused_if, first_refusal, first_of}
use Rattle.record_fields.specs.Bytes.{number_at}
use Rattle.record_fields.specs.Records.{next_record, search_records, first_record}
use Rattle.record_kinds.specs.Kinds.{gives_cell, names_cell, sheet_of, sheet_kinds, sheet_kind, sheet_length, due_length}
use Rattle.record_kinds.specs.Items.{same_item, record_class, record_item, first_with}
use Rattle.record_offsets.specs.Counting.{item_rank, counting, counts_from, counting_before}
use Rattle.record_limits.specs.Bodies.{value_limit, unfit_for, unfit_amendment, number_over, over_limit}
use Rattle.record_limits.specs.TierFaults.{unfit_tier, unsound_tiers}
use Rattle.record_shape.specs.Faults.{incomplete, stands_before, sheet_before, path_beside_flat}
use Rattle.record_verdicts.specs.RecordVerdicts.{shape_verdict, body_verdict, record_verdict, first_refused, verdict_by}
use Rattle.filing_cells.specs.Balances.{cell_in, column_balances, balances}
use Rattle.filing_cells.specs.Conditions.{months_outside, above_column, total_differs}
use Rattle.filing_cells.specs.CellVerdicts.{position_verdict, months_verdict, column_verdict, columns_verdict, total_verdict, cells_verdict}
use Rattle.filing_contents.specs.Amounts.{filed_value, amount_at}
use Rattle.filing_contents.specs.Sheets.{tier_number, tiers_at}
use Rattle.filing_decode.specs.Contents.{cell_offset, cell_value, sheet_offset, rate_number, contents_of}
use Rattle.filing_contents.specs.Contents.{Contents, cell, retail_rate}
use Rattle.filing.specs.RequiredSheets.{sheet_missing, sheet_verdict, libor_missing, libor_verdict}
use Rattle.filing.specs.Verdict.{filing_verdict}
use Rattle.filing_cells.specs.BorrowingConditions.{filled, some_borrowed, class_borrowed, term_borrowed, coupon_outside, term_outside, borrowings, borrowings_differ}
use Rattle.filing_cells.specs.BorrowingVerdicts.{coupon_verdict, coupons_verdict, term_verdict, terms_verdict, borrowings_verdict}
use Rattle.lists.specs.Ranges.{within}
use Rattle.theorem_cases.specs.Filings.{bytes, filed, yield_sheet, rate_sheet, path_sheet, fined, complete, Case, gives}

-- 2, 4, 12, 5 and 6 at the retail rates by month: a length that is not 722, the path twice, beside flat rates in both orders and over the limit besides, each
-- number at its limit and one over, and which sheets must be there
abbrev path-cases : List Case
path-cases =
    gives (bytes 2 720 ++ bytes 2 5 ++ bytes 718 0) (refused 2 0)
    ∷ gives (bytes 2 724 ++ bytes 2 5 ++ bytes 722 0) (refused 2 0)
    ∷ gives (path_sheet (λ (i : ℕ). 2141 + i)) (refused 6 724)
    ∷ gives (path_sheet (λ (i : ℕ). 2142 + i)) (refused 5 0)
    ∷ gives (path_sheet (λ (i : ℕ). 0) ++ path_sheet (λ (i : ℕ). 2501)) (refused 4 724)
    ∷ gives (path_sheet (λ (i : ℕ). 0) ++ rate_sheet (λ (j : ℕ). 0)) (refused 12 724)
    ∷ gives (path_sheet (λ (i : ℕ). 0) ++ rate_sheet (λ (j : ℕ). 2501)) (refused 12 724)
    ∷ gives (rate_sheet (λ (j : ℕ). 0) ++ path_sheet (λ (i : ℕ). 0)) (refused 12 10)
    ∷ gives (rate_sheet (λ (j : ℕ). 0) ++ path_sheet (λ (i : ℕ). 2501)) (refused 12 10)
    ∷ gives (rate_sheet (λ (j : ℕ). 0) ++ rate_sheet (λ (j : ℕ). 0) ++ path_sheet (λ (i : ℕ). 0)) (refused 4 10)
    ∷ gives (rate_sheet (λ (j : ℕ). 2501) ++ path_sheet (λ (i : ℕ). 0)) (refused 5 0)
    ∷ gives (yield_sheet (λ (t : ℕ). 0)) (refused 6 244)
    ∷ gives (yield_sheet (λ (t : ℕ). 0) ++ path_sheet (λ (i : ℕ). 0)) accepted
    ∷ gives (yield_sheet (λ (t : ℕ). 0) ++ path_sheet (λ (i : ℕ). 0) ++ filed ((645, 1) ∷ [])) (refused 9 645)
    ∷ []

-- 2 to 5 at the coupons in thousandths: a length that is not 12, every cell but the nine coupons, a coupon twice and by both kinds, its limit and one over
abbrev coupon-cases : List Case
coupon-cases =
    gives (bytes 2 11 ++ bytes 2 6 ++ bytes 9 605) (refused 2 0)
    ∷ gives (bytes 2 13 ++ bytes 2 6 ++ bytes 11 605) (refused 2 0)
    ∷ gives (fined ((600, 0) ∷ [])) (refused 3 0)
    ∷ gives (fined ((601, 0) ∷ (601, 0) ∷ [])) (refused 3 0)
    ∷ gives (fined ((604, 0) ∷ [])) (refused 3 0)
    ∷ gives (fined ((608, 0) ∷ [])) (refused 3 0)
    ∷ gives (fined ((645, 2 ^ 64 - 1) ∷ [])) (refused 3 0)
    ∷ gives (fined ((650, 0) ∷ [])) (refused 3 0)
    ∷ gives (fined ((656, 0) ∷ [])) (refused 3 0)
    ∷ gives (fined ((605, 15000) ∷ [])) (refused 6 14)
    ∷ gives (fined ((605, 15001) ∷ [])) (refused 5 0)
    ∷ gives (fined ((643, 2 ^ 64 - 1) ∷ [])) (refused 5 0)
    ∷ gives (filed ((605, 1501) ∷ [])) (refused 5 0)
    ∷ gives (fined ((605, 0) ∷ (605, 15001) ∷ [])) (refused 4 14)
    ∷ gives (filed ((605, 0) ∷ []) ++ fined ((605, 0) ∷ [])) (refused 4 14)
    ∷ gives (fined ((605, 0) ∷ []) ++ filed ((605, 1501) ∷ [])) (refused 4 14)
    ∷ gives (complete ((601, 10) ∷ (608, 1) ∷ (645, 10) ∷ []) ++ fined ((605, 12345) ∷ (606, 15000) ∷ [])) accepted
    ∷ []

abbrev cases : List Case
cases = path-cases ++ coupon-cases

-- every case holds
verdicts-hold : map (λ (c : Case). filing_verdict c.input) cases ≡ map (λ (c : Case). c.verdict) cases
unfolding number_at next_record search_records first_record gives_cell names_cell sheet_of sheet_kinds sheet_kind sheet_length due_length same_item record_class record_item first_with item_rank counting counts_from counting_before incomplete stands_before sheet_before path_beside_flat any_below value_limit unfit_for unfit_amendment number_over over_limit unfit_tier unsound_tiers cell_class class_limit contains position positions brokered_cell penalty_balance_cell penalty_months_cell unused_cells first_refused verdict_by sheet_offset sheet_missing filing_verdict refused filed_value amount_at cell_offset cell_value contents_of rate_number tiers_at tier_number cell_in months_outside column_balances balances above_column total_differs sum those in_column within_row sheet_verdict position_verdict months_verdict column_verdict columns_verdict total_verdict cells_verdict shape_verdict body_verdict record_verdict accepted refused_if first_refusal first_of table_from joined borrowing borrowing_at coupon_cell term_cell libor_missing libor_verdict filled some_borrowed class_borrowed term_borrowed coupon_outside term_outside borrowings borrowings_differ coupon_verdict coupons_verdict term_verdict terms_verdict borrowings_verdict within_class within_term within
verdicts-hold = refl

-- the retail rates that a path says, at both ends of each column, and those of flat rates
abbrev by-month : Contents
by-month = contents_of (path_sheet (λ (i : ℕ). 1000 + i))

abbrev flat : Contents
flat = contents_of (rate_sheet (λ (j : ℕ). 1000 + j))

rates-hold :
    retail_rate by-month 1 1 ∷ retail_rate by-month 1 120 ∷ retail_rate by-month 2 1 ∷ retail_rate by-month 2 120 ∷ retail_rate by-month 3 1
    ∷ retail_rate by-month 3 120 ∷ retail_rate by-month 3 121 ∷ retail_rate flat 1 1 ∷ retail_rate flat 1 120 ∷ retail_rate flat 2 1 ∷ retail_rate flat 3 120 ∷ []
    ≡ 1000 ∷ 1119 ∷ 1120 ∷ 1239 ∷ 1240 ∷ 1359 ∷ 0 ∷ 1001 ∷ 1001 ∷ 1002 ∷ 1003 ∷ []
unfolding number_at next_record search_records first_record gives_cell names_cell sheet_of sheet_kinds sheet_kind sheet_length due_length same_item record_class record_item first_with item_rank counting counts_from counting_before cell_class contains position positions brokered_cell penalty_balance_cell penalty_months_cell unused_cells filed_value amount_at cell_offset cell_value sheet_offset contents_of rate_number tiers_at tier_number path_rate table_from joined borrowing borrowing_at coupon_cell term_cell
rates-hold = refl

-- coupons by both kinds, in thousandths, beside other cells
abbrev coupons : Contents
coupons = contents_of (filed ((601, 10) ∷ (605, 1234) ∷ (608, 3) ∷ []) ++ fined ((606, 1234) ∷ []))

coupons-hold : cell coupons 601 ∷ cell coupons 605 ∷ cell coupons 606 ∷ cell coupons 607 ∷ cell coupons 608 ∷ [] ≡ 10 ∷ 12340 ∷ 1234 ∷ 0 ∷ 3 ∷ []
unfolding number_at next_record search_records first_record gives_cell names_cell sheet_of sheet_kinds sheet_kind sheet_length due_length same_item record_class record_item first_with item_rank counting counts_from counting_before cell_class contains position positions brokered_cell penalty_balance_cell penalty_months_cell unused_cells filed_value amount_at cell_offset cell_value sheet_offset contents_of rate_number tiers_at tier_number cell_in table_from joined borrowing borrowing_at coupon_cell term_cell
coupons-hold = refl
