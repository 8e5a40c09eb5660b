-- Closed cases of amendments (02:CR 6): the verdict on each record at its limits and beyond, the order of its tests, and which record counts. Each is
-- computed.
-- Assumes nothing.
use Prim.Native.Nat.{◌-◌, ◌^◌}
use mathlib.Core.Path.{◌≡◌, refl}
use mathlib.Core.List.{List, [], ◌∷◌, ◌++◌, map}
use Rattle.lists.specs.Sums.{sum}
use Rattle.lists.specs.Tables.{table_from, those, contains, joined, any_below}
use Rattle.form.specs.Cells.{position, positions, in_column, within_row, brokered_cell, penalty_balance_cell, penalty_months_cell, unused_cells}
use Rattle.form.specs.Limits.{class_limit}
use Rattle.form.specs.Borrowings.{borrowing, borrowing_at, coupon_cell, term_cell, within_class, within_term}
use Rattle.form.specs.Classes.{cell_class}
use Rattle.answers.specs.Verdict.{accepted, refused, refused_if, first_refusal, first_of}
use Rattle.record_fields.specs.Bytes.{number_at}
use Rattle.record_fields.specs.Records.{next_record, search_records, first_record}
use Rattle.record_kinds.specs.Kinds.{gives_cell, names_cell, sheet_of, sheet_kinds, sheet_kind, sheet_length, due_length}
use Rattle.record_kinds.specs.Items.{same_item, record_class, record_item, first_with}
use Rattle.record_offsets.specs.Counting.{item_rank, counting, counts_from, counting_before}
use Rattle.record_limits.specs.Bodies.{value_limit, unfit_for, unfit_amendment, number_over, over_limit}
use Rattle.record_limits.specs.TierFaults.{unfit_tier, unsound_tiers}
use Rattle.record_shape.specs.Faults.{incomplete, stands_before, sheet_before, path_beside_flat}
use Rattle.record_verdicts.specs.RecordVerdicts.{shape_verdict, body_verdict, record_verdict, first_refused, verdict_by}
use Rattle.filing_cells.specs.Balances.{cell_in, column_balances, balances}
use Rattle.filing_cells.specs.Conditions.{months_outside, above_column, total_differs}
use Rattle.filing_cells.specs.CellVerdicts.{position_verdict, months_verdict, column_verdict, columns_verdict, total_verdict, cells_verdict}
use Rattle.filing_contents.specs.Amounts.{filed_value, amount_at}
use Rattle.filing_contents.specs.Sheets.{tier_number, tiers_at}
use Rattle.filing_decode.specs.Contents.{cell_offset, cell_value, sheet_offset, rate_number, contents_of}
use Rattle.filing_contents.specs.Contents.{Contents, cell}
use Rattle.filing.specs.RequiredSheets.{sheet_missing, sheet_verdict, libor_missing, libor_verdict}
use Rattle.filing.specs.Verdict.{filing_verdict}
use Rattle.filing_cells.specs.BorrowingConditions.{filled, some_borrowed, class_borrowed, term_borrowed, coupon_outside, term_outside, borrowings, borrowings_differ}
use Rattle.filing_cells.specs.BorrowingVerdicts.{coupon_verdict, coupons_verdict, term_verdict, terms_verdict, borrowings_verdict}
use Rattle.lists.specs.Ranges.{within}
use Rattle.theorem_cases.specs.Filings.{bytes, filed, fined, amendment, complete, Case, gives}

-- 2, 3 and 5 at an amendment: its length, a cell that is not listed, number 0, another state, a withdrawn value, its limit and one over, an unused cell
abbrev body-cases : List Case
body-cases =
    gives (bytes 2 15 ++ bytes 2 7 ++ bytes 13 601) (refused 2 0)
    ∷ gives (bytes 2 17 ++ bytes 2 7 ++ bytes 15 601) (refused 2 0)
    ∷ gives (amendment 600 1 0 0) (refused 3 0)
    ∷ gives (amendment 600 0 2 1) (refused 3 0)
    ∷ gives (amendment 611 1 0 0 ++ amendment 611 1 0 0) (refused 3 0)
    ∷ gives (amendment 601 0 0 0) (refused 5 0)
    ∷ gives (amendment 601 0 0 0 ++ amendment 601 0 0 0) (refused 5 0)
    ∷ gives (amendment 601 1 2 0) (refused 5 0)
    ∷ gives (amendment 601 1 1 1) (refused 5 0)
    ∷ gives (amendment 601 1 1 0) (refused 6 18)
    ∷ gives (amendment 601 65535 0 999999999) (refused 6 18)
    ∷ gives (amendment 601 1 0 1000000000) (refused 5 0)
    ∷ gives (amendment 605 1 0 1500) (refused 6 18)
    ∷ gives (amendment 605 1 0 1501) (refused 5 0)
    ∷ gives (amendment 605 1 0 1501 ++ amendment 605 2 0 1) (refused 5 0)
    ∷ gives (amendment 604 1 0 (2 ^ 64 - 1)) (refused 6 18)
    ∷ gives (amendment 604 1 1 1) (refused 5 0)
    ∷ []

-- 4 and 16: a second number of a cell, in any order and beside other faults, and kinds 1 and 6 beside amendments
abbrev order-cases : List Case
order-cases =
    gives (amendment 601 1 0 0 ++ amendment 601 1 0 0) (refused 16 18)
    ∷ gives (amendment 601 1 0 0 ++ amendment 601 1 1 0) (refused 16 18)
    ∷ gives (amendment 601 1 0 0 ++ amendment 601 1 0 1000000000) (refused 16 18)
    ∷ gives (amendment 601 1 0 0 ++ amendment 601 2 0 0) (refused 6 36)
    ∷ gives (amendment 601 1 0 0 ++ amendment 602 1 0 0) (refused 6 36)
    ∷ gives (amendment 601 2 0 0 ++ amendment 601 1 0 0 ++ amendment 601 2 0 0) (refused 16 36)
    ∷ gives (amendment 601 2 0 0 ++ amendment 601 1 0 0 ++ amendment 601 1 0 0 ++ amendment 600 1 0 0) (refused 16 36)
    ∷ gives (amendment 601 2 0 0 ++ amendment 600 1 0 0 ++ amendment 601 2 0 0) (refused 3 18)
    ∷ gives (amendment 602 1 0 0 ++ amendment 601 1 0 0 ++ amendment 601 1 0 0 ++ amendment 602 1 0 0) (refused 16 36)
    ∷ gives (amendment 601 1 0 0 ++ bytes 2 16 ++ bytes 2 7 ++ bytes 2 601 ++ bytes 2 1) (refused 1 18)
    ∷ gives (filed ((601, 0) ∷ []) ++ amendment 601 1 0 0) (refused 6 32)
    ∷ gives (amendment 601 1 0 0 ++ filed ((601, 0) ∷ [])) (refused 6 32)
    ∷ gives (filed ((601, 0) ∷ []) ++ amendment 601 1 0 0 ++ filed ((601, 0) ∷ [])) (refused 4 32)
    ∷ gives (filed ((605, 0) ∷ []) ++ amendment 605 1 1 0 ++ fined ((605, 0) ∷ [])) (refused 4 32)
    ∷ []

-- 6 to 9 are judged on the cells that survive
abbrev survivor-cases : List Case
survivor-cases =
    gives (complete ((601, 10) ∷ (608, 1) ∷ (645, 10) ∷ []) ++ amendment 645 1 1 0) (refused 9 645)
    ∷ gives (complete ((601, 10) ∷ (608, 1) ∷ (645, 10) ∷ []) ++ amendment 645 2 0 10 ++ amendment 645 1 1 0) accepted
    ∷ gives (complete ((601, 10) ∷ (645, 10) ∷ []) ++ amendment 601 1 1 0 ++ amendment 645 1 1 0) accepted
    ∷ gives (complete ((601, 10) ∷ (608, 1) ∷ (645, 10) ∷ []) ++ amendment 608 1 0 4) (refused 7 608)
    ∷ []

abbrev cases : List Case
cases = body-cases ++ order-cases ++ survivor-cases

-- every case holds
verdicts-hold : map (λ (c : Case). filing_verdict c.input) cases ≡ map (λ (c : Case). c.verdict) cases
unfolding number_at next_record search_records first_record gives_cell names_cell sheet_of sheet_kinds sheet_kind sheet_length due_length same_item record_class record_item first_with item_rank counting counts_from counting_before incomplete stands_before sheet_before path_beside_flat any_below value_limit unfit_for unfit_amendment number_over over_limit unfit_tier unsound_tiers cell_class class_limit contains position positions brokered_cell penalty_balance_cell penalty_months_cell unused_cells first_refused verdict_by sheet_offset sheet_missing filing_verdict refused filed_value amount_at cell_offset cell_value contents_of rate_number tiers_at tier_number cell_in months_outside column_balances balances above_column total_differs sum those in_column within_row sheet_verdict position_verdict months_verdict column_verdict columns_verdict total_verdict cells_verdict shape_verdict body_verdict record_verdict accepted refused_if first_refusal first_of table_from joined borrowing borrowing_at coupon_cell term_cell libor_missing libor_verdict filled some_borrowed class_borrowed term_borrowed coupon_outside term_outside borrowings borrowings_differ coupon_verdict coupons_verdict term_verdict terms_verdict borrowings_verdict within_class within_term within
verdicts-hold = refl

-- the record that counts: the highest number wherever it stands, kinds 1 and 6 as number 0, withdrawn as absent, a coupon tenfold
abbrev sample : Contents
sample =
    contents_of
    (filed ((601, 10) ∷ (602, 5) ∷ []) ++ amendment 601 2 0 30 ++ amendment 601 1 0 20 ++ amendment 602 1 1 0 ++ amendment 603 2 0 7 ++ amendment 603 1 1 0
    ++ fined ((605, 1234) ∷ []) ++ amendment 605 1 0 100 ++ amendment 606 1 0 12 ++ amendment 606 2 1 0 ++ filed ((606, 9) ∷ []) ++ fined ((607, 77) ∷ []))

sample-holds :
    cell sample 601 ∷ cell sample 602 ∷ cell sample 603 ∷ cell sample 605 ∷ cell sample 606 ∷ cell sample 607 ∷ cell sample 608 ∷ []
    ≡ 30 ∷ 0 ∷ 7 ∷ 1000 ∷ 0 ∷ 77 ∷ 0 ∷ []
unfolding number_at next_record search_records first_record gives_cell names_cell sheet_of sheet_kinds sheet_kind sheet_length due_length same_item record_class record_item first_with item_rank counting counts_from counting_before cell_class contains position positions brokered_cell penalty_balance_cell penalty_months_cell unused_cells filed_value amount_at cell_offset cell_value sheet_offset contents_of rate_number tiers_at tier_number cell_in table_from joined borrowing borrowing_at coupon_cell term_cell
sample-holds = refl
