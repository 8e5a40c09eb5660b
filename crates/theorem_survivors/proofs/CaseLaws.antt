-- The closed pairs of a filing and one with only its surviving cells, each computed, and the filings that are no such. Assumes nothing.
use mathlib.Core.Path.{refl}
use Rattle.lists.specs.Sums.{sum}
use Rattle.lists.specs.Tables.{table_from, those, contains, joined, any_below}
use Rattle.lists.proofs.TestLaws.{all_from}
use Rattle.form.specs.Cells.{position, positions, in_column, within_row, brokered_cell, penalty_balance_cell, penalty_months_cell, unused_cells}
use Rattle.form.specs.Limits.{class_limit}
use Rattle.form.specs.Borrowings.{borrowing, borrowing_at, coupon_cell, term_cell, within_class, within_term}
use Rattle.form.specs.Classes.{cell_class}
use Rattle.answers.specs.Verdict.{accepted, refused, refused_if, first_refusal, first_of}
use Rattle.record_fields.specs.Bytes.{number_at}
use Rattle.record_fields.specs.Records.{next_record, search_records, first_record}
use Rattle.record_kinds.specs.Kinds.{gives_cell, names_cell, sheet_of, sheet_kinds, sheet_kind, sheet_length, due_length}
use Rattle.record_kinds.specs.Items.{same_item, record_class, record_item, first_with}
use Rattle.record_offsets.specs.Counting.{item_rank, counting, counts_from, counting_before}
use Rattle.record_limits.specs.Bodies.{value_limit, unfit_for, unfit_amendment, number_over, over_limit}
use Rattle.record_limits.specs.TierFaults.{unfit_tier, unsound_tiers}
use Rattle.record_shape.specs.Faults.{incomplete, stands_before, sheet_before, path_beside_flat}
use Rattle.record_verdicts.specs.RecordVerdicts.{shape_verdict, body_verdict, record_verdict, first_refused, verdict_by}
use Rattle.filing_cells.specs.Balances.{cell_in, column_balances, balances}
use Rattle.filing_cells.specs.Conditions.{months_outside, above_column, total_differs}
use Rattle.filing_cells.specs.CellVerdicts.{position_verdict, months_verdict, column_verdict, columns_verdict, total_verdict, cells_verdict}
use Rattle.filing_contents.specs.Amounts.{filed_value, amount_at}
use Rattle.filing_contents.specs.Sheets.{tier_number, tiers_at}
use Rattle.filing_decode.specs.Contents.{cell_offset, cell_value, sheet_offset, rate_number, contents_of}
use Rattle.filing.specs.RequiredSheets.{sheet_missing, sheet_verdict, libor_missing, libor_verdict}
use Rattle.filing.specs.Verdict.{filing_verdict}
use Rattle.filing_cells.specs.BorrowingConditions.{filled, some_borrowed, class_borrowed, term_borrowed, coupon_outside, term_outside, borrowings, borrowings_differ}
use Rattle.filing_cells.specs.BorrowingVerdicts.{coupon_verdict, coupons_verdict, term_verdict, terms_verdict, borrowings_verdict}
use Rattle.lists.specs.Ranges.{within}
use Rattle.theorem_survivors.specs.Survivors.{withdraws, survives, numbers_of}
use Rattle.theorem_survivors.specs.Cases.{around_sheets, nothing_left, coupon_fine, coupon_filed, borrowed, none_borrowed, PairsSurvive, OthersFail, ComposedCase}
use Rattle.theorem_survivors.specs.Composed.{record_bytes, amended_cell, keeps, kept_as, kept_at, offset_of, kept_before, only_survivors}
use Rattle.theorem_survivors.proofs.TestedLaws.{cell_kept, sheet_kept, all_kept, tested, number-differs, sheet-differs, cell-differs}

-- each filing is accepted, and the finite test passes
pub pairs-survive : PairsSurvive
unfolding number_at next_record search_records first_record gives_cell names_cell sheet_of sheet_kinds sheet_kind sheet_length due_length same_item record_class record_item first_with item_rank counting counts_from counting_before incomplete stands_before sheet_before path_beside_flat any_below value_limit unfit_for unfit_amendment number_over over_limit unfit_tier unsound_tiers cell_class class_limit contains position positions brokered_cell penalty_balance_cell penalty_months_cell unused_cells first_refused verdict_by sheet_offset sheet_missing filing_verdict refused filed_value amount_at cell_offset cell_value contents_of rate_number tiers_at tier_number cell_in months_outside column_balances balances above_column total_differs sum those in_column within_row sheet_verdict position_verdict months_verdict column_verdict columns_verdict total_verdict cells_verdict shape_verdict body_verdict record_verdict accepted refused_if first_refusal first_of table_from joined all_from withdraws survives numbers_of cell_kept sheet_kept all_kept borrowing borrowing_at coupon_cell term_cell libor_missing libor_verdict filled some_borrowed class_borrowed term_borrowed coupon_outside term_outside borrowings borrowings_differ coupon_verdict coupons_verdict term_verdict terms_verdict borrowings_verdict within_class within_term within
pairs-survive =
    record {
      around-sheets = (refl, tested around_sheets.filing around_sheets.survivors tt);
      none_left = (refl, tested nothing_left.filing nothing_left.survivors tt);
      coupon-fine = (refl, tested coupon_fine.filing coupon_fine.survivors tt);
      coupon-filed = (refl, tested coupon_filed.filing coupon_filed.survivors tt);
      borrowings-kept = (refl, tested borrowed.filing borrowed.survivors tt);
      none-borrowed = (refl, tested none_borrowed.filing none_borrowed.survivors tt);
    }

-- each differs in one number, one sheet or one cell, where the test of it fails, as computed
pub others-fail : OthersFail
unfolding number_at next_record search_records first_record gives_cell names_cell sheet_of sheet_kinds sheet_kind sheet_length due_length same_item record_class record_item first_with item_rank counting counts_from counting_before incomplete stands_before sheet_before path_beside_flat any_below value_limit unfit_for unfit_amendment number_over over_limit unfit_tier unsound_tiers cell_class class_limit contains position positions brokered_cell penalty_balance_cell penalty_months_cell unused_cells first_refused verdict_by sheet_offset sheet_missing filing_verdict refused filed_value amount_at cell_offset cell_value contents_of rate_number tiers_at tier_number cell_in months_outside column_balances balances above_column total_differs sum those in_column within_row sheet_verdict position_verdict months_verdict column_verdict columns_verdict total_verdict cells_verdict shape_verdict body_verdict record_verdict accepted refused_if first_refusal first_of table_from joined all_from withdraws survives numbers_of cell_kept sheet_kept borrowing borrowing_at coupon_cell term_cell libor_missing libor_verdict filled some_borrowed class_borrowed term_borrowed coupon_outside term_outside borrowings borrowings_differ coupon_verdict coupons_verdict term_verdict terms_verdict borrowings_verdict within_class within_term within
others-fail =
    record {
      other-yield = number-differs _ _ 2 120 tt;
      other-rate = number-differs _ _ 3 3 tt;
      other_path = number-differs _ _ 5 360 tt;
      other-tier = number-differs _ _ 4 5 tt;
      other-libor = number-differs _ _ 8 120 tt;
      libor-lost = sheet-differs _ _ 8 tt;
      libor-added = sheet-differs _ _ 8 tt;
      withdrawn-cell = cell-differs _ _ 645 tt;
      amended-coupon = cell-differs _ _ 605 tt;
    }

pub composed-case : ComposedCase
unfolding number_at next_record gives_cell sheet_of sheet_kinds sheet_kind sheet_length due_length record_class record_item item_rank counting counts_from counting_before cell_class contains position positions brokered_cell penalty_balance_cell penalty_months_cell unused_cells cell_offset table_from joined withdraws record_bytes amended_cell keeps kept_as kept_at offset_of kept_before only_survivors ComposedCase borrowing borrowing_at coupon_cell term_cell
composed-case = refl
