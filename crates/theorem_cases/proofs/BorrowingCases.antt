-- Closed cases of what borrowings add to a filing (02:CR 8): the verdict on their cells and on kind 8 at their limits and beyond, 18, 19, 7 and 9 of the
-- borrowings, the order of all these, and what an accepted filing says. Each is computed.
-- Assumes nothing.
use Prim.Native.Nat.{ℕ, ◌+◌, ◌*◌, ◌-◌}
use mathlib.Core.Path.{◌≡◌, refl}
use mathlib.Core.Bool.{cond}
use mathlib.Core.List.{List, [], ◌∷◌, ◌++◌, map}
use lib.Dec.{eqb}
use Rattle.lists.specs.Sums.{sum}
use Rattle.lists.specs.Tables.{table_from, those, contains, joined, any_below}
use Rattle.form.specs.Cells.{first_cell, cell_count, position, positions, in_column, within_row, brokered_cell, penalty_balance_cell, penalty_months_cell, unused_cells}
use Rattle.form.specs.Limits.{class_limit}
use Rattle.form.specs.Borrowings.{borrowing, borrowing_at, coupon_cell, term_cell, within_class, within_term}
use Rattle.form.specs.Classes.{cell_class}
use Rattle.answers.specs.Verdict.{Verdict, accepted, refused, refused_if, first_refusal, first_of}
use Rattle.record_fields.specs.Bytes.{number_at}
use Rattle.record_fields.specs.Records.{next_record, search_records, first_record}
use Rattle.record_kinds.specs.Kinds.{gives_cell, names_cell, sheet_of, sheet_kinds, sheet_kind, sheet_length, due_length}
use Rattle.record_kinds.specs.Items.{same_item, record_class, record_item, first_with}
use Rattle.record_offsets.specs.Counting.{item_rank, counting, counts_from, counting_before}
use Rattle.record_limits.specs.Bodies.{value_limit, unfit_for, unfit_amendment, number_over, over_limit}
use Rattle.record_limits.specs.TierFaults.{unfit_tier, unsound_tiers}
use Rattle.record_shape.specs.Faults.{incomplete, stands_before, sheet_before, path_beside_flat}
use Rattle.record_verdicts.specs.RecordVerdicts.{shape_verdict, body_verdict, record_verdict, first_refused, verdict_by}
use Rattle.filing_cells.specs.Balances.{cell_in, column_balances, balances}
use Rattle.filing_cells.specs.Conditions.{months_outside, above_column, total_differs}
use Rattle.filing_cells.specs.CellVerdicts.{position_verdict, months_verdict, column_verdict, columns_verdict, total_verdict, cells_verdict}
use Rattle.filing_contents.specs.Amounts.{filed_value, amount_at}
use Rattle.filing_contents.specs.Sheets.{tier_number, tiers_at}
use Rattle.filing_decode.specs.Contents.{cell_offset, cell_value, sheet_offset, rate_number, contents_of}
use Rattle.filing_contents.specs.Contents.{Contents, cell, cd_yield, libor_yield}
use Rattle.filing.specs.RequiredSheets.{sheet_missing, sheet_verdict, libor_missing, libor_verdict}
use Rattle.filing.specs.Verdict.{filing_verdict}
use Rattle.filing_cells.specs.BorrowingConditions.{filled, some_borrowed, class_borrowed, term_borrowed, coupon_outside, term_outside, borrowings, borrowings_differ}
use Rattle.filing_cells.specs.BorrowingVerdicts.{coupon_verdict, coupons_verdict, term_verdict, terms_verdict, borrowings_verdict}
use Rattle.lists.specs.Ranges.{within}
use Rattle.theorem_cases.specs.Filings.{bytes, filed, fined, amendment, yield_sheet, libor_sheet, rate_sheet, complete, with_libor, Case, gives}

-- 3 to 5 at the borrowings' cells: the numbers beside them, a cell twice, each limit and one over, and kinds 6 and 7 (a coupon stays in hundredths). A filing
-- that passes lacks its sheets, a 6
abbrev cell-cases : List Case
cell-cases =
    gives (filed ((674, 0) ∷ [])) (refused 3 0)
    ∷ gives (filed ((707, 0) ∷ [])) (refused 3 0)
    ∷ gives (filed ((710, 0) ∷ [])) (refused 3 0)
    ∷ gives (filed ((714, 0) ∷ [])) (refused 3 0)
    ∷ gives (filed ((716, 0) ∷ [])) (refused 3 0)
    ∷ gives (filed ((675, 0) ∷ (675, 0) ∷ [])) (refused 4 14)
    ∷ gives (filed ((675, 999999999) ∷ [])) (refused 6 14)
    ∷ gives (filed ((675, 1000000000) ∷ [])) (refused 5 0)
    ∷ gives (filed ((705, 999999999) ∷ [])) (refused 6 14)
    ∷ gives (filed ((705, 1000000000) ∷ [])) (refused 5 0)
    ∷ gives (filed ((678, 1500) ∷ [])) (refused 6 14)
    ∷ gives (filed ((678, 1501) ∷ [])) (refused 5 0)
    ∷ gives (filed ((706, 1500) ∷ [])) (refused 6 14)
    ∷ gives (filed ((706, 1501) ∷ [])) (refused 5 0)
    ∷ gives (filed ((711, 120) ∷ [])) (refused 6 14)
    ∷ gives (filed ((711, 121) ∷ [])) (refused 5 0)
    ∷ gives (filed ((713, 120) ∷ [])) (refused 6 14)
    ∷ gives (filed ((713, 121) ∷ [])) (refused 5 0)
    ∷ gives (filed ((715, 23999999976) ∷ [])) (refused 6 14)
    ∷ gives (filed ((715, 23999999977) ∷ [])) (refused 5 0)
    ∷ gives (fined ((678, 0) ∷ [])) (refused 3 0)
    ∷ gives (fined ((706, 0) ∷ [])) (refused 3 0)
    ∷ gives (fined ((675, 0) ∷ [])) (refused 3 0)
    ∷ gives (amendment 675 1 0 999999999) (refused 6 18)
    ∷ gives (amendment 675 1 0 1000000000) (refused 5 0)
    ∷ gives (amendment 678 1 0 1500) (refused 6 18)
    ∷ gives (amendment 678 1 0 1501) (refused 5 0)
    ∷ gives (amendment 714 1 0 0) (refused 3 0)
    ∷ []

-- 2, 4 and 5 at kind 8: a length that is not 242, the sheet twice, the first and the last yield at the limit and one over
abbrev sheet-cases : List Case
sheet-cases =
    gives (bytes 2 240 ++ bytes 2 8 ++ bytes 238 0) (refused 2 0)
    ∷ gives (bytes 2 8 ++ bytes 2 8 ++ bytes 6 0) (refused 2 0)
    ∷ gives (libor_sheet (λ (t : ℕ). 0) ++ libor_sheet (λ (t : ℕ). 2501)) (refused 4 244)
    ∷ gives (libor_sheet (λ (t : ℕ). 2380 + t)) (refused 6 244)
    ∷ gives (libor_sheet (λ (t : ℕ). 2381 + t)) (refused 5 0)
    ∷ gives (libor_sheet (λ (t : ℕ). 2502 - t)) (refused 5 0)
    ∷ gives (libor_sheet (λ (t : ℕ). 0) ++ rate_sheet (λ (j : ℕ). 0)) (refused 6 254)
    ∷ gives (yield_sheet (λ (t : ℕ). 0) ++ libor_sheet (λ (t : ℕ). 0)) (refused 6 488)
    ∷ []

-- 18: one balance that is not zero without kind 8, the first, the last, and one by kind 7. Balances of zero ask for no sheet, whatever the coupons and the
-- months are, and neither does the total; with the sheet, or where the balance is withdrawn, no sheet is missing
abbrev libor-cases : List Case
libor-cases =
    gives (complete ((675, 1) ∷ [])) (refused 18 268)
    ∷ gives (complete ((705, 1) ∷ [])) (refused 18 268)
    ∷ gives (complete [] ++ amendment 689 1 0 1) (refused 18 272)
    ∷ gives (complete ((675, 1) ∷ []) ++ amendment 675 1 1 0) accepted
    ∷ gives (complete ((675, 0) ∷ (678, 500) ∷ (711, 120) ∷ (713, 1) ∷ [])) accepted
    ∷ gives (complete ((715, 1) ∷ [])) (refused 9 715)
    ∷ gives (with_libor []) accepted
    ∷ gives (with_libor ((675, 1) ∷ (711, 1) ∷ (715, 1) ∷ [])) accepted
    ∷ gives (complete ((675, 1) ∷ (711, 1) ∷ (715, 1) ∷ []) ++ libor_sheet (λ (t : ℕ). 2500)) accepted
    ∷ gives (with_libor ((711, 1) ∷ (715, 1) ∷ []) ++ amendment 675 1 0 1) accepted
    ∷ []

-- the order: 5, 6, 18, 19, 7 of the certificates, 7 of the borrowings, 8, 9 at 645, 9 at 715; each before the next where both hold
abbrev order-cases : List Case
order-cases =
    gives (filed ((675, 1) ∷ []) ++ libor_sheet (λ (t : ℕ). 2501)) (refused 5 14)
    ∷ gives (filed ((675, 1) ∷ [])) (refused 6 14)
    ∷ gives (complete ((675, 1) ∷ (678, 500) ∷ [])) (refused 18 282)
    ∷ gives (complete ((601, 10) ∷ (675, 1) ∷ [])) (refused 18 282)
    ∷ gives (with_libor ((601, 10) ∷ (675, 1) ∷ (678, 500) ∷ [])) (refused 19 678)
    ∷ gives (with_libor ((675, 1) ∷ (678, 500) ∷ [])) (refused 19 678)
    ∷ gives (with_libor ((601, 10) ∷ (675, 1) ∷ [])) (refused 7 608)
    ∷ gives (with_libor ((641, 10) ∷ (675, 1) ∷ [])) (refused 7 644)
    ∷ gives (with_libor ((677, 1) ∷ (650, 1) ∷ [])) (refused 7 713)
    ∷ gives (with_libor ((650, 1) ∷ (715, 1) ∷ [])) (refused 8 650)
    ∷ gives (with_libor ((645, 1) ∷ (715, 1) ∷ [])) (refused 9 645)
    ∷ gives (with_libor ((601, 10) ∷ (608, 1) ∷ (645, 10) ∷ (715, 1) ∷ [])) (refused 9 715)
    ∷ []

-- every case holds
abbrev filings : List Case
filings = cell-cases ++ sheet-cases ++ libor-cases ++ order-cases

verdicts-hold : map (λ (c : Case). filing_verdict c.input) filings ≡ map (λ (c : Case). c.verdict) filings
unfolding number_at next_record search_records first_record gives_cell names_cell sheet_of sheet_kinds sheet_kind sheet_length due_length same_item record_class record_item first_with item_rank counting counts_from counting_before incomplete stands_before sheet_before path_beside_flat any_below value_limit unfit_for unfit_amendment number_over over_limit unfit_tier unsound_tiers cell_class class_limit contains position positions brokered_cell penalty_balance_cell penalty_months_cell unused_cells first_refused verdict_by sheet_offset sheet_missing filing_verdict refused filed_value amount_at cell_offset cell_value contents_of rate_number tiers_at tier_number cell_in months_outside column_balances balances above_column total_differs sum those in_column within_row sheet_verdict position_verdict months_verdict column_verdict columns_verdict total_verdict cells_verdict shape_verdict body_verdict record_verdict accepted refused_if first_refusal first_of table_from joined borrowing borrowing_at coupon_cell term_cell libor_missing libor_verdict filled some_borrowed class_borrowed term_borrowed coupon_outside term_outside borrowings borrowings_differ coupon_verdict coupons_verdict term_verdict terms_verdict borrowings_verdict within_class within_term within
verdicts-hold = refl

-- the cells of a filing that are not 0, each with its value, and the verdict on all its cells
record CellsCase : Type 0 where
  cells : List (ℕ × ℕ)
  verdict : Verdict

abbrev cells-give : List (ℕ × ℕ) → Verdict → CellsCase
cells-give k v = record { cells = k; verdict = v }

abbrev value_of_cell : List (ℕ × ℕ) → ℕ → ℕ
value_of_cell [] n = 0
value_of_cell (c ∷ cs) n = cond (eqb c.0 n) c.1 (value_of_cell cs n)

abbrev all-cells : List (ℕ × ℕ) → List ℕ
all-cells cells = table_from first_cell cell_count (value_of_cell cells)

-- 19: the coupon at the ends of the lowest, the second and the highest class and beyond them; a class is judged by any of its three balances, and only where
-- one is not zero; the first WAC cell answers
abbrev class_cases : List CellsCase
class_cases =
    cells-give ((675, 1) ∷ (678, 499) ∷ (711, 1) ∷ (715, 1) ∷ []) accepted
    ∷ cells-give ((675, 1) ∷ (678, 500) ∷ (711, 1) ∷ (715, 1) ∷ []) (refused 19 678)
    ∷ cells-give ((676, 1) ∷ (678, 500) ∷ (712, 4) ∷ (715, 1) ∷ []) (refused 19 678)
    ∷ cells-give ((677, 1) ∷ (678, 500) ∷ (713, 37) ∷ (715, 1) ∷ []) (refused 19 678)
    ∷ cells-give ((679, 1) ∷ (682, 499) ∷ (711, 1) ∷ (715, 1) ∷ []) (refused 19 682)
    ∷ cells-give ((679, 1) ∷ (682, 500) ∷ (711, 1) ∷ (715, 1) ∷ []) accepted
    ∷ cells-give ((679, 1) ∷ (682, 599) ∷ (711, 1) ∷ (715, 1) ∷ []) accepted
    ∷ cells-give ((679, 1) ∷ (682, 600) ∷ (711, 1) ∷ (715, 1) ∷ []) (refused 19 682)
    ∷ cells-give ((705, 1) ∷ (706, 1099) ∷ (713, 37) ∷ (715, 1) ∷ []) (refused 19 706)
    ∷ cells-give ((705, 1) ∷ (706, 1100) ∷ (713, 37) ∷ (715, 1) ∷ []) accepted
    ∷ cells-give ((705, 1) ∷ (706, 1500) ∷ (713, 37) ∷ (715, 1) ∷ []) accepted
    ∷ cells-give ((675, 1) ∷ (678, 0) ∷ (682, 1500) ∷ (711, 1) ∷ (715, 1) ∷ []) accepted
    ∷ cells-give ((679, 1) ∷ (675, 1) ∷ (678, 500) ∷ (682, 600) ∷ []) (refused 19 678)
    ∷ cells-give ((679, 1) ∷ (678, 500) ∷ (682, 600) ∷ []) (refused 19 682)
    ∷ []

-- 7 at 711 to 713: the months at the ends of each term and beyond them, and without months; a term is judged by any of its eight balances, and only where one
-- is not zero; the first WARM cell answers
abbrev term-cases : List CellsCase
term-cases =
    cells-give ((675, 1) ∷ (715, 1) ∷ []) (refused 7 711)
    ∷ cells-give ((675, 1) ∷ (711, 3) ∷ (715, 1) ∷ []) accepted
    ∷ cells-give ((675, 1) ∷ (711, 4) ∷ (715, 1) ∷ []) (refused 7 711)
    ∷ cells-give ((676, 1) ∷ (712, 3) ∷ (715, 1) ∷ []) (refused 7 712)
    ∷ cells-give ((676, 1) ∷ (712, 4) ∷ (715, 1) ∷ []) accepted
    ∷ cells-give ((676, 1) ∷ (712, 36) ∷ (715, 1) ∷ []) accepted
    ∷ cells-give ((676, 1) ∷ (712, 37) ∷ (715, 1) ∷ []) (refused 7 712)
    ∷ cells-give ((677, 1) ∷ (713, 36) ∷ (715, 1) ∷ []) (refused 7 713)
    ∷ cells-give ((677, 1) ∷ (713, 37) ∷ (715, 1) ∷ []) accepted
    ∷ cells-give ((677, 1) ∷ (713, 120) ∷ (715, 1) ∷ []) accepted
    ∷ cells-give ((703, 1) ∷ (706, 1100) ∷ (711, 4) ∷ (715, 1) ∷ []) (refused 7 711)
    ∷ cells-give ((675, 1) ∷ (711, 1) ∷ (712, 120) ∷ (713, 1) ∷ (715, 1) ∷ []) accepted
    ∷ cells-give ((677, 1) ∷ (675, 1) ∷ (711, 4) ∷ (713, 1) ∷ []) (refused 7 711)
    ∷ []

-- the twenty-four balances at their limit, and the least coupon of each class with the most months of each term
abbrev all-balances : List (ℕ × ℕ)
all-balances = joined (table_from 0 8 (λ (k : ℕ). table_from 0 3 (λ (j : ℕ). (675 + 4 * k + j, 999999999))))

abbrev all-ends : List (ℕ × ℕ)
all-ends =
    (678, 0) ∷ (682, 500) ∷ (686, 600) ∷ (690, 700) ∷ (694, 800) ∷ (698, 900) ∷ (702, 1000) ∷ (706, 1100) ∷ (711, 3) ∷ (712, 36) ∷ (713, 120) ∷ []

-- 9 at 715: the total of the first and the last balance, with one of them left out, none and one too many; all twenty-four at their limit
abbrev total-cases : List CellsCase
total-cases =
    cells-give ((675, 1) ∷ (705, 2) ∷ (706, 1100) ∷ (711, 1) ∷ (713, 37) ∷ (715, 3) ∷ []) accepted
    ∷ cells-give ((675, 1) ∷ (705, 2) ∷ (706, 1100) ∷ (711, 1) ∷ (713, 37) ∷ (715, 1) ∷ []) (refused 9 715)
    ∷ cells-give ((675, 1) ∷ (705, 2) ∷ (706, 1100) ∷ (711, 1) ∷ (713, 37) ∷ (715, 2) ∷ []) (refused 9 715)
    ∷ cells-give ((675, 1) ∷ (711, 1) ∷ []) (refused 9 715)
    ∷ cells-give ((675, 1) ∷ (711, 1) ∷ (715, 2) ∷ []) (refused 9 715)
    ∷ cells-give (all-balances ++ all-ends ++ ((715, 23999999976) ∷ [])) accepted
    ∷ cells-give (all-balances ++ all-ends ++ ((715, 23999999975) ∷ [])) (refused 9 715)
    ∷ []

-- every case holds
abbrev conditions : List CellsCase
conditions = class_cases ++ term-cases ++ total-cases

conditions-hold : map (λ (c : CellsCase). cells_verdict (all-cells c.cells)) conditions ≡ map (λ (c : CellsCase). c.verdict) conditions
unfolding sum table_from those contains joined any_below within position positions in_column within_row brokered_cell penalty_balance_cell borrowing borrowing_at coupon_cell term_cell within_class within_term cell_in column_balances balances months_outside above_column total_differs position_verdict months_verdict column_verdict columns_verdict total_verdict cells_verdict filled class_borrowed term_borrowed coupon_outside term_outside borrowings borrowings_differ coupon_verdict coupons_verdict term_verdict terms_verdict borrowings_verdict accepted refused refused_if first_refusal first_of
conditions-hold = refl

-- the LIBOR yields beside the CD yields, at both ends and beyond, and 0 where there is no kind 8; a borrowing's coupon, by kinds 1 and 7, in hundredths
abbrev both : Contents
both = contents_of (with_libor ((675, 10) ∷ (678, 499) ∷ (605, 499) ∷ []) ++ amendment 682 1 0 599)

abbrev without : Contents
without = contents_of (complete [])

contents-hold :
    cd_yield both 1 ∷ cd_yield both 120 ∷ libor_yield both 1 ∷ libor_yield both 120 ∷ libor_yield both 121 ∷ libor_yield without 1 ∷ libor_yield without 120
    ∷ cell both 675 ∷ cell both 678 ∷ cell both 682 ∷ cell both 605 ∷ cell both 715 ∷ cell both 716 ∷ []
    ≡ 10 ∷ 1200 ∷ 20 ∷ 2400 ∷ 0 ∷ 0 ∷ 0 ∷ 10 ∷ 499 ∷ 599 ∷ 4990 ∷ 0 ∷ 0 ∷ []
unfolding number_at next_record search_records first_record gives_cell names_cell sheet_of sheet_kinds sheet_kind sheet_length due_length same_item record_class record_item first_with item_rank counting counts_from counting_before cell_class contains position positions brokered_cell penalty_balance_cell penalty_months_cell unused_cells filed_value amount_at cell_offset cell_value sheet_offset contents_of rate_number tiers_at tier_number cell_in cd_yield libor_yield table_from joined borrowing borrowing_at coupon_cell term_cell
contents-hold = refl
