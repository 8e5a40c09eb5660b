-- The classes of the form's cells (01:13-22; 02:CR 8). Definitions only.
use Rattle.std.specs.Prelude.{ℕ, cond, List, [], ◌∷◌, map, eqb}
use Rattle.lists.specs.Tables.{contains, table}
use Rattle.form.specs.declared.Position.{Position}
use Rattle.form.specs.Cells.{positions, brokered_cell, penalty_balance_cell, penalty_months_cell, total_cell, unused_cells}
use Rattle.form.specs.Borrowings.{borrowing_count, coupon_classes, borrowing_terms, borrowing_at, coupon_cell, term_cell, borrowings_total_cell}

-- 0: not listed. Of certificates, 1: balance; 2: coupon (WAC); 3: remaining months (WARM); 4: brokered balance, or balance subject to penalty;
-- 5: penalty months; 6: total. 7: accepted and not used. Of borrowings, 8: balance; 9: coupon; 10: remaining months; 11: total
unfoldable pub cell_class : ℕ → ℕ
cell_class cell =
    cond (contains (map (λ (p : Position). p.balance) positions) cell) 1
    (cond (contains (map (λ (p : Position). p.coupon) positions) cell) 2
    (cond (contains (map (λ (p : Position). p.months) positions) cell) 3
    (cond (contains (map brokered_cell columns) cell) 4
    (cond (contains (map penalty_balance_cell columns) cell) 4
    (cond (contains (map penalty_months_cell columns) cell) 5
    (cond (eqb cell total_cell) 6
    (cond (contains unused_cells cell) 7
    (cond (contains (table borrowing_count (λ (i : ℕ). (borrowing_at i).balance)) cell) 8
    (cond (contains (table coupon_classes coupon_cell) cell) 9
    (cond (contains (table borrowing_terms term_cell) cell) 10
    (cond (eqb cell borrowings_total_cell) 11
    0)))))))))))
  where
    columns : List ℕ
    columns = 1 ∷ 2 ∷ 3 ∷ []

-- how many classes there are
abbrev pub class_count : ℕ
class_count = 12
