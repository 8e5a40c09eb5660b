-- `sixteen_classes` meets its contract: each arm has the digits that the definition makes. Assumes nothing.
use native.Mathlib.Omega.{arith}
use Prim.Native.Nat.{◌≤◌}
use mathlib.Core.Path.{◌≡◌, sym, ap}
use Rattle.lists.specs.Tables.{table_from, contains}
use Rattle.form.specs.Cells.{position, positions, brokered_cell, penalty_balance_cell, penalty_months_cell, unused_cells}
use Rattle.form.specs.Borrowings.{borrowing, borrowing_at, coupon_cell, term_cell}
use Rattle.form.specs.Classes.{cell_class}
use Rattle.form.specs.Inner.Classes.{hexadecimal, sixteen_classes}
use Rattle.form.proofs.tables.sixteen_classes.Goals as goal

pub returns-in-0 : goal.returns-in-0
unfolding sixteen_classes hexadecimal table_from cell_class contains positions position brokered_cell penalty_balance_cell penalty_months_cell unused_cells borrowing borrowing_at coupon_cell term_cell
returns-in-0 c = ap sixteen_classes (sym c.in-0.is)

pub returns-in-1 : goal.returns-in-1
unfolding sixteen_classes hexadecimal table_from cell_class contains positions position brokered_cell penalty_balance_cell penalty_months_cell unused_cells borrowing borrowing_at coupon_cell term_cell
returns-in-1 c = ap sixteen_classes (sym c.in-1.is)

pub returns-in-2 : goal.returns-in-2
unfolding sixteen_classes hexadecimal table_from cell_class contains positions position brokered_cell penalty_balance_cell penalty_months_cell unused_cells borrowing borrowing_at coupon_cell term_cell
returns-in-2 c = ap sixteen_classes (sym c.in-2.is)

pub returns-in-3 : goal.returns-in-3
unfolding sixteen_classes hexadecimal table_from cell_class contains positions position brokered_cell penalty_balance_cell penalty_months_cell unused_cells borrowing borrowing_at coupon_cell term_cell
returns-in-3 c = ap sixteen_classes (sym c.in-3.is)

pub returns-in-4 : goal.returns-in-4
unfolding sixteen_classes hexadecimal table_from cell_class contains positions position brokered_cell penalty_balance_cell penalty_months_cell unused_cells borrowing borrowing_at coupon_cell term_cell
returns-in-4 c = ap sixteen_classes (sym c.in-4.is)

pub returns-in-5 : goal.returns-in-5
unfolding sixteen_classes hexadecimal table_from cell_class contains positions position brokered_cell penalty_balance_cell penalty_months_cell unused_cells borrowing borrowing_at coupon_cell term_cell
returns-in-5 c = ap sixteen_classes (sym c.in-5.is)

pub returns-in-6 : goal.returns-in-6
unfolding sixteen_classes hexadecimal table_from cell_class contains positions position brokered_cell penalty_balance_cell penalty_months_cell unused_cells borrowing borrowing_at coupon_cell term_cell
returns-in-6 c = ap sixteen_classes (sym c.in-6.is)

pub returns-in_default : goal.returns-in_default
unfolding sixteen_classes hexadecimal table_from cell_class contains positions position brokered_cell penalty_balance_cell penalty_months_cell unused_cells borrowing borrowing_at coupon_cell term_cell
returns-in_default c =
    let last : 7 ≡ c.args.part = let past : 7 ≤ c.args.part = omega arith in
    omega (arith, c.requires) in
    ap sixteen_classes last
