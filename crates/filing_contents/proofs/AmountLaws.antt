-- What a record gives its cell. Assumes nothing.
use Prim.Native.Nat.{ℕ, ◌+◌, ◌≤◌}
use native.Mathlib.Omega.{arith}
use mathlib.Core.Path.{◌≡◌}
use mathlib.Core.List.{List}
use lib.ListN.{length}
use Rattle.lists.specs.Tables.{contains, table_from}
use Rattle.form.specs.Cells.{position, positions, brokered_cell, penalty_balance_cell, penalty_months_cell, unused_cells}
use Rattle.form.specs.Borrowings.{borrowing, borrowing_at, coupon_cell, term_cell}
use Rattle.form.specs.Classes.{cell_class}
use Rattle.record_fields.proofs.ByteLaws.{number_past}
use Rattle.filing_contents.specs.Amounts.{filed_value, amount_at}

-- no record stands at the input's length, so it gives nothing
pub amount-past : (s : List ℕ) (at : ℕ) → length s ≤ at → amount_at s at ≡ 0
unfolding amount_at filed_value cell_class contains position positions brokered_cell penalty_balance_cell penalty_months_cell unused_cells borrowing borrowing_at coupon_cell term_cell table_from
amount-past s at h =
    simp (number_past s (at + 2) 2 (omega arith), number_past s (at + 4) 2 (omega arith), number_past s (at + 6) 8 (omega arith))
