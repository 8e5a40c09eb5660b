-- `total` meets its contract. The loop's invariant: the numbers of the borrowings so far are summed. Assumes nothing.
use Prim.Native.Nat.{◌*◌, ◌≤◌}
use mathlib.Core.Path.{◌≡◌}
use Rattle.lists.specs.Sums.{sum_where, everywhere}
use Rattle.borrowing_numbers.specs.Inner.Rows.{value_limit, number_at}
use Rattle.borrowing_numbers.proofs.totals.total.Given as goal

abbrev pub invariant-loop-i : goal.invariant-loop-i
invariant-loop-i l =
    (l.sum ≤ value_limit * l.i) × (l.sum ≡ sum_where everywhere (number_at l.list l.r) l.i)
