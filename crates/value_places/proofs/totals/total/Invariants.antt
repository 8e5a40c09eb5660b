-- `value_places::totals::total` meets its contract: the sum is that of the places before, each at most the limit. Assumes nothing.
use Prim.Native.Nat.{◌*◌, ◌≤◌}
use mathlib.Core.Path.{◌≡◌}
use Rattle.lists.specs.Sums.{sum}
use Rattle.lists.specs.Tables.{table_from}
use Rattle.value_places.specs.RowTotals.{value_limit, number_at}
use Rattle.value_places.proofs.totals.total.Given as goal

abbrev pub invariant-loop-i : goal.invariant-loop-i
invariant-loop-i l = (l.sum ≤ value_limit * l.i) × (l.sum ≡ sum (table_from l.first l.i (number_at l.list l.r)))
