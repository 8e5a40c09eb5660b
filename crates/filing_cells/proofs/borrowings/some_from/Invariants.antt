-- `some_from` meets its contract. The loop's invariant: the first i cells are zero. Assumes nothing.
use mathlib.Core.Path.{◌≡◌}
use mathlib.Core.Bool.{false}
use Rattle.filing_cells.specs.Inner.Borrowed.{some_from}
use Rattle.filing_cells.proofs.borrowings.some_from.Given as goal

abbrev pub invariant-loop-i : goal.invariant-loop-i
invariant-loop-i l = some_from l.cells l.first l.step l.i ≡ false
