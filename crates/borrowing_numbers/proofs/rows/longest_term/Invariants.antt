-- `longest_term` meets its contract. The loop's invariant: the longest of the borrowings so far. Assumes nothing.
use mathlib.Core.Path.{◌≡◌}
use Rattle.borrowing_numbers.specs.Inner.Rows.{longest_to}
use Rattle.borrowing_numbers.proofs.rows.longest_term.Given as goal

abbrev pub invariant-loop-i : goal.invariant-loop-i
invariant-loop-i l = l.longest ≡ longest_to l.cells l.i
