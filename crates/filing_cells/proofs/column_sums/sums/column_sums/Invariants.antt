-- `column_sums` meets its contract. The loop's invariant: the columns' sums are those over the positions passed, and the sums above those are filled in.
-- Assumes nothing.
use mathlib.Core.Path.{◌≡◌}
use Rattle.lists.proofs.FillLaws.{Filled}
use Rattle.filing_cells.proofs.SumLaws.{sums_before, above_at}
use Rattle.filing_cells.proofs.column_sums.sums.column_sums.Given as goal

abbrev pub invariant-loop-i : goal.invariant-loop-i
invariant-loop-i l = (l.totals ≡ sums_before l.cells l.i) × Filled (above_at l.cells) 0 9 l.i l.above
