-- `fill_cells` meets its contract. The loop's invariant: the first i cells are filled.
-- Assumes nothing.
use Prim.Native.Nat.{ℕ, ◌+◌}
use Rattle.lists.proofs.FillLaws.{Filled}
use Rattle.form.specs.Cells.{first_cell, cell_count}
use Rattle.filing_decode.specs.Contents.{cell_value}
use Rattle.filing_decode.proofs.fill_cells.Given as goal

abbrev pub invariant-loop-i : goal.invariant-loop-i
invariant-loop-i l = Filled (λ (j : ℕ). cell_value l.s (first_cell + j)) 0 cell_count l.i l.cells
