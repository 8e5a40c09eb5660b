-- `append_cells` meets its contract: the lines from the cell on remain. Assumes nothing.
use Prim.Native.Nat.{◌+◌, ◌*◌, ◌≤◌}
use mathlib.Core.Path.{◌≡◌}
use mathlib.Core.List.{◌++◌}
use lib.ListN.{length, drop}
use Rattle.text_certificates.specs.CellLines.{cell_lines}
use Rattle.text_certificates.proofs.cell_lines.append_cells.Given as goal

abbrev pub invariant-loop-filled : goal.invariant-loop-filled
invariant-loop-filled g l =
    (l.text.items ++ cell_lines (drop l.filled-index l.cells) ≡ l.initial.text.items ++ cell_lines l.cells)
    × (length l.text.items ≤ length l.initial.text.items + 42 * l.filled-index)
