-- `append_cells` meets its contract: the lines from the cell on remain, and a line has 42 bytes at most. Assumes nothing.
use native.Mathlib.Omega.{arith}
use mathlib.Core.Path.{sym, ◌∙◌}
use mathlib.Core.List.{append-nil, append_assoc}
use Rattle.std.proofs.Common.{rules}
use Rattle.certificate_cells.specs.Cells.{no_cell}
use Rattle.text_certificates.specs.CellLines.{cell_line}
use Rattle.text_certificates.proofs.CellLineLaws.{lines_next, lines_end}
use Rattle.text_certificates.proofs.cell_lines.append_cells.Goals as goal

pub append_cell-requires : goal.append_cell-requires
append_cell-requires g c = (search rules, omega (arith, c.loop-filled.invariant.1, c.requires))

pub loop-filled-preserved : goal.loop-filled-preserved
unfolding cell_line
loop-filled-preserved g c =
    let inv = rw (lines_next c.args.cells.now c.loop-filled.filled-index no_cell (omega arith)) at c.loop-filled.invariant.0 in
    (rw (c.append_cell.ensures.line, append_assoc) inv, omega (arith, c.append_cell.ensures.short, c.loop-filled.invariant.1))

pub returns : goal.returns
returns g c =
    let inv = rw (lines_end c.args.cells.now c.loop-filled.filled-index (omega arith)) at c.loop-filled.invariant.0 in
    sym (append-nil _) ∙ inv
