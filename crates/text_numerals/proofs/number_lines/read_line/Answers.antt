-- `read_line` meets its contract: where a number fails, the line does; behind the last the line is read. Assumes nothing.
use native.Mathlib.Omega.{arith}
use mathlib.Core.Path.{sym, ◌∙◌}
use Rattle.text_numerals.proofs.LineLaws.{reading_fails, reading_done}
use Rattle.text_numerals.proofs.number_lines.read_line.Goals as goal

pub returns-in_err-field : goal.returns-in_err-field
returns-in_err-field c =
    let at = c.loop-j in
    c.from_residual.ensures
    ∙ reading_fails _ _ _ at.numbers at.next at.j at.invariant (omega arith) c.requires (sym c.read_number.ensures ∙ c.in_err-field.was)

pub returns : goal.returns
returns c =
    let at = c.loop-j in
    reading_done _ _ _ at.numbers at.next at.j at.invariant (omega arith)
