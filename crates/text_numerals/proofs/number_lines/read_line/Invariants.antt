-- `read_line` meets its contract. The loop's invariant: the line is read up to its number j. Assumes nothing.
use Rattle.text_numerals.proofs.LineLaws.{Reading}
use Rattle.text_numerals.proofs.number_lines.read_line.Given as goal

abbrev pub invariant-loop-j : goal.invariant-loop-j
invariant-loop-j l = Reading l.text l.from l.form l.numbers l.next l.j
