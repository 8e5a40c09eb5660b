-- `text::lines::append_line` meets its contract: the line from a number on remains. Assumes nothing.
use mathlib.Core.Path.{◌≡◌}
use mathlib.Core.List.{◌++◌}
use lib.ListN.{drop}
use Rattle.text.specs.Lines.{rest_of_line}
use Rattle.text.proofs.lines.append_line.Given as goal

abbrev pub invariant-loop-number : goal.invariant-loop-number
invariant-loop-number g l = l.text.items ++ rest_of_line (drop l.number-index l.numbers) ≡ l.initial.text.items ++ rest_of_line l.numbers
