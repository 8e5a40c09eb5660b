-- `read_months` meets its contract: the months before i are read. Assumes nothing.
use mathlib.Core.Path.{◌≡◌}
use mathlib.Core.List.{◌++◌}
use Rattle.lists.specs.Tables.{table}
use Rattle.text_quote.specs.LineBytes.{months_in}
use Rattle.text_quote.proofs.line_bytes.read_months.Given as goal

abbrev pub invariant-loop-i : goal.invariant-loop-i
invariant-loop-i g l = l.months.items ≡ l.initial.months.items ++ table l.i (months_in l.lines)
