-- `read_prices` meets its contract: the prices before i are read. Assumes nothing.
use mathlib.Core.Path.{◌≡◌}
use mathlib.Core.List.{◌++◌}
use Rattle.lists.specs.Tables.{table}
use Rattle.text_quote.specs.LineBytes.{price_at}
use Rattle.text_quote.proofs.line_bytes.read_prices.Given as goal

abbrev pub invariant-loop-i : goal.invariant-loop-i
invariant-loop-i g l = l.prices.items ≡ l.initial.prices.items ++ table l.i (price_at l.lines)
