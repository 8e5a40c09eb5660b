-- `append_scenarios` meets its contract: the lines from the scenario on remain. Assumes nothing.
use mathlib.Core.Path.{◌≡◌}
use mathlib.Core.List.{◌++◌}
use Rattle.text_listing.specs.TotalLines.{lines_in}
use Rattle.text_listing.proofs.TotalLineLaws.{lines_from}
use Rattle.text_listing.proofs.total_lines.append_scenarios.Given as goal

abbrev pub invariant-loop-scenario : goal.invariant-loop-scenario
invariant-loop-scenario g l = l.text.items ++ lines_from l.numbers l.from l.each l.scenario ≡ l.initial.text.items ++ lines_in l.numbers l.from l.each
