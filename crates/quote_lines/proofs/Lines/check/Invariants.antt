-- `check` meets its contract: none of the lines before i is faulty. Assumes nothing.
use Rattle.quote_lines.specs.Lines.{lines_of}
use Rattle.quote_lines.proofs.FaultLaws.{Sound}
use Rattle.quote_lines.proofs.Lines.check.Given as goal

abbrev pub invariant-loop-i : goal.invariant-loop-i
invariant-loop-i l = Sound (lines_of l.self.months.now l.self.prices.now) l.i
