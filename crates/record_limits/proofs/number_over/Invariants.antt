-- `number_over` meets its contract. The loop's invariant: the first i numbers are within the limit.
-- Assumes nothing.
use mathlib.Core.Path.{◌≡◌}
use mathlib.Core.Bool.{false}
use Rattle.record_limits.specs.Bodies.{number_over}
use Rattle.record_limits.proofs.number_over.Given as goal

abbrev pub invariant-loop-i : goal.invariant-loop-i
invariant-loop-i l = number_over l.s l.at l.limit l.i ≡ false
