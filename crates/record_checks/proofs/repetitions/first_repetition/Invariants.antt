-- `first_repetition` meets its contract. The loop's invariant: the first repetition of the blocks passed. A block whose numbers rise has none.
-- Assumes nothing.
use mathlib.Core.Path.{◌≡◌}
use Rattle.record_checks.specs.Inner.Repetitions.{repetitions_below}
use Rattle.record_checks.proofs.repetitions.first_repetition.Given as goal

abbrev pub invariant-loop-i : goal.invariant-loop-i
invariant-loop-i l = l.first ≡ repetitions_below l.s l.i l.end
