-- `repetition` meets its contract. The loop's invariant: the set has the cells and numbers of the block's amendments so far, and what is still to be searched
-- gives the answer.
-- Assumes nothing.
use Prim.Native.Nat.{◌-◌}
use Rattle.record_fields.proofs.SearchLaws.{Reached, Ahead}
use Rattle.record_checks.specs.Inner.Repetitions.{repeats}
use Rattle.record_checks.proofs.MetLaws.{Met}
use Rattle.record_checks.proofs.repetitions.pass.repetition.Given as goal

abbrev pub invariant-loop-at : goal.invariant-loop-at
invariant-loop-at l = Reached l.s 0 l.at × Ahead l.s (repeats l.s l.block) l.end l.at × Met l.s l.block l.at l.met

abbrev pub decreases-loop-at : goal.decreases-loop-at
decreases-loop-at l = l.end - l.at
