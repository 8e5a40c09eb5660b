-- `scan` meets its contract. The loop's invariant: the records before `at` are sound, and noted.
-- Assumes nothing.
use Prim.Native.Nat.{◌-◌}
use lib.ListN.{length}
use Rattle.record_offsets.specs.Inner.Notes.{noted_as}
use Rattle.record_checks.proofs.ProgressLaws.{Scanning}
use Rattle.record_checks.proofs.scan.scan.Given as goal

abbrev pub invariant-loop-at : goal.invariant-loop-at
invariant-loop-at l = Scanning l.s (noted_as l.sheets l.cells l.counting l.falling) l.at

abbrev pub decreases-loop-at : goal.decreases-loop-at
decreases-loop-at l = length l.s - l.at
