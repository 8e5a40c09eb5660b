-- `read_full` keeps within the buffer: no more is read than it has room for.
use Rattle.std.proofs.Common.{◌≤◌, ◌-◌, length}
use Rattle.test_second.proofs.entries.read_full.Given as goal

abbrev pub invariant-loop-done : goal.invariant-loop-done
invariant-loop-done g l = l.done ≤ length l.buf

abbrev pub decreases-loop-done : goal.decreases-loop-done
decreases-loop-done g l = length l.buf - l.done
