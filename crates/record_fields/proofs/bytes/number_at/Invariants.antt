-- `number_at` meets its contract. The loop's invariant: the value is the number that the bytes from `i` on spell.
-- Assumes nothing.
use Prim.Native.Nat.{◌+◌, ◌-◌}
use mathlib.Core.Path.{◌≡◌}
use Rattle.record_fields.specs.Bytes.{number_at}
use Rattle.record_fields.proofs.bytes.number_at.Given as goal

abbrev pub invariant-loop-i : goal.invariant-loop-i
invariant-loop-i l = l.value ≡ number_at l.s (l.at + l.i) (l.width - l.i)
