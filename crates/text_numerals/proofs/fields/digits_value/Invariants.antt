-- `digits_value` meets its contract. The loop's invariant: the value of the digits so far. Assumes nothing.
use Prim.Native.Nat.{◌^◌, ◌<◌}
use mathlib.Core.Path.{◌≡◌}
use Rattle.text_numerals.specs.Numerals.{decimal}
use Rattle.text_numerals.proofs.fields.digits_value.Given as goal

abbrev pub invariant-loop-byte : goal.invariant-loop-byte
invariant-loop-byte l = (l.value ≡ decimal l.text l.at l.byte-index) × (l.value < 2 ^ 64)
