-- `number_at` meets its contract. The loop's invariant: the value is the number that the bytes from `i` on spell.
-- Assumes nothing.
use Prim.Native.Nat.{◌+◌, ◌*◌, ◌-◌, ◌^◌, ◌≤◌}
use native.Mathlib.Nat.{add-zero, sub-zero}
use native.Mathlib.Omega.{arith}
use mathlib.Core.Path.{◌≡◌, sym, ◌∙◌}
use Rattle.record_fields.specs.Bytes.{number_at}
use Rattle.record_fields.proofs.ByteLaws.{number_past, number_step, number-byte-le}
use Rattle.record_fields.proofs.bytes.number_at.Goals as goal

pub returns-then-s-at : goal.returns-then-s-at
returns-then-s-at c = sym (number_past _ _ _ c.if-s-at.true)

pub loop-i-init : goal.loop-i-init
unfolding number_at
loop-i-init c =
    let n : c.args.width - c.args.width ≡ 0 = omega arith in
    rw n

pub overflow_mul-value : goal.overflow_mul-value
overflow_mul-value c =
    let room : c.loop-i.value * 256 + 256 ≤ 2 ^ 64 = let start = c in
    let h =
    number-byte-le start.args.s.now (start.args.at + c.loop-i.i) (start.args.width - c.loop-i.i)
    c.shared_slice_known-1.given (omega arith)
    in
    omega arith in
    omega (arith, room)

pub overflow_add-value : goal.overflow_add-value
overflow_add-value c =
    let room : c.loop-i.value * 256 + 256 ≤ 2 ^ 64 = let start = c in
    let h =
    number-byte-le start.args.s.now (start.args.at + c.loop-i.i) (start.args.width - c.loop-i.i)
    c.shared_slice_known-1.given (omega arith)
    in
    omega arith in
    let start = c in
    omega (
      arith,
      room,
      (c.shared_slice_known-1.given (start.args.at + (c.loop-i.i - 1))).fits,
    )

-- the number from byte i - 1 on is that byte and 256 times the number from byte i on
pub loop-i-preserved : goal.loop-i-preserved
loop-i-preserved c =
    let start = c in
    omega (
      arith,
      number_step start.args.s.now start.args.at start.args.width c.loop-i.i
          c.loop-i-test.true (omega arith),
    )

pub returns : goal.returns
returns c =
    let n : c.loop-i.i ≡ 0 = omega arith in
    c.loop-i.invariant ∙ rw (n, add-zero, sub-zero)
