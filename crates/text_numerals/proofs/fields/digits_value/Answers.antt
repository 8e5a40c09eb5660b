-- `digits_value` meets its contract. The loop's invariant: the value of the digits so far. Assumes nothing.
use Prim.Native.Nat.{◌+◌, ◌-◌}
use native.Mathlib.Omega.{arith}
use mathlib.Core.Path.{◌≡◌, refl, ap, ◌∙◌}
use Rattle.std.specs.Prelude.{Some}
use Rattle.text_numerals.specs.Numerals.{decimal}
use Rattle.text_numerals.proofs.NumeralLaws.{decimal_next, whole_value, whole_large}
use Rattle.text_numerals.proofs.fields.digits_value.Goals as goal

pub loop-byte-init : goal.loop-byte-init
unfolding decimal
loop-byte-init c = (refl, omega arith)

pub returns-in_err-checked_mul : goal.returns-in_err-checked_mul
returns-in_err-checked_mul c =
    let a = c.args in
    let next = decimal_next a.text.now a.at c.loop-byte.byte-index a.end (omega arith) c.requires.end_in_bounds in
    c.from_residual.ensures
    ∙ whole_large a.text.now a.at (c.loop-byte.byte-index + 1) a.end (omega arith) (omega (arith, next, c.in_err-checked_mul.ensures))

pub returns-in_err-value : goal.returns-in_err-value
returns-in_err-value c =
    let a = c.args in
    let next = decimal_next a.text.now a.at c.loop-byte.byte-index a.end (omega arith) c.requires.end_in_bounds in
    c.from_residual-in_err-value.ensures
    ∙ whole_large a.text.now a.at (c.loop-byte.byte-index + 1) a.end (omega arith) (omega (arith, next, c.in_ok-checked_mul.ensures, c.in_err-value.ensures))

pub loop-byte-preserved : goal.loop-byte-preserved
loop-byte-preserved c =
    let a = c.args in
    let next = decimal_next a.text.now a.at c.loop-byte.byte-index a.end (omega arith) c.requires.end_in_bounds in
    (omega (arith, next, c.in_ok-checked_mul.ensures, c.in_ok-value.ensures), omega (arith, c.in_ok-value.ensures))

pub returns : goal.returns
returns c =
    let a = c.args in
    let all : c.loop-byte.byte-index ≡ a.end - a.at = omega arith in
    let value : c.loop-byte.value ≡ decimal a.text.now a.at (a.end - a.at) = rw all at c.loop-byte.invariant.0 in
    ap Some value ∙ whole_value a.text.now a.at a.end (omega (arith, value))
