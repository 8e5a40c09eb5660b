-- `sheet_number` meets its contract: a number of two bytes is below 65,536, and one that starts past the end is 0.
-- Assumes nothing.
use native.Mathlib.Nat.{add_assoc}
use native.Mathlib.Omega.{arith}
use mathlib.Core.Path.{sym, ◌∙◌}
use Prim.Native.Nat.{◌+◌, ◌*◌}
use Rattle.record_fields.proofs.ByteLaws.{number_lt, number_past}
use Rattle.record_fields.proofs.sheet_number.Goals as goal

pub returns-then-s-i : goal.returns-then-s-i
returns-then-s-i c =
    let a = c.args in
    sym (number_past a.s.now (a.at + 2 + 2 * a.i) 2 (omega arith))

pub overflow_cast-result : goal.overflow_cast-result
overflow_cast-result c =
    let a = c.args in
    omega (arith, number_lt a.s.now (a.at + (2 + 2 * a.i)) 2 c.shared_slice_known-1.given)

pub returns : goal.returns
returns c = c.field_at.ensures ∙ rw add_assoc
