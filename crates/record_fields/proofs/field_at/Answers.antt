-- `field_at` meets its contract: a number that starts past the end is 0.
-- Assumes nothing.
use borrow.Author.Rules.{rules}
use native.Mathlib.Omega.{arith}
use mathlib.Core.Path.{sym}
use Prim.Native.Nat.{◌+◌}
use Rattle.record_fields.proofs.ByteLaws.{number_past}
use Rattle.record_fields.proofs.field_at.Goals as goal

pub returns-then-s-at : goal.returns-then-s-at
returns-then-s-at c =
    let a = c.args in
    sym (number_past a.s.now (a.at + a.skip) a.width (omega arith))

pub returns-then-room-skip : goal.returns-then-room-skip
returns-then-room-skip c =
    let a = c.args in
    sym (number_past a.s.now (a.at + a.skip) a.width (omega arith))

pub number_within-requires : goal.number_within-requires
number_within-requires c = (search rules, omega arith)
