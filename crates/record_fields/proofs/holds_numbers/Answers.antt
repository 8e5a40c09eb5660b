-- `holds_numbers` meets its contract.
-- Assumes nothing.
use borrow.Author.Tests.{lt-leb}
use native.Mathlib.Omega.{arith}
use mathlib.Core.Path.{sym}
use Prim.Native.Nat.{◌+◌, ◌*◌, ◌-◌, ◌/◌}
use lib.ListN.{length}
use Rattle.lists.proofs.OrderLaws.{leb-iff}
use Rattle.record_fields.proofs.holds_numbers.Goals as goal

pub returns-then-s-lt4 : goal.returns-then-s-lt4
returns-then-s-lt4 c =
    let a = c.args in
    sym (lt-leb (a.at + 4 + 2 * a.n) (length a.s.now) (omega arith))

pub returns-then-room-at : goal.returns-then-room-at
returns-then-room-at c =
    let a = c.args in
    sym (lt-leb (a.at + 4 + 2 * a.n) (length a.s.now) (omega arith))

pub returns : goal.returns
returns c =
    let a = c.args in
    leb-iff a.n ((length a.s.now - 4 - a.at) / 2) (a.at + 4 + 2 * a.n) (length a.s.now) (λ l. omega arith) (λ l. omega arith)
