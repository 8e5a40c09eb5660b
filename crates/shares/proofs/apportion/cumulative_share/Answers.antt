-- `cumulative_share` meets its contract: the product of two numbers of at most 3,999,999,996 fits 64 bits, and a quotient by 0 is 0.
-- Assumes nothing.
use borrow.Author.Rules.{rules}
use Prim.Native.Nat.{◌*◌}
use native.Mathlib.Nat.{div-zero}
use Rattle.shares.specs.Apportion.{cumulative_share}
use Rattle.shares.proofs.apportion.cumulative_share.Goals as goal

pub returns-then-total-eq0 : goal.returns-then-total-eq0
unfolding cumulative_share
returns-then-total-eq0 c = cc (div-zero (c.args.amount * c.args.running), c.if-total-eq0.true)

pub returns : goal.returns
unfolding cumulative_share
returns c = search rules
