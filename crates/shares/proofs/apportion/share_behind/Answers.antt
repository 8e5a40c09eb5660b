-- `share_behind` meets its contract: the share of more parts is not smaller, and a part's share is at most the part. Assumes nothing.
use borrow.Author.Rules.{rules}
use native.Mathlib.Nat.{le-add_right}
use native.Mathlib.Omega.{arith}
use Rattle.shares.proofs.ApportionLaws.{cumulative-mono, share-le}
use Rattle.shares.proofs.apportion.share_behind.Goals as goal

pub overflow_sub-result : goal.overflow_sub-result
overflow_sub-result c =
    let a = c.args in
    omega (arith, cumulative-mono a.amount a.total (le-add_right a.before a.part))

pub returns : goal.returns
returns c =
    let a = c.args in
    (search rules, omega (arith, share-le a.amount a.total a.before a.part c.requires.2))
