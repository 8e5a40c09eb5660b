-- `withdrawal_tiers::with_survivals` meets its contract. The loop's invariant: the entries below `i` hold the survivals of their withdrawals, the
use mathlib.Core.Path.{◌≡◌}
use native.Mathlib.Omega.{arith}
use borrow.Author.Rules.{rules}
use Rattle.withdrawal.specs.Inner.TierArrays.{with_survivals}
use Rattle.withdrawal.proofs.HeldLaws.{stored-none, stored_more, stored-all}
use Rattle.withdrawal_tiers.proofs.with_survivals.Goals as goal

pub loop-i-init : goal.loop-i-init
loop-i-init c = stored-none _

pub survival-requires : goal.survival-requires
survival-requires c =
    let at = c in
    (at.all_survivals-figures.ensures, at.requires.withdrawal-le at.loop-i.i)

pub loop-i-preserved : goal.loop-i-preserved
loop-i-preserved c = stored_more _ _ _ _ (search rules) c.survival.ensures c.loop-i.invariant

pub survival-requires-2 : goal.survival-requires-2
survival-requires-2 c =
    let figures = c in
    (figures.all_survivals-figures.ensures, figures.requires.otherwise-le)

pub returns : goal.returns
unfolding with_survivals
returns c =
    let at = c in
    let e : at.loop-i.i ≡ at.args.count = omega arith in
    rw (stored-all _ _ _ at.loop-i.invariant, c.survival-2.ensures, e)
