-- `withdrawal_filing::from_the_top` meets its contract. The loop's invariant: the first i entries hold the last i numbers, turned round. Assumes
-- nothing.
use Prim.Native.Nat.{◌-◌}
use mathlib.Core.Path.{◌≡◌}
use native.Mathlib.Omega.{arith}
use lib.ListN.{replicate}
use Rattle.lists.proofs.TestLaws.{entries-le, stored-le}
use Rattle.form.specs.Limits.{tier_limit, edge_limit}
use Rattle.withdrawal.proofs.HeldLaws.{stored-none, stored_more, stored-all}
use Rattle.withdrawal_filing.proofs.from_the_top.Goals as goal

pub loop-i-init : goal.loop-i-init
loop-i-init c = (stored-none _, entries-le (replicate tier_limit 0) edge_limit tt)

pub loop-i-preserved : goal.loop-i-preserved
loop-i-preserved c =
    let state = c.loop-i in
    let fits = c.fits-numbers (c.args.count - 1 - state.i) in (
      stored_more _ _ _ _ (omega arith) c.from.ensures state.invariant.0,
      stored-le state.turned state.i c.from.result edge_limit state.invariant.1 (omega (arith, c.from.ensures, fits)),
    )

pub returns : goal.returns
returns c =
    let e : c.loop-i.i ≡ c.args.count = omega arith in
    (stored-all _ _ _ (rw e at c.loop-i.invariant.0), c.loop-i.invariant.1)
