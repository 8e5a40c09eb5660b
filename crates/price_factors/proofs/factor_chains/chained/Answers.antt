-- `price_factors::factor_chains::chained` meets its contract: after i turns each chain has i factors. Assumes nothing.
use mathlib.Core.Path.{◌≡◌}
use native.Mathlib.Numerals.{add-one}
use native.Mathlib.Omega.{arith}
use Rattle.pricing.proofs.MultiplierLaws.{chained-zero, chained-suc}
use Rattle.price_factors.proofs.factor_chains.chained.Goals as goal

pub loop-init : goal.loop-init
loop-init c = (omega arith, rw c.first_held-first.ensures (chained-zero _ _))

pub next_in_chain-chain-requires : goal.next_in_chain-chain-requires
next_in_chain-chain-requires c =
    rw c.loop.invariant.1 (c.requires _)

pub loop-preserved : goal.loop-preserved
loop-preserved c =
    (omega arith, rw (c.next_in_chain-chain.ensures, c.loop.invariant.1, add-one) (chained-suc _ _ _))

pub returns : goal.returns
returns c =
    let e : c.loop.counter ≡ c.args.n = omega arith in
    rw (c.loop.invariant.1, e)
