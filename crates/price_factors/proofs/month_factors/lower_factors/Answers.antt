-- `price_factors::month_factors::lower_factors` meets its contract: the chains have the factors. Assumes nothing.
use lib.ListN.{get_or}
use mathlib.Core.Path.{◌∙◌}
use Rattle.std.proofs.Common.{rules}
use Rattle.lists.proofs.ChainLaws.{table-from_fn}
use Rattle.form.specs.Shift.{scenario_count}
use Rattle.pricing.specs.Rounding.{down, rounding_of}
use Rattle.pricing.specs.Inner.Multipliers.{factor_by}
use Rattle.pricing.proofs.MultiplierLaws.{chained-at-most, chained-is}
use Rattle.price_factors.proofs.month_factors.lower_factors.Goals as goal

pub chained-chain-requires : goal.chained-chain-requires
unfolding rounding_of
chained-chain-requires c =
    rw c.lower_multipliers-below.ensures (chained-at-most down c.args.rates.now c.requires.0)

pub returns : goal.returns
unfolding rounding_of
returns c =
    table-from_fn 0 (λ i. factor_by down (get_or c.args.rates.now i 0) (get_or c.chained-chain.result i 0)) scenario_count c.from_fn.ensures.items
    (λ i y q l k. search rules)
    ∙ rw (c.chained-chain.ensures, c.lower_multipliers-below.ensures) (chained-is down c.args.rates.now c.requires.0 c.args.n)
