-- `price_factors::factor_chains::next_in_chain` meets its contract. Assumes nothing.
use lib.ListN.{get_or}
use Rattle.std.proofs.Common.{rules}
use Rattle.lists.proofs.ChainLaws.{table-from_fn}
use Rattle.form.specs.Shift.{scenario_count}
use Rattle.pricing.specs.Rounding.{rounding_of}
use Rattle.pricing.specs.Inner.Multipliers.{next_by, next_all_by}
use Rattle.price_factors.proofs.factor_chains.next_in_chain.Goals as goal

pub returns : goal.returns
unfolding next_all_by
returns c =
    let a = c.args in
    table-from_fn 0 (λ i. next_by (rounding_of a.up) (get_or a.chain.now i 0) (get_or a.multipliers.now i 0)) scenario_count c.from_fn.ensures.items
    (λ i y q l k. search rules)
