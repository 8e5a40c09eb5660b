-- `price_factors::rate_multipliers::upper_multipliers` meets its contract. Assumes nothing.
use lib.ListN.{get_or}
use Rattle.std.proofs.Common.{rules}
use Rattle.lists.proofs.ChainLaws.{table-from_fn}
use Rattle.form.specs.Shift.{scenario_count}
use Rattle.pricing.specs.Rounding.{up}
use Rattle.pricing.specs.Inner.Multipliers.{multiplier_by, multipliers_by}
use Rattle.price_factors.proofs.rate_multipliers.upper_multipliers.Goals as goal

pub returns : goal.returns
unfolding multipliers_by
returns c = table-from_fn 0 (λ i. multiplier_by up (get_or c.args.rates.now i 0)) scenario_count c.from_fn.ensures.items (λ i y q l k. search rules)
