-- `price_factors::rate_multipliers::lower_multipliers` meets its contract. Assumes nothing.
use Prim.Native.Nat.{ℕ, ◌<◌}
use mathlib.Core.Path.{◌≡◌}
use lib.ListN.{get_or}
use Rattle.std.proofs.iter.Serving.{serving}
use Rattle.lists.proofs.TableLaws.{table-get_or}
use Rattle.std.proofs.Common.{rules}
use Rattle.lists.proofs.ChainLaws.{table-from_fn}
use Rattle.form.specs.Shift.{scenario_count}
use Rattle.pricing.specs.Rounding.{down, up}
use Rattle.pricing.specs.Inner.Multipliers.{multiplier_by, multipliers_by}
use Rattle.price_factors.proofs.rate_multipliers.lower_multipliers.Goals as goal

pub from_fn-requires : goal.from_fn-requires
unfolding multipliers_by
from_fn-requires c =
    let a = c.args in
    let above : ((i : ℕ) → i < scenario_count → get_or a.above.now i 0 ≡ multiplier_by up (get_or a.rates.now i 0)) =
    λ i h. rw c.requires.1 (table-get_or scenario_count (λ (j : ℕ). multiplier_by up (get_or a.rates.now j 0)) i 0 h) in
    grind (serving, above, c.requires.0)

pub returns : goal.returns
unfolding multipliers_by
returns c = table-from_fn 0 (λ i. multiplier_by down (get_or c.args.rates.now i 0)) scenario_count c.from_fn.ensures.items (λ i y q l k. search rules)
