-- `price_factors::month_factors::upper_factors` meets its contract. Assumes nothing.
use Prim.Native.Nat.{ℕ, suc, ◌≤◌}
use mathlib.Core.Path.{◌∙◌}
use native.Mathlib.Numerals.{add-one}
use lib.ListN.{get_or}
use Rattle.std.proofs.Common.{rules}
use Rattle.std.proofs.iter.Serving.{serving}
use Rattle.lists.proofs.ChainLaws.{table-from_fn}
use Rattle.form.specs.Shift.{scenario_count}
use Rattle.pricing.specs.Scales.{par}
use Rattle.pricing.specs.Rounding.{rounding_of}
use Rattle.price_factors.proofs.month_factors.upper_factors.Goals as goal

pub chained-chain-requires : goal.chained-chain-requires
unfolding rounding_of
chained-chain-requires c = c.requires

pub from_fn-requires : goal.from_fn-requires
unfolding rounding_of
from_fn-requires c =
    let held : ((i : ℕ) → get_or c.chained-chain.result i 0 ≤ par) = λ i. rw c.chained-chain.ensures (c.requires c.args.n i) in
    grind (serving, held)

pub returns : goal.returns
unfolding rounding_of
returns c =
    table-from_fn 0 (λ i. suc (get_or c.chained-chain.result i 0)) scenario_count c.from_fn.ensures.items (λ i y q l k. search (rules, add-one))
    ∙ rw c.chained-chain.ensures
