-- `some_unfit` meets its contract. Assumes nothing.
use native.Mathlib.Omega.{arith}
use mathlib.Core.Path.{refl, ◌∙◌}
use Rattle.std.proofs.Common.{rules}
use Rattle.std.proofs.lemmas.Iterator.{YieldsList-from_range}
use Rattle.std.proofs.lemmas.Iterator.Search.{any_from_yields_List}
use Rattle.lists.proofs.ChainLaws.{any-in_range}
use Rattle.record_limits.specs.TierFaults.{unfit_tier}
use Rattle.record_limits.proofs.tier_faults.some_unfit.Goals as goal

pub returns : goal.returns
returns c =
    let test = unfit_tier c.args.s.now c.args.at in
    any_from_yields_List test _ _ _ c.any.ensures.ran (YieldsList-from_range 0 c.args.n c.args.n refl (omega arith)) (λ i b q k. search rules)
    ∙ any-in_range test c.args.n
