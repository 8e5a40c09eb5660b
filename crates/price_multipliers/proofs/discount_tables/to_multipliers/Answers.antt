-- `price_multipliers::discount_tables::to_multipliers` meets its contract: the entries before i hold multipliers, the others their factors. Assumes nothing.
use mathlib.Core.Path.{refl, ◌∙◌}
use native.Mathlib.Omega.{arith}
use lib.Seq.{get_or-set_other}
use Rattle.lists.proofs.FillLaws.{filled-start, filled_more}
use Rattle.form.specs.Counts.{factor_count}
use Rattle.price_multipliers.proofs.discount_tables.to_multipliers.Goals as goal

pub loop-i-init : goal.loop-i-init
loop-i-init c = (filled-start _ 0 _ (omega arith), λ j h. refl)

pub bounds-list-i : goal.bounds-list-i
bounds-list-i c = omega (arith, c.loop-i.invariant.0.long, c.requires.1)

pub discount_multiplier-requires : goal.discount_multiplier-requires
discount_multiplier-requires c = rw (c.loop-i.invariant.1 c.loop-i.i (omega arith)) (c.requires.0 _)

pub bounds-list-i-in-loop-i : goal.bounds-list-i-in-loop-i
bounds-list-i-in-loop-i c = omega (arith, c.loop-i.invariant.0.long, c.requires.1)

-- factor i becomes its multiplier, and the others stay
pub loop-i-preserved : goal.loop-i-preserved
loop-i-preserved c =
    let i = c.loop-i.i in
    let multiplier = c.discount_multiplier.result in (
      filled_more _ 0 factor_count i c.loop-i.list multiplier (omega (arith, c.requires.1)) (c.discount_multiplier.ensures ∙ rw (c.loop-i.invariant.1 i (omega arith)))
          c.loop-i.invariant.0,
      λ j h. get_or-set_other c.loop-i.list i j multiplier 0 (λ e. omega (arith, e, h)) ∙ c.loop-i.invariant.1 j (omega (arith, h)),
    )

pub returns : goal.returns
returns c = (
  λ i h. c.loop-i.invariant.0.holds i (omega arith),
  λ i h. c.loop-i.invariant.1 i (omega arith),
)
