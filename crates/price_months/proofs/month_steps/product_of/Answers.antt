-- `price_months::month_steps::product_of` meets its contract. Assumes nothing.
use mathlib.Core.Path.{◌≡◌}
use mathlib.Core.Bool.{true, false}
use native.Mathlib.Omega.{arith}
use Rattle.pricing.specs.Rounding.{rounding_of}
use Rattle.price_multipliers.specs.Multipliers.{part_by, stands_for, product_by}
use Rattle.price_multipliers.proofs.StepLaws.{product-some}
use Rattle.price_months.proofs.FlagLaws.{flag-set}
use Rattle.price_months.proofs.month_steps.product_of.Goals as goal

pub returns-then-this-ne0 : goal.returns-then-this-ne0
unfolding rounding_of
returns-then-this-ne0 g c =
    let up-is = flag-set g.row.UP c.if-this-ne0.true in
    rw up-is (rw c.upper_half.ensures.0 (product-some _ _ (c.requires.1 up-is)), omega (arith, c.upper_half.ensures.1, c.requires.0), λ e. let z : true ≡ false = e in absurd (cc))

pub returns-else-this-ne0 : goal.returns-else-this-ne0
unfolding rounding_of product_by part_by stands_for
returns-else-this-ne0 g c =
    rw c.if-this-ne0.false (
      c.upper_half-else-this-ne0.ensures.0,
      omega (arith, c.upper_half-else-this-ne0.ensures.1, c.requires.0),
      λ e. omega (arith, c.upper_half-else-this-ne0.ensures.1, c.requires.0),
    )
