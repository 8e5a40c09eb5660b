-- `price_months::month_steps::paid_of` meets its contract. Assumes nothing.
use Prim.Native.Nat.{◌*◌, ◌^◌}
use native.Mathlib.Numerals.{add-one}
use native.Mathlib.Omega.{arith}
use Rattle.pricing.specs.Rounding.{rounding_of}
use Rattle.price_multipliers.specs.Multipliers.{part_by, paid_by}
use Rattle.price_multipliers.proofs.StepLaws.{part-some}
use Rattle.price_months.proofs.FlagLaws.{flag-set}
use Rattle.price_months.proofs.month_steps.paid_of.Goals as goal

pub returns-then-this-ne0 : goal.returns-then-this-ne0
unfolding rounding_of paid_by
returns-then-this-ne0 g c =
    let up-is = flag-set g.row.UP c.if-this-ne0.true in
    let some = c.requires.1 up-is in
    rw up-is (
      rw (c.upper_half.ensures.0, part-some (2 ^ 64) (2 * c.args.balance) c.args.m.paid (omega (arith, some.0)) some.1, add-one),
      omega (arith, c.upper_half.ensures.1, c.requires.0),
      λ e. omega arith,
    )

pub returns-else-this-ne0 : goal.returns-else-this-ne0
unfolding rounding_of paid_by part_by
returns-else-this-ne0 g c =
    rw c.if-this-ne0.false (c.upper_half-else-this-ne0.ensures.0, omega (arith, c.upper_half-else-this-ne0.ensures.1, c.requires.0), λ e. cc)
