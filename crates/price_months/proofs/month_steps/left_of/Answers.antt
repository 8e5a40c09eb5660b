-- `price_months::month_steps::left_of` meets its contract. Assumes nothing.
use Prim.Native.Nat.{◌≤◌, ◌^◌}
use native.Mathlib.Omega.{arith}
use Rattle.pricing.specs.Rounding.{rounding_of}
use Rattle.price_multipliers.specs.Multipliers.{part_by, left_by}
use Rattle.price_multipliers.proofs.StepLaws.{part-carried, carried-le, carried-le-one}
use Rattle.price_months.proofs.FlagLaws.{flag-set}
use Rattle.price_months.proofs.month_steps.left_of.Goals as goal

pub overflow_sub-m : goal.overflow_sub-m
overflow_sub-m g c = rw (c.requires.1 (flag-set g.row.UP c.if-this-ne0.true)).1 (carried-le _)

pub overflow_add-result-then-this-ne0 : goal.overflow_add-result-then-this-ne0
overflow_add-result-then-this-ne0 g c =
    let carried-one : c.args.m.carried ≤ 1 = rw (c.requires.1 (flag-set g.row.UP c.if-this-ne0.true)).1 (carried-le-one _) in
    omega (arith, c.kept_of-kept.ensures.1, c.upper_half.ensures.1, carried-one, c.requires.0)

pub returns-then-this-ne0 : goal.returns-then-this-ne0
unfolding rounding_of left_by
returns-then-this-ne0 g c =
    let up-is = flag-set g.row.UP c.if-this-ne0.true in
    let some = c.requires.1 up-is in
    let carried-one : c.args.m.carried ≤ 1 = rw some.1 (carried-le-one _) in
    rw up-is (
      rw (c.upper_half.ensures.0, c.kept_of-kept.ensures.0, some.1, part-carried (2 ^ 64) c.args.balance c.args.m.left some.0),
      omega (arith, c.kept_of-kept.ensures.1, c.upper_half.ensures.1, carried-one, c.requires.0),
    )

pub returns-else-this-ne0 : goal.returns-else-this-ne0
unfolding rounding_of left_by part_by
returns-else-this-ne0 g c =
    rw c.if-this-ne0.false (
      rw (c.upper_half-else-this-ne0.ensures.0, c.kept_of-kept.ensures.0),
      omega (arith, c.upper_half-else-this-ne0.ensures.1, c.kept_of-kept.ensures.1, c.requires.0),
    )
