-- `filed_term::filed_balances` meets its contract. The loop's invariant: the balances after t months. Assumes nothing.
use mathlib.Core.Path.{refl, ◌∙◌}
use native.Mathlib.Nat.{le_refl}
use native.Mathlib.Omega.{arith}
use Rattle.pricing.specs.Scales.{par}
use Rattle.pricing.specs.Rounding.{rounding_of}
use Rattle.intangible.specs.Run.{balance_by}
use Rattle.intangible_months.specs.Inner.Lent.{lent_terms}
use Rattle.intangible_cells.proofs.FiledLaws.{coupon-le, growth-le, lower-limit, upper-limit, filed-next, filed-last}
use Rattle.intangible_cells.proofs.filed_term.filed_balances.Goals as goal

pub overflow_mul-growth : goal.overflow_mul-growth
unfolding lent_terms
overflow_mul-growth c = omega (arith, coupon-le _ c.requires.0)

pub overflow_sub-t-end : goal.overflow_sub-t-end
unfolding lent_terms
overflow_sub-t-end c = omega (arith, c.requires.0.months-pos)

pub loop-t-init : goal.loop-t-init
unfolding lent_terms balance_by
loop-t-init c = record { before = c.requires.0.months-pos; lower-is = refl; upper_is = refl }

pub early_survival-survival-requires : goal.early_survival-survival-requires
unfolding lent_terms
early_survival-survival-requires c =
    let p = c.requires in
    (coupon-le _ p.0, c.rate_in-rate.ensures.1, omega (arith, p.0.months-limit), p.3)

pub closing-lower-requires : goal.closing-lower-requires
unfolding lent_terms
closing-lower-requires c =
    let p = c.requires in
    (lower-limit _ p.0 c.loop-t.invariant, growth-le _ p.0, rw c.early_survival-survival.ensures (p.0.survival-limit _ _ _))

pub closing-upper-requires : goal.closing-upper-requires
unfolding lent_terms
closing-upper-requires c =
    let p = c.requires in
    (upper-limit _ p.0 c.loop-t.invariant, growth-le _ p.0, rw c.early_survival-survival.ensures (p.0.survival-limit _ _ _))

pub loop-t-preserved : goal.loop-t-preserved
unfolding lent_terms rounding_of
loop-t-preserved c =
    let p = c.requires in
    filed-next _ p.0 c.loop-t.invariant (omega (arith, c.loop-t-test.true)) (c.early_survival-survival.ensures ∙ rw c.rate_in-rate.ensures.0) c.closing-lower.ensures.0 c.closing-upper.ensures.0

pub closing-requires : goal.closing-requires
unfolding lent_terms
closing-requires c =
    let p = c.requires in
    (lower-limit _ p.0 c.loop-t.invariant, growth-le _ p.0, le_refl par)

pub closing-requires-2 : goal.closing-requires-2
unfolding lent_terms
closing-requires-2 c =
    let p = c.requires in
    (upper-limit _ p.0 c.loop-t.invariant, growth-le _ p.0, le_refl par)

pub returns : goal.returns
unfolding lent_terms rounding_of
returns c =
    let p = c.requires in
    (filed-last _ p.0 c.loop-t.invariant (omega (arith, c.loop-t-test.false)) c.closing.ensures.0 c.closing-2.ensures.0, c.closing.ensures.1, c.closing-2.ensures.1)
