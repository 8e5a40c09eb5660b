-- `price_multipliers::par_multiplier` meets its contract. Assumes nothing.
use Prim.Native.Nat.{ℕ, ◌+◌, ◌*◌, ◌-◌, ◌/◌, ◌^◌, ◌≤◌}
use mathlib.Core.Path.{◌≡◌, ◌∙◌}
use native.Mathlib.Omega.{arith}
use lib.Dec.{lit<, lit≤}
use Rattle.pricing.specs.Scales.{par, servicing_limit}
use Rattle.pricing.specs.Rounding.{quotient}
use Rattle.pricing.proofs.MultiplierLaws.{floor-near}
use Rattle.price_multipliers.specs.Multipliers.{par_multiplier}
use Rattle.price_multipliers.proofs.par_multiplier.Goals as goal

-- what n × 2^63 / 10^9 lacks to 9,223,372,037 n
over : (n : ℕ) → n ≤ par + servicing_limit → n * 2678913503135258077 / 2 ^ 64 ≡ n * 283641 / 1953125
unfolding quotient
over n h = floor-near n 283641 1953125 (2 ^ 64) 2678913503135258077 (lit< tt) (lit< tt) (lit≤ tt) (omega arith)

lacking : (n : ℕ) → par_multiplier n + n * 283641 / 1953125 ≡ 9223372037 * n
unfolding quotient
lacking n = omega arith

-- so what is left of them is the multiplier
left : (m p u w : ℕ) → u ≡ p → m + p ≡ w → w - u ≡ m
left m p u w e f = omega arith

pub overflow_sub-result : goal.overflow_sub-result
overflow_sub-result c = omega (arith, c.upper_half.ensures.1)

pub returns : goal.returns
returns c =
    let n = c.args.n in
    left (par_multiplier n) (n * 283641 / 1953125) _ (9223372037 * n) (c.upper_half.ensures.0 ∙ over n c.requires) (lacking n)
