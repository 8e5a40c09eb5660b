-- The tests of a gain in whole numbers, with the negative part moved to the other side. Assumes nothing.
use Prim.Native.Nat.{ℕ, zero, suc, ◌+◌, ◌*◌, ◌-◌, ◌≤◌, ◌<◌}
use mathlib.Core.Path.{◌≡◌, refl, sym, ap, ◌∙◌}
use mathlib.Core.Bool.{Bool, true, false}
use native.Mathlib.Nat.{mul-le-mul_left, mul-lt-mul_of_pos_left, mul-sub, one-mul, mul-pos, not-suc-le-zero, zero-lt-suc, suc-add}
use native.Mathlib.Omega.{arith}
use lib.Dec.{leb, ltb}
use lib.IntN.{pos, negsuc, neg_ℤ, one, ◌-ℤ◌, ◌*ℤ◌, *ℤ_comm, *ℤ-one}
use borrow.Author.Tests.{ltb-true, ltb-false, lt-leb, le-ltb, lt-ltb}
use Rattle.lists.proofs.OrderLaws.{leb-iff}
use Rattle.withdrawal.specs.declared.Incentive.{Incentive}
use Rattle.withdrawal.specs.Gain.{at_most}
use Rattle.withdrawal.specs.Tiers.{reached}
use Rattle.withdrawal.specs.Inner.Incentives.{gain_of}

-- a difference of whole numbers that is not negative
pub difference-pos : (a b : ℕ) → b ≤ a → pos a -ℤ pos b ≡ pos (a - b)
difference-pos a zero h = ap pos (omega arith)
difference-pos a (suc b) h = rw (le-ltb a (suc b) h)

-- a difference that is negative
difference-neg : (a b : ℕ) → a < b → pos a -ℤ pos b ≡ negsuc (b - suc a)
difference-neg a zero h = absurd (not-suc-le-zero h)
difference-neg a (suc b) h = rw (lt-ltb a (suc b) h)

-- no whole number is at most a negative one
at-most-negative : (m n : ℕ) → 0 < n → at_most m (neg_ℤ (pos n)) ≡ false
unfolding at_most
at-most-negative m zero h = absurd (not-suc-le-zero h)
at-most-negative m (suc n) h = refl

-- m ≤ s × (a - b) exactly where m + s × b ≤ s × a: below b the difference is negative, which m is not below, and s × a < s × b; else
-- s × (a - b) = s × a - s × b
at-most-scaled : (m s a b : ℕ) → 0 < s → at_most m (pos s *ℤ (pos a -ℤ pos b)) ≡ leb (m + s * b) (s * a)
unfolding at_most
at-most-scaled m s a b h = by (ltb a b) refl
  where
    by : (t : Bool) → ltb a b ≡ t → at_most m (pos s *ℤ (pos a -ℤ pos b)) ≡ leb (m + s * b) (s * a)
    by true e =
        let l : a < b = ltb-true a b e in
        rw (difference-neg a b l)
        (at-most-negative m (s * suc (b - suc a)) (mul-pos h (zero-lt-suc _))
        ∙ sym (lt-leb (m + s * b) (s * a) (omega (arith, mul-lt-mul_of_pos_left l h))))
    by false e =
        let l : b ≤ a = ltb-false a b e in
        rw (difference-pos a b l)
        (leb-iff m (s * (a - b)) (m + s * b) (s * a)
        (λ u. omega (arith, mul-sub s a b, mul-le-mul_left s l)) (λ u. omega (arith, mul-sub s a b, mul-le-mul_left s l)))

-- m ≤ a - b exactly where m + b ≤ a
at-most-difference : (m a b : ℕ) → at_most m (pos a -ℤ pos b) ≡ leb (m + b) a
unfolding one
at-most-difference m a b =
    ap (at_most m) (sym (*ℤ_comm (pos 1) (pos a -ℤ pos b) ∙ *ℤ-one (pos a -ℤ pos b)))
    ∙ rw (at-most-scaled m 1 a b (zero-lt-suc 0), one-mul b, one-mul a)

-- an edge is reached exactly where edge × cost + 100 × forfeited ≤ 100 × earned
pub reached-iff : (x : Incentive) (edge : ℕ) → reached (gain_of x) x.cost edge ≡ leb (edge * x.cost + 100 * x.forfeited) (100 * x.earned)
unfolding reached gain_of
reached-iff x edge = at-most-scaled (edge * x.cost) 100 x.earned x.forfeited (zero-lt-suc 99)

-- the gain is above the cost exactly where cost + forfeited < earned
pub gain-above-cost-iff : (x : Incentive) → at_most (suc x.cost) (gain_of x) ≡ ltb (x.cost + x.forfeited) x.earned
unfolding gain_of
gain-above-cost-iff x =
    at-most-difference (suc x.cost) x.earned x.forfeited
    ∙ ap (λ (m : ℕ). leb m x.earned) (suc-add x.cost x.forfeited)
