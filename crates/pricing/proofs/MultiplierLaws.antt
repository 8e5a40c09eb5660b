-- A division by an unchanging number is a multiplication and a division by a power of 2. Assumes nothing.
use Prim.Native.Nat.{ℕ, zero, suc, ◌+◌, ◌*◌, ◌-◌, ◌/◌, ◌^◌, ◌≤◌, ◌<◌}
use mathlib.Core.Path.{◌≡◌, refl, sym}
use mathlib.Core.List.{List}
use lib.Dec.{lit<, lit≤}
use lib.ListN.{get_or, replicate}
use native.Mathlib.Nat.{le_refl, le_antisymm, mul-zero, mul_assoc, mul-le-mul, mul-le-mul_left, mul-le-mul_right, mul-lt-mul_of_pos_left, mul-lt-mul_of_pos_right, lt_of_mul-lt-mul_right, le_of_suc-le-suc, div-mul-le_self, lt-div-mul-add, mul-div-mul_left}
use native.Mathlib.Omega.{arith}
use Rattle.lists.specs.Tables.{table, table_from}
use Rattle.lists.proofs.TableLaws.{table-get_or, table-ext, table-le}
use Rattle.form.specs.Shift.{shifted_limit, scenario_count}
use Rattle.pricing.specs.Scales.{par, rate_scale}
use Rattle.pricing.specs.Rounding.{Rounding, down, up, quotient}
use Rattle.pricing.specs.Run.{discount_by}
use Rattle.pricing.specs.Inner.Multipliers.{multiplier_scale, multiplier_by, multipliers_by, next_by, next_all_by, first_by, chain_by, chained_by, factor_by, discounts_by, AtMost}
use Rattle.pricing.proofs.RoundingLaws.{ceiling-ge, ceiling-lt}
use Rattle.pricing.proofs.FlowWidthLaws.{discount-limit}

-- x a / w by a multiplier m in units of 1 / s
module _ (x a w s m : ℕ) (pos : 0 < w) (some : 0 < s) where
  below : (p q : ℕ) → p * (s * w) < suc q * (s * w) → p ≤ q
  below p q h = le_of_suc-le-suc (lt_of_mul-lt-mul_right (s * w) h)

  -- m is not too low, and too high by less than x brings out. With q and p the two quotients: p w s ≤ x a s ≤ x m w < (q + 1) s w and
  -- q s w ≤ x m w < x a s + s ≤ (p + 1) w s
  pub floor-near : a * s ≤ m * w → x * (m * w) < x * (a * s) + s → x * m / s ≡ quotient down (x * a) w
  unfolding quotient
  floor-near low high =
      le_antisymm
      (below (x * m / s) (x * a / w) (omega (arith, mul-le-mul_right w (div-mul-le_self (x * m) s), mul-le-mul_right s (lt-div-mul-add {a = x * a} pos))))
      (below (x * a / w) (x * m / s)
      (omega (arith, mul-le-mul_right s (div-mul-le_self (x * a) w), mul-le-mul_left x low, mul-lt-mul_of_pos_right (lt-div-mul-add {a = x * m} some) pos)))

  -- m is too low, but by no more than x brings out. With q and p the floor and the ceiling: q s w ≤ x m w < x a s ≤ p w s and
  -- p w s + s ≤ x a s + w s ≤ x m w + s + w s < (q + 2) s w + s
  pub ceiling-near : 0 < x → m * w < a * s → x * (a * s) ≤ x * (m * w) + s → suc (x * m / s) ≡ quotient up (x * a) w
  ceiling-near more low high =
      le_antisymm
      (lt_of_mul-lt-mul_right (s * w)
      (omega (arith, mul-le-mul_right w (div-mul-le_self (x * m) s), mul-lt-mul_of_pos_left low more, mul-le-mul_right s (ceiling-ge (x * a) w pos))))
      (below (quotient up (x * a) w) (suc (x * m / s))
      (omega (arith, mul-le-mul_right s (ceiling-lt (x * a) w pos), mul-lt-mul_of_pos_right (lt-div-mul-add {a = x * m} some) pos)))

-- one discount factor more, by the rate's multiplier
module _ (x z : ℕ) (hx : x ≤ par) (hz : z ≤ shifted_limit) where
  abbrev part : ℕ
  part = (2 ^ 64 - 1) / (rate_scale + z)

  -- w (2^64 - 1) / w is below 2^64, and less than w below it
  part-le : part * (rate_scale + z) ≤ 2 ^ 64 - 1
  part-le = div-mul-le_self (2 ^ 64 - 1) (rate_scale + z)

  part-gt : 2 ^ 64 - 1 < part * (rate_scale + z) + (rate_scale + z)
  part-gt = lt-div-mul-add {a = 2 ^ 64 - 1} {b = rate_scale + z} (omega arith)

  -- what the largest factor brings out
  brought-le : x * (rate_scale + z) ≤ par * (rate_scale + shifted_limit)
  brought-le = let h : rate_scale + z ≤ rate_scale + shifted_limit = omega arith in mul-le-mul hx h

  lower-scaled : x * (rate_scale * suc part) / multiplier_scale ≡ quotient down (x * rate_scale) (rate_scale + z)
  lower-scaled =
      floor-near x rate_scale (rate_scale + z) multiplier_scale (rate_scale * suc part) (omega arith) (omega arith) (omega (arith, part-gt))
      (omega (arith, mul-le-mul_left x part-le, brought-le))

  upper-scaled : 0 < x → suc (x * (rate_scale * part) / multiplier_scale) ≡ quotient up (x * rate_scale) (rate_scale + z)
  upper-scaled more =
      ceiling-near x rate_scale (rate_scale + z) multiplier_scale (rate_scale * part) (omega arith) (omega arith) more (omega (arith, part-le))
      (omega (arith, mul-le-mul_left x part-gt, brought-le))

-- an upper factor is never 0: the first is par, and each later one times its divisor is at least the one before times 120,000
pub discount-pos : (z n : ℕ) → 0 < discount_by up z n
unfolding discount_by
discount-pos z zero = lit< tt
discount-pos z (suc n) =
    let ge = ceiling-ge (discount_by up z n * rate_scale) (rate_scale + z) (omega arith) in
    let before = discount-pos z n in
    pos-of-mul (quotient up (discount_by up z n * rate_scale) (rate_scale + z)) (rate_scale + z) (omega arith)
  where
    pos-of-mul : (q w : ℕ) → 0 < q * w → 0 < q
    pos-of-mul zero w h = absurd (omega arith)
    pos-of-mul (suc q) w h = omega arith

-- a chain by the multiplier of a rate has its factors; a rate of 0 leaves a lower factor at par
lower-chain : (z n : ℕ) → suc z ≤ shifted_limit → chain_by down (multiplier_by down (suc z)) n ≡ discount_by down (suc z) n
unfolding chain_by first_by next_by multiplier_by discount_by
lower-chain z zero h = refl
lower-chain z (suc n) h = rw (lower-chain z n h) (lower-scaled (discount_by down (suc z) n) (suc z) (discount-limit (suc z) n down) h)

upper-chain : (z n : ℕ) → z ≤ shifted_limit → suc (chain_by up (multiplier_by up z) n) ≡ discount_by up z n
unfolding chain_by first_by next_by multiplier_by discount_by
upper-chain z zero h = refl
upper-chain z (suc n) h = rw (upper-chain z n h) (upper-scaled (discount_by up z n) z (discount-limit z n up) h (discount-pos z n))

at-par : (n : ℕ) → discount_by down 0 n ≡ par
unfolding discount_by quotient
at-par zero = refl
at-par (suc n) = rw (at-par n)

factor-is : (ρ : Rounding) (z n : ℕ) → z ≤ shifted_limit → factor_by ρ z (chain_by ρ (multiplier_by ρ z) n) ≡ discount_by ρ z n
unfolding factor_by
factor-is down zero n h = sym (at-par n)
factor-is down (suc z) n h = lower-chain z n h
factor-is up z n h = upper-chain z n h

-- no chain is above par
no-chain : (n : ℕ) → chain_by down 0 n ≤ par
unfolding chain_by first_by next_by
no-chain zero = le_refl par
no-chain (suc n) = rw (mul-zero (chain_by down 0 n)) (lit≤ tt)

chain-le : (ρ : Rounding) (z n : ℕ) → z ≤ shifted_limit → chain_by ρ (multiplier_by ρ z) n ≤ par
unfolding multiplier_by
chain-le down zero n h = no-chain n
chain-le down (suc z) n h = rw (lower-chain z n h) (discount-limit (suc z) n down)
chain-le up z n h = omega (arith, upper-chain z n h, discount-limit z n up)

-- 2 x m / 2^64 is x m / 2^63
pub halved : (x m : ℕ) → 2 * x * m / 2 ^ 64 ≡ x * m / 2 ^ 63
halved x m = rw (mul_assoc 2 x m) (mul-div-mul_left (x * m) (2 ^ 63) (lit< tt))

-- seven rates
pub chained-at-most : (ρ : Rounding) (rates : List ℕ) → AtMost shifted_limit rates → (n : ℕ) → AtMost par (chained_by ρ (multipliers_by ρ rates) n)
unfolding chained_by multipliers_by
chained-at-most ρ rates h n =
    table-le 0 scenario_count _ par
    (λ j l u. rw (table-get_or scenario_count (λ (i : ℕ). multiplier_by ρ (get_or rates i 0)) j 0 (omega arith)) (chain-le ρ (get_or rates j 0) n (h j)))

pub chained-zero : (ρ : Rounding) (ms : List ℕ) → replicate scenario_count (first_by ρ) ≡ chained_by ρ ms 0
unfolding chained_by chain_by table_from
chained-zero ρ ms = refl

-- one factor more in each of them
pub chained-suc : (ρ : Rounding) (ms : List ℕ) (n : ℕ) → next_all_by ρ (chained_by ρ ms n) ms ≡ chained_by ρ ms (suc n)
unfolding next_all_by chained_by chain_by
chained-suc ρ ms n =
    table-ext scenario_count _ _ (λ i l. rw (table-get_or scenario_count (λ (j : ℕ). chain_by ρ (get_or ms j 0) n) i 0 l))

-- the factors that seven chains have
pub chained-is : (ρ : Rounding) (rates : List ℕ) → AtMost shifted_limit rates → (n : ℕ)
    → table scenario_count (λ (i : ℕ). factor_by ρ (get_or rates i 0) (get_or (chained_by ρ (multipliers_by ρ rates) n) i 0)) ≡ discounts_by ρ rates n
unfolding chained_by multipliers_by discounts_by
chained-is ρ rates h n =
    table-ext scenario_count _ _
    (λ i l. rw (
      table-get_or scenario_count (λ (j : ℕ). chain_by ρ (get_or (multipliers_by ρ rates) j 0) n) i 0 l,
      table-get_or scenario_count (λ (j : ℕ). multiplier_by ρ (get_or rates j 0)) i 0 l,
    )
    (factor-is ρ (get_or rates i 0) n (h i)))

pub upper-chained : (rates : List ℕ) → AtMost shifted_limit rates → (n : ℕ)
    → table scenario_count (λ (i : ℕ). suc (get_or (chained_by up (multipliers_by up rates) n) i 0)) ≡ discounts_by up rates n
unfolding factor_by
upper-chained = chained-is up

-- the multiplier of a lower factor from that of the upper one: 120,000 more, which is below 2^64. With p the quotient 120,000 p + p ≤ (120,000 + z) p < 2^64,
-- and p is above 120,000
pub one-part-more : (z : ℕ) → multiplier_by up (suc z) + rate_scale ≡ multiplier_by down (suc z)
unfolding multiplier_by
one-part-more z = omega arith

pub lower-fits : (z : ℕ) → suc z ≤ shifted_limit → multiplier_by up (suc z) + rate_scale < 2 ^ 64
unfolding multiplier_by
lower-fits z h =
    let p = (2 ^ 64 - 1) / (rate_scale + suc z) in
    let least : 1 ≤ suc z = omega arith in
    let most : rate_scale + suc z ≤ rate_scale + shifted_limit = omega arith in
    omega (arith, part-le 0 (suc z) (lit≤ tt) h, part-gt 0 (suc z) (lit≤ tt) h, mul-le-mul_left p least, mul-le-mul_left p most)
