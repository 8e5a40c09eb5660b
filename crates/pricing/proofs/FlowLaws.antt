-- Discounted sums of any flows, and the worth of a balance at a price: lower ≤ exact ≤ upper, by induction over the months. Assumes nothing.
use Prim.Native.Nat.{ℕ, zero, suc, ◌+◌, ◌*◌, ◌<◌}
use lib.Dec.{lit<}
use native.Mathlib.Omega.{arith}
use Rattle.fraction.specs.Fraction.{Fraction, whole, scaled, product, Encloses}
use Rattle.fraction.proofs.EnclosureLaws.{whole-encloses, scaled-encloses, product-encloses, plus-encloses}
use Rattle.pricing.specs.Scales.{par, rate_scale, value_scale}
use Rattle.pricing.specs.Exact.{exact_discount, exact_discount_factor, exact_discounted, exact_worth}
use Rattle.pricing.specs.Rounding.{down, up, quotient}
use Rattle.pricing.specs.Run.{discount_by, discount_factor_by, discounted_sum, worth_by}
use Rattle.pricing.proofs.RoundingLaws.{floor-le, ceiling-ge}

-- x × m / d, floor below and ceiling above
pub rounded-encloses : {l u : ℕ} {x : Fraction} (m d : ℕ) → 0 < d → Encloses l x u
    → Encloses (quotient down (l * m) d) (scaled x m d) (quotient up (u * m) d)
rounded-encloses {l} {u} m d pos e =
    scaled-encloses m d (quotient down (l * m) d) (quotient up (u * m) d) pos (floor-le (l * m) d) (ceiling-ge (u * m) d pos) e

-- a discount factor is enclosed on the scale of par. The scale may be applied before or after a factor
scale-first : {l u : ℕ} (x : Fraction) (m d s : ℕ) → Encloses l (scaled (scaled x s 1) m d) u → Encloses l (scaled (scaled x m d) s 1) u
unfolding scaled
scale-first x m d s e = record { positive = omega (arith, e.positive); below = omega (arith, e.below); above = omega (arith, e.above) }

unit-encloses : (s : ℕ) → Encloses s (scaled (whole 1) s 1) s
unfolding scaled whole
unit-encloses s = record { positive = omega arith; below = omega arith; above = omega arith }

discount-encloses : (z n : ℕ) → Encloses (discount_by down z n) (scaled (exact_discount z n) par 1) (discount_by up z n)
unfolding discount_by exact_discount
discount-encloses z zero = unit-encloses par
discount-encloses z (suc n) =
    scale-first (exact_discount z n) rate_scale (rate_scale + z) par
    (rounded-encloses rate_scale (rate_scale + z) (omega arith) (discount-encloses z n))

-- an enclosed flow times the discount factor of n factors at a yield
pub product-month : {l u : ℕ} {x : Fraction} (z n : ℕ) → Encloses l x u
    → Encloses (quotient down (l * discount_by down z n) par) (product x (exact_discount z n)) (quotient up (u * discount_by up z n) par)
product-month {l} {u} z n e =
    product-encloses (exact_discount z n) par (quotient down lower par) (quotient up upper par) (lit< tt) (floor-le lower par) (ceiling-ge upper par (lit< tt)) e
    (discount-encloses z n)
  where
    lower : ℕ
    lower = l * discount_by down z n

    upper : ℕ
    upper = u * discount_by up z n

-- flows that are enclosed month by month, discounted by any yields, for any number of months: the sum so far is enclosed, and the month adds
-- flow × factor, both enclosed, rounded down below and up above
pub discounted-encloses : (f g : ℕ → ℕ) (x : ℕ → Fraction) (z : ℕ → ℕ) (t : ℕ) → ((i : ℕ) → Encloses (f i) (x i) (g i))
    → Encloses (discounted_sum down f (discount_factor_by down z) t) (exact_discounted x z t) (discounted_sum up g (discount_factor_by up z) t)
unfolding discounted_sum exact_discounted discount_factor_by exact_discount_factor
discounted-encloses f g x z zero h = whole-encloses 0
discounted-encloses f g x z (suc t) h = plus-encloses (discounted-encloses f g x z t h) (product-month (z (suc t)) (suc t) (h t))

-- the worth of a balance at an enclosed price
pub worth-encloses : (balance : ℕ) {l u : ℕ} {x : Fraction} → Encloses l x u → Encloses (worth_by down balance l) (exact_worth balance x) (worth_by up balance u)
unfolding worth_by exact_worth
worth-encloses balance {l} {u} e =
    scaled-encloses balance value_scale (quotient down (balance * l) value_scale) (quotient up (balance * u) value_scale) (lit< tt)
    (omega (arith, floor-le (balance * l) value_scale)) (omega (arith, ceiling-ge (balance * u) value_scale (lit< tt))) e
