-- Enclosure is kept by the steps that a rounded run is made of. Assumes nothing.
use Prim.Native.Nat.{ℕ, zero, suc, ◌+◌, ◌*◌, ◌≤◌, ◌<◌}
use mathlib.Core.Bool.{Bool, true, false, cond}
use native.Mathlib.Nat.{le_trans, mul-pos, mul-le-mul, mul-le-mul_right, le_of_mul-le-mul_right}
use native.Mathlib.Omega.{arith}
use Rattle.lists.specs.Sums.{sum_where}
use Rattle.fraction.specs.Fraction.{Fraction, whole, scaled, product, plus, Encloses}
use Rattle.fraction.specs.Totals.{total_where}

-- a whole number encloses itself
pub whole-encloses : (n : ℕ) → Encloses n (whole n) n
unfolding whole
whole-encloses n = record { positive = omega arith; below = omega arith; above = omega arith }

-- x × m / d, with the lower end rounded down and the upper end rounded up
pub scaled-encloses : {l u : ℕ} {x : Fraction} (m d lq uq : ℕ) → 0 < d → lq * d ≤ l * m → u * m ≤ uq * d → Encloses l x u
    → Encloses lq (scaled x m d) uq
unfolding scaled
scaled-encloses {l} {u} {x} m d lq uq pos hl hu e =
    record {
      positive = mul-pos e.positive pos;
      below = omega (arith, mul-le-mul_right x.denominator hl, mul-le-mul_right m e.below);
      above = omega (arith, mul-le-mul_right x.denominator hu, mul-le-mul_right m e.above);
    }

-- x × y where y is enclosed on the scale k, with the lower end rounded down and the upper end rounded up. Both sides are taken times k
pub product-encloses : {l u l' u' : ℕ} {x : Fraction} (y : Fraction) (k lq uq : ℕ) → 0 < k → lq * k ≤ l * l' → u * u' ≤ uq * k
    → Encloses l x u → Encloses l' (scaled y k 1) u' → Encloses lq (product x y) uq
unfolding scaled product
product-encloses {l} {u} {l'} {u'} {x} y k lq uq pos hl hu e f =
    let yd : 0 < y.denominator = omega (arith, f.positive) in
    let d : ℕ = x.denominator * y.denominator in
    let below : lq * d * k ≤ x.numerator * y.numerator * k = omega (arith, mul-le-mul_right d hl, mul-le-mul e.below f.below) in
    let above : x.numerator * y.numerator * k ≤ uq * d * k = omega (arith, mul-le-mul_right d hu, mul-le-mul e.above f.above) in
    record {
      positive = mul-pos e.positive yd;
      below = le_of_mul-le-mul_right below pos;
      above = le_of_mul-le-mul_right above pos;
    }

-- the sum
pub plus-encloses : {l u l' u' : ℕ} {x y : Fraction} → Encloses l x u → Encloses l' y u' → Encloses (l + l') (plus x y) (u + u')
unfolding plus
plus-encloses {l} {u} {l'} {u'} {x} {y} e f =
    record {
      positive = mul-pos e.positive f.positive;
      below = omega (arith, mul-le-mul_right y.denominator e.below, mul-le-mul_right x.denominator f.below);
      above = omega (arith, mul-le-mul_right y.denominator e.above, mul-le-mul_right x.denominator f.above);
    }

-- the part that a test takes of an enclosure
pub cond-encloses : {l u : ℕ} {x : Fraction} (b : Bool) → Encloses l x u → Encloses (cond b l 0) (cond b x (whole 0)) (cond b u 0)
cond-encloses true e = e
cond-encloses false e = whole-encloses 0

-- sums over any indices
pub total-encloses : (test : ℕ → Bool) (l u : ℕ → ℕ) (x : ℕ → Fraction) (n : ℕ) → ((i : ℕ) → Encloses (l i) (x i) (u i))
    → Encloses (sum_where test l n) (total_where test x n) (sum_where test u n)
unfolding sum_where total_where
total-encloses test l u x zero h = whole-encloses 0
total-encloses test l u x (suc n) h = plus-encloses (total-encloses test l u x n h) (cond-encloses (test n) (h n))

-- the ends of an enclosure are in order
pub encloses-le : {l u : ℕ} {x : Fraction} → Encloses l x u → l ≤ u
encloses-le {x = x} e = le_of_mul-le-mul_right (le_trans e.below e.above) e.positive
