-- Differences of whole numbers in order, and the enclosure of a difference of two fractions. Assumes nothing.
use Prim.Native.Nat.{ℕ, zero, suc, ◌+◌, ◌*◌, ◌-◌, ◌≤◌, ◌<◌}
use mathlib.Core.Path.{◌≡◌, refl, sym, ap, ◌∙◌}
use mathlib.Core.Bool.{Bool, true, false}
use native.Mathlib.Nat.{mul-pos, mul-le-mul_right, mul-lt-mul_of_pos_right, mul-sub, mul_comm, not-suc-le-zero}
use native.Mathlib.Omega.{arith}
use lib.Dec.{lit<, ltb, le→leb}
use lib.IntN.{pos, negsuc, neg_ℤ, ◌+ℤ◌, ◌-ℤ◌, ◌*ℤ◌, +ℤ_assoc, +ℤ_comm}
use lib.Signed.{mag, ◌≤ℤ◌, ≤ℤ_refl}
use borrow.Author.Tests.{ltb-true, ltb-false, le-ltb, lt-ltb}
use Rattle.fraction.specs.Fraction.{Fraction, Encloses}
use Rattle.fraction.specs.Signed.{minus, none, SignedEncloses}

-- a difference of whole numbers that is not negative, and one that is
difference-pos : (a b : ℕ) → b ≤ a → pos a -ℤ pos b ≡ pos (a - b)
difference-pos a zero h = ap pos (omega arith)
difference-pos a (suc b) h = rw (le-ltb a (suc b) h)

difference-neg : (a b : ℕ) → a < b → pos a -ℤ pos b ≡ negsuc (b - suc a)
difference-neg a zero h = absurd (not-suc-le-zero h)
difference-neg a (suc b) h = rw (lt-ltb a (suc b) h)

-- a - b ≤ c - d where a + d ≤ c + b
pub difference-le : (a b c d : ℕ) → a + d ≤ c + b → (pos a -ℤ pos b) ≤ℤ (pos c -ℤ pos d)
difference-le a b c d h = by (ltb a b) (ltb c d) refl refl
  where
    by : (s t : Bool) → ltb a b ≡ s → ltb c d ≡ t → (pos a -ℤ pos b) ≤ℤ (pos c -ℤ pos d)
    by true true p q =
        let l = ltb-true a b p in
        let m = ltb-true c d q in
        rw (difference-neg a b l, difference-neg c d m) (record { le = le→leb (d - suc c) (b - suc a) (omega arith) })
    by true false p q = rw (difference-neg a b (ltb-true a b p), difference-pos c d (ltb-false c d q)) (record { le = tt })
    by false true p q = absurd (omega (arith, ltb-false a b p, ltb-true c d q))
    by false false p q =
        let l = ltb-false a b p in
        let m = ltb-false c d q in
        rw (difference-pos a b l, difference-pos c d m) (record { le = le→leb (a - b) (c - d) (omega arith) })

-- a difference of whole numbers below n is of a size below n
pub difference-small : (a b n : ℕ) → a < n → b < n → mag (pos a -ℤ pos b) < n
difference-small a b n ha hb = by (ltb a b) refl
  where
    by : (t : Bool) → ltb a b ≡ t → mag (pos a -ℤ pos b) < n
    by true e = rw (difference-neg a b (ltb-true a b e)) (omega arith)
    by false e = rw (difference-pos a b (ltb-false a b e)) (omega arith)

-- a difference and a whole number more
pub difference-add : (a b w : ℕ) → (pos a -ℤ pos b) +ℤ pos w ≡ pos (a + w) -ℤ pos b
difference-add a b w =
    +ℤ_assoc (pos a) (neg_ℤ (pos b)) (pos w) ∙ rw (+ℤ_comm (neg_ℤ (pos b)) (pos w)) (sym (+ℤ_assoc (pos a) (pos w) (neg_ℤ (pos b))))

negative : (n : ℕ) → 0 < n → neg_ℤ (pos n) ≡ negsuc (n - 1)
negative zero h = absurd (not-suc-le-zero h)
negative (suc n) h = ap negsuc (omega arith)

sub-mul : (a b d : ℕ) → (a - b) * d ≡ a * d - b * d
sub-mul a b d = rw (mul_comm (a - b) d, mul_comm a d, mul_comm b d) (mul-sub d a b)

-- (a - b) × d, with d above 0
difference-scaled : (a b d : ℕ) → 0 < d → (pos a -ℤ pos b) *ℤ pos d ≡ pos (a * d) -ℤ pos (b * d)
difference-scaled a b d pos-d = by (ltb a b) refl
  where
    by : (t : Bool) → ltb a b ≡ t → (pos a -ℤ pos b) *ℤ pos d ≡ pos (a * d) -ℤ pos (b * d)
    by true e =
        let l = ltb-true a b e in
        let n : a * d < b * d = mul-lt-mul_of_pos_right l pos-d in
        let m : suc (b - suc a) ≡ b - a = omega arith in
        rw (difference-neg a b l, difference-neg (a * d) (b * d) n)
        (negative (suc (b - suc a) * d) (mul-pos (omega arith) pos-d) ∙ ap negsuc (rw (m, sub-mul b a d) (omega arith)))
    by false e =
        let l = ltb-false a b e in
        rw (difference-pos a b l, difference-pos (a * d) (b * d) (mul-le-mul_right d l)) (ap pos (sub-mul a b d))

-- x - y is enclosed by the lower end of x less the upper end of y, and the reverse
pub minus-encloses : {l u l' u' : ℕ} {x y : Fraction} → Encloses l x u → Encloses l' y u'
    → SignedEncloses (pos l -ℤ pos u') (minus x y) (pos u -ℤ pos l')
unfolding minus
minus-encloses {l} {u} {l'} {u'} {x} {y} e f =
    record {
      positive = both;
      below = rw (difference-scaled l u' d both) (difference-le (l * d) (u' * d) (x.numerator * y.denominator) (y.numerator * x.denominator)
          (omega (arith, mul-le-mul_right y.denominator e.below, mul-le-mul_right x.denominator f.above)));
      above = rw (difference-scaled u l' d both) (difference-le (x.numerator * y.denominator) (y.numerator * x.denominator) (u * d) (l' * d)
          (omega (arith, mul-le-mul_right y.denominator e.above, mul-le-mul_right x.denominator f.below)));
    }
  where
    d : ℕ
    d = x.denominator * y.denominator

    both : 0 < d
    both = mul-pos e.positive f.positive

-- 0 encloses nothing
pub none-encloses : SignedEncloses (pos 0) none (pos 0)
unfolding none
none-encloses = record { positive = lit< tt; below = ≤ℤ_refl (pos 0); above = ≤ℤ_refl (pos 0) }
