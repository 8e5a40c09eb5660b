-- Floats as numbers of units: what a format holds, and each operation as one rounding of whole numbers. Nothing here is about prices. Assumes nothing.
use Prim.Native.Nat.{ℕ, zero, suc, ◌+◌, ◌-◌, ◌*◌, ◌%◌, ◌^◌, ◌≤◌, ◌<◌}
use native.Mathlib.Nat.{mul-pos, lt_of_mul-lt-mul_right, mul-lt-mul_of_pos_right, mul-sub, mul_comm, mul-mul-mul_comm, zero-mul, lt_of_not-le, not-le_of_lt, le_of_suc-le-suc, lt_irrefl}
use native.Mathlib.Omega.{arith}
use mathlib.Core.Path.{◌≡◌, refl, sym, ap, ◌∙◌}
use mathlib.Core.Bool.{Bool, true, false, not, ◌&&◌}
use borrow.Author.Tests.{lt-ltb, le-ltb, ne_eqb}
use lib.Dec.{T, ltb, leb, eqb, leb→le, ltb→lt}
use lib.Pow.{pow-add, pow_pos, pow-lt}
use lib.IntN.{ℤ, pos, negsuc}
use lib.Ieee.{Float, nan, inf, fin, Format, prec, emax, low, up, down, unlike, round, sum, add, sub, neg, mul, div, fits}
use lib.Ieee.Exact.{HasValue}
use lib.Ieee.Fits.{down_pos}
use lib.Ieee.Scale.{overflow, round_same}
use lib.Ieee.Positive.{first_pos}
use Rattle.lists.proofs.OrderLaws.{leb-iff}
use Rattle.lists.proofs.TestLaws.{both}
use Rattle.quote_prices.proofs.RoundingLaws.{Units, Held}

-- ---- the units of a float that its format holds
abbrev pub units_of : Format → Float → ℕ
units_of f nan = 0
units_of f (inf s) = 0
units_of f (fin s m (pos k)) = m * 2 ^ (k + low f)
units_of f (fin s m (negsuc k)) = m * 2 ^ (low f - suc k)

-- a size below the overflow in fractions is so in units
units_under : (f : Format) (g a d : ℕ) → 0 < d → a * 2 ^ low f ≡ g * d → a < 2 ^ suc (emax f) * d → g < overflow f
units_under f g a d D e h =
    let more = mul-lt-mul_of_pos_right h (pow_pos (low f)) in
    let power = pow-add 2 (low f) (suc (emax f)) in
    lt_of_mul-lt-mul_right d (omega (arith, more, e, ap (λ (n : ℕ). n * d) power))

scaled-up : (f : Format) (m k : ℕ) → m * 2 ^ k * 2 ^ low f ≡ m * 2 ^ (k + low f) * 1
scaled-up f m k = omega (arith, ap (λ (n : ℕ). m * n) (pow-add 2 k (low f)))

scaled-down : (f : Format) (m k : ℕ) → suc k ≤ low f → m * 1 * 2 ^ low f ≡ m * 2 ^ (low f - suc k) * 2 ^ suc k
scaled-down f m k h =
    let e : low f - suc k + suc k ≡ low f = omega arith in
    omega (arith, ap (λ (n : ℕ). m * n) (ap (λ (j : ℕ). 2 ^ j) (sym e) ∙ pow-add 2 (low f - suc k) (suc k)))

-- what `fits` says of a float that is not 0
record Fitting (f : Format) (m : ℕ) (e : ℤ) : Type 0 where
  few : m < 2 ^ prec f
  fine : down e ≤ 2 ^ low f
  under : m * up e < 2 ^ suc (emax f) * down e

fitting : (f : Format) (s : Bool) (m : ℕ) (e : ℤ) → T (fits f (fin s (suc m) e)) → Fitting f (suc m) e
unfolding fits
fitting f s m e t =
    let a = eqb (suc m % 2) 1 in
    let b = ltb (suc m) (2 ^ prec f) in
    let c = leb (down e) (2 ^ low f) in
    let d = ltb (suc m * up e) (2 ^ suc (emax f) * down e) in
    let three = both (a && b && c) d t in
    let two = both (a && b) c three.0 in
    record { few = ltb→lt (suc m) (2 ^ prec f) (both a b two.0).1; fine = leb→le (down e) (2 ^ low f) two.1; under = ltb→lt (suc m * up e) (2 ^ suc (emax f) * down e) three.1 }

-- no units
held_none : (f : Format) (n : ℕ) → Held f (0 * n)
held_none f n = record { digits = 0; shift = 0; few = pow_pos (prec f); under = rw zero-mul (pow_pos (low f + suc (emax f))); is = rw zero-mul }

-- a float that the format holds is a whole number of units, which the format holds
pub fits-units : (f : Format) (s : Bool) (m : ℕ) (e : ℤ) → T (fits f (fin s m e)) → Units f (fin s m e) s (units_of f (fin s m e)) × Held f (units_of f (fin s m e))
fits-units f s zero (pos k) t = ((refl, scaled-up f 0 k), held_none f (2 ^ (k + low f)))
fits-units f s zero (negsuc k) t = ((refl, simp zero-mul), held_none f (2 ^ (low f - suc k)))
fits-units f s (suc m) (pos k) t =
    let h = fitting f s m (pos k) t in
    let e = scaled-up f (suc m) k in
    ((refl, e), record { digits = suc m; shift = k + low f; few = h.few; under = units_under f _ (suc m * 2 ^ k) 1 (omega arith) e h.under; is = refl })
fits-units f s (suc m) (negsuc k) t =
    let h = fitting f s m (negsuc k) t in
    let e = scaled-down f (suc m) k (le_of_suc-le-suc (lt_of_not-le (λ l. not-le_of_lt (pow-lt l) h.fine))) in (
      (refl, e),
      record { digits = suc m; shift = low f - suc k; few = h.few; under = units_under f _ (suc m * 1) (2 ^ suc k) (pow_pos (suc k)) e h.under; is = refl },
    )

-- ---- the operations on units

-- two fractions over c as two over u: their order and their difference
module _ (a b c g h u : ℕ) (C : 0 < c) (U : 0 < u) (p : a * u ≡ g * c) (q : b * u ≡ h * c) where
  order_same : ltb a b ≡ ltb g h
  order_same =
      leb-iff (suc a) b (suc g) h (λ l. lt_of_mul-lt-mul_right c (omega (arith, mul-lt-mul_of_pos_right l U)))
      (λ l. lt_of_mul-lt-mul_right u (omega (arith, mul-lt-mul_of_pos_right l C)))

  difference-same : (b - a) * u ≡ (h - g) * c
  difference-same = mul_comm (b - a) u ∙ mul-sub u b a ∙ rw (mul_comm u b ∙ q, mul_comm u a ∙ p) (sym (mul_comm (h - g) c ∙ mul-sub c h g ∙ rw (mul_comm c h, mul_comm c g)))

-- a sum sees only the sizes of its two fractions
sum_same : (f : Format) (s t : Bool) (a b c g h u : ℕ) → 0 < c → 0 < u → a * u ≡ g * c → b * u ≡ h * c → sum f s a t b c ≡ sum f s g t h u
unfolding sum
sum_same f s t a b c g h u C U p q =
    rw (
      order_same a b c g h u C U p q,
      order_same b a c h g u C U q p,
      round_same f s (a + b) c (g + h) u C U (omega arith),
      round_same f t (b - a) c (h - g) u C U (difference-same a b c g h u C U p q),
      round_same f (s && ltb h g) (a - b) c (g - h) u C U (difference-same b a c h g u C U q p),
    )

-- ± g units ± h units
add-units : (f : Format) (x y : Float) (s t : Bool) (g h : ℕ) → Units f x s g → Units f y t h → add f x y ≡ sum f s g t h (2 ^ low f)
unfolding add
add-units f nan y s t g h p q = absurd p
add-units f (inf r) y s t g h p q = absurd p
add-units f (fin r m e) nan s t g h p q = absurd q
add-units f (fin r m e) (inf k) s t g h p q = absurd q
add-units f (fin r m e) (fin k n d) s t g h p q =
    let u = 2 ^ low f in
    let first : m * up e * down d * u ≡ g * (down e * down d) = omega (arith, ap (λ (v : ℕ). v * down d) p.1) in
    let second : n * up d * down e * u ≡ h * (down e * down d) = omega (arith, ap (λ (v : ℕ). v * down e) q.1) in
    rw (p.0, q.0) (sum_same f s t _ _ _ g h u (mul-pos (down_pos e) (down_pos d)) (pow_pos (low f)) first second)

units-neg : (f : Format) (x : Float) (g : ℕ) → Units f x false g → Units f (neg x) true g
unfolding neg
units-neg f nan g p = absurd p
units-neg f (inf s) g p = absurd p
units-neg f (fin s m e) g p = (ap not p.0, p.1)

-- g units and h units, one of them with a minus: their sum, what is left, and what is lacking
module _ (f : Format) (x y : Float) (g h : ℕ) (p : Units f x false g) where
  pub add-both : Units f y false h → add f x y ≡ round f false (g + h) (2 ^ low f)
  unfolding sum
  add-both q = add-units f x y false false g h p q

  pub add_left : Units f y true h → h ≤ g → add f x y ≡ round f false (g - h) (2 ^ low f)
  unfolding sum
  add_left q l = add-units f x y false true g h p q ∙ rw (le-ltb g h l)

  add-lacking : Units f y true h → g < h → add f x y ≡ round f true (h - g) (2 ^ low f)
  unfolding sum
  add-lacking q l = add-units f x y false true g h p q ∙ rw (lt-ltb g h l)

-- a difference: what is left, or with a minus what is lacking
module _ (f : Format) (x y : Float) (g h : ℕ) (p : Units f x false g) (q : Units f y false h) where
  pub sub-left : h ≤ g → sub f x y ≡ round f false (g - h) (2 ^ low f)
  unfolding sub
  sub-left l = add_left f x (neg y) g h p (units-neg f y h q) l

  pub sub-lacking : g < h → sub f x y ≡ round f true (h - g) (2 ^ low f)
  unfolding sub
  sub-lacking l = add-lacking f x (neg y) g h p (units-neg f y h q) l

-- the product of two fractions
pub mul-values : (f : Format) (x y : Float) (s t : Bool) (a c b d : ℕ) → 0 < c → 0 < d → HasValue x s a c → HasValue y t b d
    → mul f x y ≡ round f (unlike s t) (a * b) (c * d)
unfolding mul
mul-values f nan y s t a c b d C D p q = absurd p
mul-values f (inf r) y s t a c b d C D p q = absurd p
mul-values f (fin r m e) nan s t a c b d C D p q = absurd q
mul-values f (fin r m e) (inf k) s t a c b d C D p q = absurd q
mul-values f (fin r m e) (fin k n i) s t a c b d C D p q =
    let cross : m * up e * (n * up i) * (c * d) ≡ a * b * (down e * down i) =
    mul-mul-mul_comm (m * up e) (n * up i) c d ∙ rw (p.1, q.1) (mul-mul-mul_comm a (down e) b (down i)) in
    rw (p.0, q.0) (round_same f (unlike s t) _ _ (a * b) (c * d) (mul-pos (down_pos e) (down_pos i)) (mul-pos C D) cross)

-- the quotient of two whole numbers
pub div-whole : (f : Format) (x y : Float) (k n : ℕ) → 0 < n → HasValue x false k 1 → HasValue y false n 1 → div f x y ≡ round f false k n
unfolding div
div-whole f nan y k n N p q = absurd p
div-whole f (inf r) y k n N p q = absurd p
div-whole f (fin r m e) nan k n N p q = absurd q
div-whole f (fin r m e) (inf t) k n N p q = absurd q
div-whole f (fin r m e) (fin t j d) k n N p q =
    let divisor : 0 < j * up d = omega (arith, q.1, mul-pos N (down_pos d)) in
    let some : eqb j 0 ≡ false = ne_eqb j 0 (λ z. lt_irrefl 0 (rw z at (first_pos j (up d) divisor))) in
    let cross : m * up e * down d * n ≡ k * (j * up d * down e) = omega (arith, ap (λ (v : ℕ). v * (n * down d)) p.1, ap (λ (v : ℕ). k * down e * v) q.1) in
    rw (some, p.0, q.0) (round_same f false _ _ k n (mul-pos divisor (down_pos e)) N cross)
