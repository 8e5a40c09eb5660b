-- Floats that are not negative, counted in units of their format's smallest value: a fraction rounds to no more units than any float above it has, and to
-- no fewer than any float below it. Nothing here is about prices. Assumes nothing.
use Prim.Native.Nat.{ℕ, zero, suc, ◌+◌, ◌*◌, ◌^◌, ◌≤◌, ◌<◌, zero-le}
use native.Mathlib.Nat.{le_of_mul-le-mul_right, zero-mul}
use native.Mathlib.Omega.{arith}
use mathlib.Core.Path.{◌≡◌, refl, sym, ap}
use mathlib.Core.Logic.{◌⊎◌, inl, inr}
use mathlib.Core.Bool.{Bool, true, false, cond}
use lib.Dec.{T, ltb}
use lib.Pow.{pow_pos}
use lib.Ieee.{Float, nan, inf, fin, Format, prec, emax, low, odd, units, round, le}
use lib.Ieee.Exact.{HasValue, units_val, round_exact}
use lib.Ieee.Fits.{round_is}
use lib.Ieee.Order.{drop, kept, round_mono}
use lib.Ieee.Scale.{grid, overflow, finite, round_val, round_under}
use lib.Ieee.Positive.{positive, positive_of_value, values_of_le, above_of_le}

-- x has the sign s, and is g units in size
abbrev pub Units : Format → Float → Bool → ℕ → Type 0
Units f x s g = HasValue x s g (2 ^ low f)

-- the format holds a float of g units: no more digits than it keeps, and no overflow
pub record Held (f : Format) (g : ℕ) : Type 0 where
  pub digits : ℕ
  pub shift : ℕ
  pub few : digits < 2 ^ prec f
  pub under : g < overflow f
  pub is : g ≡ digits * 2 ^ shift

-- ---- what is rounded without a sign is finite, or the infinity above
odd-finite : (d q k l : ℕ) → T (finite (odd d false q k l))
unfolding odd
odd-finite d zero k l = tt
odd-finite d (suc q) k l = tt

units-either : (f : Format) (q k : ℕ) → T (finite (units f false q k)) ⊎ (units f false q k ≡ inf false)
unfolding units
units-either f q k = by (ltb (q * 2 ^ k) (2 ^ (low f + suc (emax f))))
  where
    by : (b : Bool)
        → T (finite (cond b (odd (suc (prec f)) false q k (low f)) (inf false))) ⊎ (cond b (odd (suc (prec f)) false q k (low f)) (inf false) ≡ inf false)
    by true = inl (odd-finite (suc (prec f)) q k (low f))
    by false = inr refl

round-either : (f : Format) (a c : ℕ) → T (finite (round f false a c)) ⊎ (round f false a c ≡ inf false)
round-either f a c = rw (round_is f false a c) (units-either f (kept (prec f) (a * 2 ^ low f) c) (drop (prec f) (a * 2 ^ low f) c))

-- at most a finite value, it is finite
finite-under : (x y : Float) (b d : ℕ) → T (finite x) ⊎ (x ≡ inf false) → HasValue y false b d → T (le x y) → T (finite x)
unfolding le
finite-under x y b d (inl t) v h = t
finite-under x nan b d (inr e) v h = absurd v
finite-under x (inf s) b d (inr e) v h = absurd v
finite-under x (fin s m k) b d (inr e) v h = absurd (rw e at h)

-- ---- the order of two values, as one of fractions
positive-above : (x y : Float) (b d : ℕ) → T (positive x) → HasValue y false b d → T (le x y) → T (positive y)
positive-above x nan b d p v h = absurd v
positive-above x (inf s) b d p v h = absurd v
positive-above x (fin true m k) b d p v h = above_of_le x (fin true m k) p h
positive-above x (fin false m k) b d p v h = above_of_le x (fin false m k) p h

pub le-values : (x y : Float) (a c b d : ℕ) → HasValue x false a c → HasValue y false b d → T (le x y) → a * d ≤ b * c
le-values x y zero c b d p q h = rw zero-mul zero-le
le-values x y (suc a) c b d p q h =
    let above = positive_of_value x (suc a) c p (omega arith) in
    values_of_le x y (suc a) c b d above (positive-above x y b d above q h) p q h

module _ (f : Format) where
  -- units that the format holds round to themselves
  round-held : (s : Bool) (g : ℕ) → Held f g → Units f (round f s g (2 ^ low f)) s g
  round-held s g h =
      round_exact f s g (2 ^ low f) h.digits h.shift (pow_pos (low f)) h.few (rw (sym h.is) h.under) (ap (λ (n : ℕ). n * 2 ^ low f) h.is)

  -- a fraction of at most g units rounds to at most g
  pub round-le : (a c g : ℕ) → 0 < c → Held f g → a * 2 ^ low f ≤ g * c → grid f a c ≤ g
  round-le a c g C h l =
      let u = 2 ^ low f in
      let most = round-held false g h in
      let below = round_mono f a c g u C (pow_pos (low f)) l in
      let value = round_val f a c (round_under f a c (finite-under (round f false a c) (round f false g u) g u (round-either f a c) most below)) in
      le_of_mul-le-mul_right (le-values (round f false a c) (round f false g u) (grid f a c) u g u value most below) (pow_pos (low f))

  -- a fraction of at least g units, and under the overflow, rounds to at least g
  pub round-ge : (a c g : ℕ) → 0 < c → Held f g → g * c ≤ a * 2 ^ low f → grid f a c < overflow f → g ≤ grid f a c
  round-ge a c g C h l under =
      let u = 2 ^ low f in
      let above = round_mono f g u a c (pow_pos (low f)) C l in
      le_of_mul-le-mul_right (le-values (round f false g u) (round f false a c) g u (grid f a c) u (round-held false g h) (round_val f a c under) above) (pow_pos (low f))

  -- what is rounded to so many units, with either sign
  pub round-units : (s : Bool) (a c : ℕ) → grid f a c < overflow f → Units f (round f s a c) s (grid f a c)
  round-units s a c h =
      rw (round_is f s a c) (units_val f s (kept (prec f) (a * 2 ^ low f) c) (drop (prec f) (a * 2 ^ low f) c) h)
