-- The three terms, and growths between which every forward over a term lies. Assumes nothing.
use Prim.Native.Nat.{ℕ, zero, suc, ◌+◌, ◌*◌, ◌^◌, ◌≤◌, ◌<◌}
use native.Mathlib.Nat.{pow-le-pow_left, mul-le-mul, mul-le-mul_left, le_trans}
use native.Mathlib.Omega.{arith}
use mathlib.Core.Path.{◌≡◌, refl}
use lib.Dec.{lit<, lit≤, T, leb, ltb, leb→le, ltb→lt}
use lib.Pow.{pow-add}
use Rattle.form.specs.Limits.{sheet_months}
use Rattle.pricing.specs.Scales.{rate_scale}
use Rattle.forward_rates.specs.Forwards.{Forward, AtMost, AtLeast, term_at, growth_limit}
use Rattle.forward_rates.specs.Inner.Figures.{span}
use Rattle.forward_rates.specs.Inner.Searches.{Bracket, Fit, Figured, yield_limit}
use Rattle.forward_rates.proofs.PowerLaws.{yield-limit}

-- the term at an index
pub first-term : (i : ℕ) → i ≡ 0 → 6 ≡ term_at i
unfolding term_at
first-term i e = rw e

pub second-term : (i : ℕ) → i ≡ 1 → 24 ≡ term_at i
unfolding term_at
second-term i e = rw e

pub last-term : (i : ℕ) → (i ≡ 0 → ⊥) → (i ≡ 1 → ⊥) → 48 ≡ term_at i
unfolding term_at
last-term zero h g = absurd (h refl)
last-term (suc zero) h g = absurd (g refl)
last-term (suc (suc zero)) h g = refl
last-term (suc (suc (suc i))) h g = refl

-- no term is 0 months, and none more than 120
pub term-some : (i : ℕ) → 0 < term_at i
unfolding term_at
term-some zero = lit< tt
term-some (suc zero) = lit< tt
term-some (suc (suc zero)) = lit< tt
term-some (suc (suc (suc i))) = lit< tt

pub term-within : (i : ℕ) → term_at i ≤ sheet_months
unfolding term_at
term-within zero = lit≤ tt
term-within (suc zero) = lit≤ tt
term-within (suc (suc zero)) = lit≤ tt
term-within (suc (suc (suc i))) = lit≤ tt

-- growths that bracket the forwards over a term, by tests that are computed
pub bracket-is : (n l u : ℕ) → T (ltb l u) → T (ltb 1 l) → T (leb u growth_limit) → T (leb (rate_scale ^ n) (span * l ^ n)) → T (leb (u ^ n) (span * rate_scale ^ n))
    → T (leb (yield_limit * l ^ n) (100 * rate_scale ^ n)) → T (leb (yield_limit * rate_scale ^ n) (100 * u ^ n)) → Bracket n l u
bracket-is n l u rises above limit least most below over =
    record {
      rises = ltb→lt _ _ rises;
      lower-above = ltb→lt _ _ above;
      upper-limit = leb→le _ _ limit;
      lower-moderate = leb→le _ _ least;
      upper-moderate = leb→le _ _ most;
      lower-below = leb→le _ _ below;
      upper-above = leb→le _ _ over;
    }

-- a growth between them can be tried
pub between-fit : {n l u : ℕ} (g : ℕ) → Bracket n l u → l ≤ g → g ≤ u → Fit n g
between-fit {n} {l} {u} g k hl hu =
    record {
      moderate =
          record {
            positive = omega (arith, k.lower-above);
            most = le_trans (pow-le-pow_left hu n) k.upper-moderate;
            least = le_trans k.lower-moderate (mul-le-mul_left span (pow-le-pow_left hl n));
          };
      above = omega (arith, k.lower-above);
      limit = omega (arith, k.upper-limit);
    }

-- and every forward lies between them. With x the power of a bracket's growth, X that of 120,000, y and Y those of the accumulated yield at the start:
-- 1,593 x ≤ 100 X and 100 y ≤ 1,593 Y, so x y ≤ X Y, which is at most the accumulated yield at the end; and so for the upper one
module _ (k : Forward) {n start end l u : ℕ} (e : k.term ≡ n) (known : Figured k start end) (b : Bracket n l u) where
  pub lower-at-most : AtMost k l
  unfolding AtMost
  lower-at-most =
      rw e
      (le_trans (omega (arith, mul-le-mul b.lower-below (yield-limit k.near k.month known.near-yield (omega (arith, known.within))), pow-add rate_scale k.month n))
      (pow-le-pow_left known.far-yield.least (k.month + n)))

  pub upper-at-least : AtLeast k u
  unfolding AtLeast
  upper-at-least =
      rw e
      (omega (
        arith,
        yield-limit k.far (k.month + n) known.far-yield (rw e at known.within),
        pow-add rate_scale k.month n,
        mul-le-mul b.upper-above (pow-le-pow_left known.near-yield.least k.month),
      ))
