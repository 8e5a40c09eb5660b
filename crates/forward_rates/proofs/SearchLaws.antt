-- The search between two growths: what it keeps, how each comparison narrows it, and how it ends. Assumes nothing.
use Prim.Native.Nat.{ℕ, ◌+◌, ◌-◌, ◌≤◌, ◌<◌}
use native.Mathlib.Nat.{le_refl}
use native.Mathlib.Omega.{arith}
use mathlib.Core.Path.{◌≡◌}
use Rattle.forward_rates.specs.declared.sides.Side.TheVariants.{Below, Above, Close}
use Rattle.forward_rates.specs.Forwards.{Forward, AtMost, AtLeast, Enclosing}
use Rattle.forward_rates.specs.Inner.Searches.{Bracket, Fit, Figured, Told}
use Rattle.forward_rates.proofs.TermLaws.{between-fit, lower-at-most, upper-at-least}

-- where the search stands: between the growths that it began with
pub record Search (start end n least most lower upper : ℕ) : Type 0 where
  pub whole : Bracket n least most
  pub least-le : least ≤ lower
  pub rises : lower < upper
  pub most-ge : upper ≤ most
  pub low : (k : Forward) → k.term ≡ n → Figured k start end → AtMost k lower
  pub high : (k : Forward) → k.term ≡ n → Figured k start end → AtLeast k upper

pub search-start : (start end : ℕ) {n l u : ℕ} → Bracket n l u → Search start end n l u l u
search-start start end b =
    record {
      whole = b;
      least-le = le_refl _;
      rises = b.rises;
      most-ge = le_refl _;
      low = λ k e known. lower-at-most k e known b;
      high = λ k e known. upper-at-least k e known b;
    }

-- a growth g between lower and upper, and what was told of it
module _ {start end n least most lower upper : ℕ} (s : Search start end n least most lower upper) (g : ℕ) (more : lower < g) (less : g < upper) where
  pub search-fit : Fit n g
  search-fit = between-fit g s.whole (omega (arith, s.least-le)) (omega (arith, s.most-ge))

  pub search-below : ((k : Forward) → k.term ≡ n → Figured k start end → Told k g Below) → Search start end n least most g upper
  unfolding Told
  search-below told = record { whole = s.whole; least-le = omega (arith, s.least-le); rises = less; most-ge = s.most-ge; low = told; high = s.high }

  pub search-above : ((k : Forward) → k.term ≡ n → Figured k start end → Told k g Above) → Search start end n least most lower g
  unfolding Told
  search-above told = record { whole = s.whole; least-le = s.least-le; rises = more; most-ge = omega (arith, s.most-ge); low = s.low; high = told }

  pub search-close : ((k : Forward) → k.term ≡ n → Figured k start end → Told k g Close)
      → (k : Forward) → k.term ≡ n → Figured k start end → Enclosing k (g - 1) (g + 1)
  unfolding Told
  search-close told k e known =
      record {
        lower-above = omega (arith, s.whole.lower-above, s.least-le);
        upper-above = omega arith;
        lower-at-most = (told k e known).0;
        upper-at-least = (told k e known).1;
        two-apart = omega arith;
        upper-limit = omega (arith, s.most-ge, s.whole.upper-limit);
      }

-- nothing is left between
pub search-ends : {start end n least most lower upper : ℕ} → Search start end n least most lower upper → upper ≤ lower + 1
    → (k : Forward) → k.term ≡ n → Figured k start end → Enclosing k lower upper
search-ends s h k e known =
    record {
      lower-above = omega (arith, s.whole.lower-above, s.least-le);
      upper-above = omega (arith, s.rises);
      lower-at-most = s.low k e known;
      upper-at-least = s.high k e known;
      two-apart = omega arith;
      upper-limit = omega (arith, s.most-ge, s.whole.upper-limit);
    }
