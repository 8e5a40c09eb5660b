-- What a comparison of figures tells: a growth below the true rate's, above it, or less than one from it. Assumes nothing.
use Prim.Native.Nat.{ℕ, ◌+◌, ◌*◌, ◌-◌, ◌^◌, ◌≤◌, ◌<◌}
use native.Mathlib.Nat.{le_trans, mul-le-mul, mul-le-mul_left, mul-le-mul_right, le_of_mul-le-mul_right}
use native.Mathlib.Omega.{arith}
use mathlib.Core.Path.{◌≡◌, ap}
use lib.Dec.{lit<}
use lib.Pow.{pow-add}
use Rattle.form.specs.Limits.{sheet_months}
use Rattle.pricing.specs.Scales.{rate_scale}
use Rattle.forward_rates.specs.Forwards.{Forward, AtMost, AtLeast, growth_limit}
use Rattle.forward_rates.specs.Inner.Figures.{unit, Figure}
use Rattle.forward_rates.specs.Inner.Searches.{Figured, term_loss, margin}
use Rattle.forward_rates.proofs.PowerLaws.{one_more}
use Rattle.forward_rates.proofs.MarginLaws.{kept, Kept, left_le, more-ge, above-ge, below-ge}

-- figures of the power p, the start s and the end e, of x / X, y / Y and z / (X Y): what they keep, and that they are at most their powers
record Compared (n a b p s e x X y Y z : ℕ) : Type 0 where
  keep : Kept n a b
  power-least : a * x ≤ p * X
  power-most : p * X ≤ unit * x
  start-least : kept * y ≤ s * Y
  start-most : s * Y ≤ unit * y
  end-least : kept * z ≤ e * (Y * X)
  end-most : e * (Y * X) ≤ unit * z

module _ {n a b p s e x X y Y z : ℕ} (c : Compared n a b p s e x X y Y z) where
  grown-least : a * kept * (x * y) ≤ p * s * (Y * X)
  grown-least = omega (arith, mul-le-mul c.power-least c.start-least)

  grown-most : p * s * (Y * X) ≤ unit * unit * (x * y)
  grown-most = omega (arith, mul-le-mul c.power-most c.start-most)

  -- a growth whose figures stay below the margin: a (2^27 - 240) x y ≤ p s X Y ≤ b e X Y ≤ b 2^27 z ≤ a (2^27 - 240) z
  below : p * s ≤ e * b → x * y ≤ z
  below h =
      le_of_mul-le-mul_right {k = a * kept}
      (omega (arith, grown-least, mul-le-mul_right (Y * X) h, mul-le-mul_right b c.end-most, mul-le-mul_right z (left_le c.keep)))
      (omega (arith, c.keep.power-is, c.keep.within))

  -- above it: 2^54 z ≤ (2^27 - 240) (2^27 + margin) z ≤ (2^27 + margin) e X Y ≤ p s X Y ≤ 2^54 x y
  above : e * (unit + margin n) ≤ p * s → z ≤ x * y
  above h =
      le_of_mul-le-mul_right {k = unit * unit}
      (omega (arith, grown-most, mul-le-mul_right (Y * X) h, mul-le-mul_right (unit + margin n) c.end-least, mul-le-mul_right z (more-ge c.keep)))
      (lit< tt)

  -- within the margin one more is above: b (2^27 - 240) z ≤ b e X Y ≤ p s X Y ≤ 2^54 x y, and with w the power of g + 1,
  -- 2^54 g z ≤ b (2^27 - 240) (g + n) z ≤ 2^54 (g + n) x y ≤ 2^54 g w y
  close-above : (g w : ℕ) → 0 < g → g ≤ growth_limit → (g + n) * x ≤ g * w → e * b ≤ p * s → z ≤ w * y
  close-above g w pos most more h =
      let mid : b * kept * z ≤ unit * unit * (x * y) = omega (arith, grown-most, mul-le-mul_right (Y * X) h, mul-le-mul_right b c.end-least) in
      le_of_mul-le-mul_right {k = unit * unit * g}
      (le_trans (omega (arith, mul-le-mul_right z (above-ge c.keep g most)))
      (le_trans (mul-le-mul_right (g + n) mid) (omega (arith, mul-le-mul_right (unit * unit * y) more))))
      (omega arith)

  -- and one less is below: with w the power of g, whose growth is one less, and m the margin, g (2^27 + m) 2^27 w y ≤ a (2^27 - 240) (g + n) w y
  -- ≤ a (2^27 - 240) g x y ≤ g p s X Y ≤ g (2^27 + m) e X Y ≤ g (2^27 + m) 2^27 z
  close-below : (g w : ℕ) → 0 < g → g ≤ growth_limit → (g + n) * w ≤ g * x → p * s ≤ e * (unit + margin n) → w * y ≤ z
  close-below g w pos most more h =
      let m = unit + margin n in
      let mid : a * kept * (x * y) ≤ m * (unit * z) = le_trans grown-least (le_trans (mul-le-mul_right (Y * X) h) (omega (arith, mul-le-mul_left m c.end-most))) in
      le_of_mul-le-mul_right {k = g * m * unit}
      (le_trans (omega (arith, mul-le-mul_right (w * y) (below-ge c.keep g most)))
      (le_trans (mul-le-mul_right (a * kept * y) more) (omega (arith, mul-le-mul_right g mid))))
      (omega arith)

-- what a figure keeps of its power
keeps : {loss growth n p : ℕ} (c : ℕ) → c + loss ≡ unit → Figure loss growth n p → c * growth ^ n ≤ p * rate_scale ^ n
keeps {loss} {growth} {n} {p} c e k = omega (arith, k.near, ap (λ (x : ℕ). x * growth ^ n) e)

-- a growth g whose power over the term has the figure p, beside a forward whose figures are known
module _ (k : Forward) {n start end g p : ℕ} (e : k.term ≡ n) (some : 0 < n) (known : Figured k start end) (figure : Figure (term_loss n) g n p) where
  within : n ≤ sheet_months
  within = omega (arith, e, known.within)

  compared : Compared n (unit - term_loss n) (unit - margin n) p start end
      (g ^ n) (rate_scale ^ n) (k.near ^ k.month) (rate_scale ^ k.month) (k.far ^ (k.month + n))
  compared =
      record {
        keep = record { some = some; within = within; power-is = omega (arith, within); left_is = omega (arith, within) };
        power-least = keeps (unit - term_loss n) (omega (arith, within)) figure;
        power-most = figure.at_most;
        start-least = keeps kept (omega arith) known.start-figure;
        start-most = known.start-figure.at_most;
        end-least = rw (e, pow-add rate_scale k.month n) at (keeps kept (omega arith) known.end-figure);
        end-most = rw (e, pow-add rate_scale k.month n) at known.end-figure.at_most;
      }

  pub told_below : p * start ≤ end * (unit - margin n) → AtMost k g
  unfolding AtMost
  told_below h = rw e (below compared h)

  pub told-above : end * (unit + margin n) ≤ p * start → AtLeast k g
  unfolding AtLeast
  told-above h = rw e (above compared h)

  pub one-above : 0 < g → g ≤ growth_limit → end * (unit - margin n) ≤ p * start → AtLeast k (g + 1)
  unfolding AtLeast
  one-above pos most h = rw e (close-above compared g ((g + 1) ^ n) pos most (one_more g n) h)

  pub one_below : 1 < g → g ≤ growth_limit → p * start ≤ end * (unit + margin n) → AtMost k (g - 1)
  unfolding AtMost
  one_below pos most h =
      let one : g - 1 + 1 ≡ g = omega arith in
      rw e (close-below compared (g - 1) ((g - 1) ^ n) (omega arith) (omega arith) (rw one at (one_more (g - 1) n)) h)
