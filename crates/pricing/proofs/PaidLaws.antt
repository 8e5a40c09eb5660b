-- What has been paid and what is left, together, month by month, for any balances and outflows whose months keep to `grown`: how far lower and upper
-- come apart, and how large they become. Both are one law, as an upper figure stands away from a lower figure of 0 by its whole amount. Assumes nothing.
use Prim.Native.Nat.{ℕ, zero, suc, ◌+◌, ◌-◌, ◌≤◌, zero-le}
use mathlib.Core.Path.{◌≡◌, refl}
use native.Mathlib.Nat.{zero-add, sub-zero}
use native.Mathlib.Omega.{arith}
use Rattle.lists.specs.Sums.{sum_where, everywhere}
use Rattle.lists.proofs.SumLaws.{sum_where-mono}
use Rattle.pricing.proofs.MonthLaws.{grown, grown-mono, distance}
use Rattle.pricing.proofs.FlowWidthLaws.{paid}

module _ (over roundings : ℕ) where
  -- a month carries the distance w of balances and outflows together to `grown w`
  carry : (w l lf l' lo u uf u' uo : ℕ) → l ≤ u → lf ≤ uf → u' + uo ≤ l' + lo + grown over roundings (u - l) → u + uf ≤ l + lf + w
      → u' + (uf + uo) ≤ l' + (lf + lo) + grown over roundings w
  unfolding grown
  carry w l lf l' lo u uf u' uo hl hf hs hw = omega (arith, grown-mono over {d = u - l} {e = w} (omega arith))

  -- balances bl ≤ bu and outflows ol ≤ ou: what is left and paid after t months stands apart by at most the distance of the first balances after t months
  pub paid-width : (bl bu ol ou : ℕ → ℕ) → ((t : ℕ) → bl t ≤ bu t) → ((t : ℕ) → ol t ≤ ou t)
      → ((t : ℕ) → bu (suc t) + ou t ≤ bl (suc t) + ol t + grown over roundings (bu t - bl t))
      → (t : ℕ) → bu t + paid ou t ≤ bl t + paid ol t + distance over roundings (bu 0 - bl 0) t
  unfolding sum_where distance
  paid-width bl bu ol ou hb ho step zero = omega (arith, hb 0)
  paid-width bl bu ol ou hb ho step (suc t) =
      carry (distance over roundings (bu 0 - bl 0) t) (bl t) (paid ol t) (bl (suc t)) (ol t) (bu t) (paid ou t) (bu (suc t)) (ou t) (hb t)
      (sum_where-mono everywhere ol ou t (λ i h. ho i)) (step t) (paid-width bl bu ol ou hb ho step t)

  nothing-paid : (t : ℕ) → paid (λ _. 0) t ≡ 0
  unfolding sum_where
  nothing-paid zero = refl
  nothing-paid (suc t) = rw (nothing-paid t)

  -- what is left and paid after t months is at most the distance of the first balance after t months
  pub paid-limit : (b o : ℕ → ℕ) → ((t : ℕ) → b (suc t) + o t ≤ grown over roundings (b t)) → (t : ℕ) → b t + paid o t ≤ distance over roundings (b 0) t
  paid-limit b o step t =
      simp (nothing-paid, zero-add, sub-zero)
      at (paid-width (λ _. 0) b (λ _. 0) o (λ t. zero-le) (λ t. zero-le) (λ t. simp (zero-add, sub-zero) (step t)) t)
