-- A borrowing's price by a table of discount factors: month by month, within 64 bits, and by the factors of a sheet of yields that of the run.
-- Assumes nothing.
use Prim.Native.Nat.{ℕ, suc, ◌+◌, ◌*◌, ◌-◌, ◌≤◌}
use native.Mathlib.Nat.{le_trans}
use native.Mathlib.Numerals.{add-one}
use native.Mathlib.Omega.{arith}
use mathlib.Core.Path.{◌≡◌, ap}
use mathlib.Core.List.{List, [], ◌∷◌}
use lib.Dec.{lit<}
use lib.ListN.{get_or, replicate}
use Rattle.lists.specs.Tables.{table_from, joined}
use Rattle.lists.proofs.TableLaws.{table-ext}
use Rattle.form.specs.Limits.{months_limit}
use Rattle.pricing.specs.Scales.{par, value_scale}
use Rattle.pricing.specs.Rounding.{Rounding, down, up, quotient}
use Rattle.pricing.specs.Run.{discounted_sum, worth_by}
use Rattle.pricing.proofs.RoundingLaws.{quotient-zero}
use Rattle.pricing.proofs.FlowWidthLaws.{discounted-le-paid}
use Rattle.price_factors.specs.Inner.Factors.{factor_in, AtMostPar}
use Rattle.borrowing_prices.specs.Run.{interest_limit, interest_by, flow_with}
use Rattle.borrowing_prices.specs.Inner.Tabled.{bounds_with, tabled_values}
use Rattle.borrowing_prices.proofs.WidthLaws.{paid_limit, paid-limit}

-- the factor of month t + 1 as it stands in the table
pub factor-stands : (factors : List ℕ) (scenario t : ℕ) → get_or factors (7 * t + scenario) 0 ≡ factor_in factors scenario (suc t)
unfolding factor_in
factor-stands factors scenario t = let e : suc t - 1 ≡ t = omega arith in rw e

module _ (ρ : Rounding) (interest months : ℕ) (factors : List ℕ) (scenario : ℕ) where
  -- the products of t months
  abbrev pub products_to : ℕ → ℕ
  products_to t = discounted_sum ρ (flow_with interest months) (factor_in factors scenario) t

  -- one month more
  pub sum-next : (t price product : ℕ) → price ≡ products_to t → product ≡ quotient ρ (flow_with interest months t * factor_in factors scenario (suc t)) par
      → price + product ≡ products_to (t + 1)
  unfolding discounted_sum
  sum-next t price product e f = rw (e, f, add-one)

  -- no more than is paid
  pub sum-limit : interest ≤ interest_limit → months ≤ months_limit → AtMostPar factors → (t : ℕ) → t ≤ months → products_to t ≤ paid_limit
  unfolding factor_in
  sum-limit hi hm hp t h = le_trans (discounted-le-paid ρ (flow_with interest months) (factor_in factors scenario) (λ i. hp _) t) (paid-limit interest months t hi hm h)

-- a zero balance is worth nothing
pub no-values : (c months : ℕ) (lower upper : List ℕ) → replicate 14 0 ≡ tabled_values 0 c months lower upper
unfolding tabled_values bounds_with worth_by table_from joined
no-values c months lower upper =
    ap joined (table-ext 7 (λ (s : ℕ). 0 ∷ 0 ∷ []) (bounds_with 0 (interest_by down c) (interest_by up c) months lower upper)
    (λ s h. rw (quotient-zero down _ value_scale (lit< tt), quotient-zero up _ value_scale (lit< tt))))
