-- The values by the discount factors of a sheet of yields are those of the run. Assumes nothing.
use Prim.Native.Nat.{ℕ, ◌<◌, ◌≤◌}
use native.Mathlib.Nat.{lt_of_lt_of_le, eq-zero-or-pos}
use mathlib.Core.Logic.{⊎_elim}
use mathlib.Core.Path.{◌≡◌, sym, ap, ◌∙◌}
use mathlib.Core.List.{List}
use lib.Dec.{lit<}
use Rattle.lists.specs.Tables.{joined}
use Rattle.lists.proofs.TableLaws.{table-ext}
use Rattle.form.specs.Limits.{months_limit}
use Rattle.pricing.specs.Scales.{value_scale}
use Rattle.pricing.specs.Rounding.{Rounding, down, up}
use Rattle.pricing.specs.Run.{discount_factor_by, worth_by}
use Rattle.pricing.proofs.RoundingLaws.{quotient-zero}
use Rattle.pricing.proofs.FlowWidthLaws.{discounted-ext}
use Rattle.price_factors.specs.Inner.Factors.{factors_by, factor_in, sheet_yield}
use Rattle.price_factors.proofs.FactorLaws.{factor-is}
use Rattle.borrowing_prices.specs.Run.{interest_by, flow_by, price_by, value_by, bounds_by, values_by}
use Rattle.borrowing_prices.specs.Inner.Tabled.{tabled_price, bounds_with, tabled_values}

-- a borrowing of at most 120 months under a sheet of yields, whose factors reach as far as its months do if it has a balance
module _ (yields : List ℕ) (longest balance c months : ℕ) (months-le : months ≤ months_limit) (reach : 0 < balance → months ≤ longest) where
  price-is : (ρ : Rounding) (scenario : ℕ) → scenario < 7 → 0 < balance
      → tabled_price ρ (interest_by ρ c) months (factors_by ρ yields longest) scenario ≡ price_by ρ c months (sheet_yield yields scenario)
  unfolding tabled_price price_by
  price-is ρ scenario hs pos =
      discounted-ext ρ (flow_by ρ c months) (factor_in (factors_by ρ yields longest) scenario) (discount_factor_by ρ (sheet_yield yields scenario)) months
      (λ t l. factor-is ρ yields longest scenario t hs (lt_of_lt_of_le l months-le) (lt_of_lt_of_le l (reach pos)))

  -- and so the value
  value-is : (ρ : Rounding) (scenario : ℕ) → scenario < 7
      → worth_by ρ balance (tabled_price ρ (interest_by ρ c) months (factors_by ρ yields longest) scenario) ≡ value_by ρ balance c months (sheet_yield yields scenario)
  unfolding value_by worth_by
  value-is ρ scenario hs =
      ⊎_elim (λ e. rw e (quotient-zero ρ _ value_scale (lit< tt) ∙ sym (quotient-zero ρ _ value_scale (lit< tt))))
      (λ pos. rw (price-is ρ scenario hs pos)) (eq-zero-or-pos balance)

  pub values-are : tabled_values balance c months (factors_by down yields longest) (factors_by up yields longest) ≡ values_by balance c months (sheet_yield yields)
  unfolding tabled_values values_by bounds_with bounds_by
  values-are = ap joined (table-ext 7 _ _ (λ s h. rw (value-is down s h, value-is up s h)))
