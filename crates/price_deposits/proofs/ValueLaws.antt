-- The values of a balance: with the discount factors of a sheet they are the values of the definitions. Assumes nothing.
use Prim.Native.Nat.{ℕ, ◌≤◌, ◌<◌}
use mathlib.Core.Path.{◌≡◌, refl, ap, sym, ◌∙◌}
use mathlib.Core.Logic.{⊎_elim}
use mathlib.Core.List.{List, [], ◌∷◌}
use native.Mathlib.Nat.{eq-zero-or-pos, lt_of_lt_of_le}
use lib.Dec.{lit<}
use lib.ListN.{length, replicate}
use Rattle.lists.specs.Tables.{table_from, table, joined}
use Rattle.lists.proofs.TableLaws.{table-ext, joined_length}
use Rattle.form.specs.Limits.{months_limit}
use Rattle.form.specs.Shift.{scenario_count}
use Rattle.form.specs.Counts.{place_value_count}
use Rattle.withdrawal.specs.Tiers.{TierTable}
use Rattle.pricing.specs.Scales.{value_scale}
use Rattle.pricing.specs.Rounding.{Rounding, down, up}
use Rattle.pricing.specs.Run.{flow_by, discount_factor_by, price_by, worth_by, value_by}
use Rattle.pricing.proofs.RoundingLaws.{quotient-zero}
use Rattle.pricing.proofs.FlowWidthLaws.{discounted-ext}
use Rattle.price_deposits.specs.declared.Deposit.{Deposit}
use Rattle.price_factors.specs.Inner.Factors.{sheet_yield, factors_by, factor_in}
use Rattle.price_deposits.specs.DepositTerms.{terms_of}
use Rattle.price_deposits.specs.Inner.Prices.{tabled_price, shifted_path}
use Rattle.price_deposits.specs.Inner.Values.{tabled_value, value_bounds, tabled_values}
use Rattle.price_factors.proofs.FactorLaws.{factor-is}

-- of a scenario there are two values, and fourteen of all
pub bounds-length : (tiers : TierTable) (balance : ℕ) (d : Deposit) (rate : ℕ → ℕ) (lower upper : List ℕ) (scenario : ℕ)
    → length (value_bounds tiers balance d rate lower upper scenario) ≡ 2
unfolding value_bounds
bounds-length tiers balance d rate lower upper scenario = refl

pub values_length : (tiers : TierTable) (balance : ℕ) (d : Deposit) (rates : List ℕ) (column : ℕ) (lower upper : List ℕ)
    → length (tabled_values tiers balance d rates column lower upper) ≡ place_value_count
unfolding tabled_values
values_length tiers balance d rates column lower upper =
    joined_length 2 0 scenario_count _ (λ s. bounds-length tiers balance d (shifted_path s rates column) lower upper s)

-- the values of a zero balance
pub no-values : (tiers : TierTable) (d : Deposit) (rates : List ℕ) (column : ℕ) (lower upper : List ℕ)
    → replicate place_value_count 0 ≡ tabled_values tiers 0 d rates column lower upper
unfolding tabled_values value_bounds tabled_value table_from joined
no-values tiers d rates column lower upper =
    ap joined (table-ext scenario_count (λ (s : ℕ). 0 ∷ 0 ∷ []) (λ (s : ℕ). value_bounds tiers 0 d (shifted_path s rates column) lower upper s)
    (λ s h. rw (quotient-zero down _ value_scale (lit< tt), quotient-zero up _ value_scale (lit< tt))))

-- a deposit of at most 120 months under a sheet of yields, whose factors reach as far as its months do if it has a balance
module _ (tiers : TierTable) (yields : List ℕ) (longest balance : ℕ) (d : Deposit) (rates : List ℕ) (column : ℕ) (months-le : d.months ≤ months_limit)
    (reach : 0 < balance → d.months ≤ longest) where
  -- the price by the list is the price by the yields
  price-is : (ρ : Rounding) (scenario : ℕ) → scenario < scenario_count → 0 < balance
      → tabled_price ρ tiers d (shifted_path scenario rates column) (factors_by ρ yields longest) scenario
      ≡ price_by ρ (terms_of tiers d (shifted_path scenario rates column)) (sheet_yield yields scenario)
  unfolding tabled_price price_by terms_of
  price-is ρ scenario hs pos =
      discounted-ext ρ (flow_by ρ (terms_of tiers d (shifted_path scenario rates column))) (factor_in (factors_by ρ yields longest) scenario)
      (discount_factor_by ρ (sheet_yield yields scenario)) d.months
      (λ t l. factor-is ρ yields longest scenario t hs (lt_of_lt_of_le l months-le) (lt_of_lt_of_le l (reach pos)))

  -- and so the value
  value-is : (ρ : Rounding) (scenario : ℕ) → scenario < scenario_count
      → tabled_value ρ tiers balance d (shifted_path scenario rates column) (factors_by ρ yields longest) scenario
      ≡ value_by ρ balance (terms_of tiers d (shifted_path scenario rates column)) (sheet_yield yields scenario)
  unfolding tabled_value value_by worth_by
  value-is ρ scenario hs =
      ⊎_elim (λ e. rw e (quotient-zero ρ _ value_scale (lit< tt) ∙ sym (quotient-zero ρ _ value_scale (lit< tt))))
      (λ pos. rw (price-is ρ scenario hs pos)) (eq-zero-or-pos balance)

  -- lower and upper value in each scenario
  pub values-are : tabled_values tiers balance d rates column (factors_by down yields longest) (factors_by up yields longest)
      ≡ joined (table scenario_count (λ (s : ℕ). value_by down balance (terms_of tiers d (shifted_path s rates column)) (sheet_yield yields s)
      ∷ value_by up balance (terms_of tiers d (shifted_path s rates column)) (sheet_yield yields s) ∷ []))
  unfolding tabled_values value_bounds
  values-are = ap joined (table-ext scenario_count _ _ (λ s h. rw (value-is down s h, value-is up s h)))
