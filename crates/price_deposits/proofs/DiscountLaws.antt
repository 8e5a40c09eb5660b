-- Prices and values by tables of multipliers: a table that holds those of a list's factors gives what the list gives. Assumes nothing.
use Prim.Native.Nat.{ℕ, ◌+◌, ◌*◌, ◌<◌}
use mathlib.Core.Path.{◌≡◌, refl, sym, ap, ◌∙◌}
use mathlib.Core.List.{List}
use native.Mathlib.Omega.{arith}
use lib.ListN.{get_or}
use Rattle.lists.specs.Tables.{joined}
use Rattle.lists.proofs.TableLaws.{table-get_or, table-ext}
use Rattle.form.specs.Shift.{scenario_count}
use Rattle.withdrawal.specs.Tiers.{TierTable}
use Rattle.pricing.specs.Rounding.{Rounding, down, up}
use Rattle.pricing.specs.Run.{flow_by}
use Rattle.pricing.proofs.FlowWidthLaws.{discounted-ext}
use Rattle.price_multipliers.specs.Multipliers.{factor_of}
use Rattle.price_factors.specs.Inner.Factors.{factor_in}
use Rattle.price_multipliers.specs.Inner.Tables.{HoldsFactors, factors_of}
use Rattle.price_multipliers.proofs.TableLaws.{held-factor}
use Rattle.price_deposits.specs.declared.Deposit.{Deposit}
use Rattle.price_deposits.specs.DepositTerms.{terms_of}
use Rattle.price_deposits.specs.Inner.Prices.{tabled_price, shifted_path}
use Rattle.price_deposits.specs.Inner.Values.{tabled_value, value_bounds, tabled_values}
use Rattle.price_deposits.proofs.PriceLaws.{factor-in-suc}

module _ (ρ : Rounding) (factors discounts : List ℕ) (months : ℕ) (holds : HoldsFactors ρ months factors discounts) where
  -- the price of a term
  price-is : (tiers : TierTable) (d : Deposit) (rate : ℕ → ℕ) (scenario : ℕ) → d.months ≡ months → scenario < scenario_count
      → tabled_price ρ tiers d rate (factors_of ρ months discounts) scenario ≡ tabled_price ρ tiers d rate factors scenario
  unfolding tabled_price factors_of
  price-is tiers d rate scenario e hs =
      discounted-ext ρ (flow_by ρ (terms_of tiers d rate)) (factor_in (factors_of ρ months discounts) scenario) (factor_in factors scenario) d.months
      (λ t l. let h : scenario_count * t + scenario < scenario_count * months = omega (arith, l, hs, e) in
      factor-in-suc (factors_of ρ months discounts) scenario t
      ∙ table-get_or (scenario_count * months) (λ (i : ℕ). factor_of ρ (get_or discounts i 0)) (scenario_count * t + scenario) 0 h
      ∙ held-factor ρ factors discounts months holds (scenario_count * t + scenario) h
      ∙ sym (factor-in-suc factors scenario t))

-- the values by them
pub values-by : (tiers : TierTable) (balance : ℕ) (d : Deposit) (rates : List ℕ) (column : ℕ) (lower upper below above : List ℕ)
    → HoldsFactors down d.months lower below → HoldsFactors up d.months upper above
    → tabled_values tiers balance d rates column (factors_of down d.months below) (factors_of up d.months above)
    ≡ tabled_values tiers balance d rates column lower upper
unfolding tabled_values value_bounds tabled_value
values-by tiers balance d rates column lower upper below above hl hu =
    ap joined (table-ext scenario_count _ _
    (λ s h. rw (
      price-is down lower below d.months hl tiers d (shifted_path s rates column) s refl h,
      price-is up upper above d.months hu tiers d (shifted_path s rates column) s refl h,
    )))
