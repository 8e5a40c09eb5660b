-- The discount factors under which a book stands are those that the opening fills in. Assumes nothing.
use Prim.Native.Nat.{ℕ, suc, ◌-◌, ◌<◌}
use native.Mathlib.Omega.{arith}
use mathlib.Core.Path.{◌≡◌, ap}
use borrow.Author.Tests.{lt-ltb}
use lib.ListN.{get_or}
use Rattle.lists.specs.Tables.{table, joined}
use Rattle.lists.proofs.TableLaws.{table-ext, table-get_or}
use Rattle.form.specs.Limits.{months_limit}
use Rattle.form.specs.Shift.{scenario_count, shifted_rate, shifted_rates}
use Rattle.filing_contents.specs.Contents.{Contents, cd_yield}
use Rattle.pricing.specs.Rounding.{Rounding}
use Rattle.pricing.specs.Run.{discount_by, discount_factor_by}
use Rattle.pricing.specs.Inner.Multipliers.{discounts_by}
use Rattle.price_factors.specs.Inner.Factors.{yield_factors, month_factors, factors_by}
use Rattle.value_places.specs.PlaceTerms.{month_yield}
use Rattle.book_promise.specs.Books.{filing_factors}

module _ (ρ : Rounding) (k : Contents) where
  -- the factor of a month, counted from 0, in a scenario
  factor-is : (month scenario : ℕ) → scenario < scenario_count
      → discount_factor_by ρ (month_yield k scenario) (suc month) ≡ discount_by ρ (get_or (shifted_rates (get_or k.yields month 0)) scenario 0) (suc month)
  unfolding discount_factor_by month_yield cd_yield shifted_rates
  factor-is month scenario h =
      let e : suc month - 1 ≡ month = omega arith in
      let yield = get_or k.yields month 0 in
      rw (e, table-get_or scenario_count (λ (number : ℕ). shifted_rate number yield) scenario 0 h)

  month-is : (month : ℕ) → month < months_limit
      → table scenario_count (λ (scenario : ℕ). discount_factor_by ρ (month_yield k scenario) (suc month)) ≡ month_factors ρ k.yields months_limit month
  unfolding month_factors yield_factors discounts_by
  month-is month h = rw (lt-ltb month months_limit h) (table-ext scenario_count _ _ (factor-is month))

  pub filing-factors : filing_factors ρ k ≡ factors_by ρ k.yields months_limit
  unfolding filing_factors factors_by
  filing-factors = ap joined (table-ext months_limit _ _ month-is)
