-- The discount factors of the months to 360: seven for each month, none above par, each that of the definitions. Assumes nothing.
use Prim.Native.Nat.{ℕ, suc, ◌+◌, ◌*◌, ◌-◌, ◌≤◌, ◌<◌}
use mathlib.Core.Path.{◌≡◌, refl, ◌∙◌}
use mathlib.Core.List.{List, []}
use native.Mathlib.Omega.{arith}
use lib.ListN.{length, get_or}
use Rattle.lists.specs.Runs.{written}
use Rattle.lists.specs.Tables.{table, joined}
use Rattle.lists.proofs.RunLaws.{Overwritten, overwritten-row, overwritten-all}
use Rattle.lists.proofs.TableLaws.{table-length, table-get_or, table-le, joined-get_or, joined-le}
use Rattle.form.specs.Shift.{shifted_rates, scenario_count}
use Rattle.pricing.specs.Scales.{par}
use Rattle.pricing.specs.Rounding.{Rounding}
use Rattle.pricing.specs.Run.{discount_factor_by}
use Rattle.pricing.specs.Inner.Multipliers.{discounts_by}
use Rattle.pricing.proofs.FlowWidthLaws.{discount-limit}
use Rattle.price_factors.specs.Inner.Factors.{factor_in, AtMostPar}
use Rattle.price_factors.proofs.FactorLaws.{shifted_at}
use Rattle.intangible.specs.RollingTerms.{last_month}
use Rattle.intangible_numbers.specs.Sheets.{yield_in, long_yield}
use Rattle.intangible_numbers.specs.Inner.Limits.{long_factors, sheets_of}
use Rattle.withdrawal.specs.Tiers.{TierTable}

module _ (ρ : Rounding) (yields long : List ℕ) where
  -- the factors of a month, counted from 0
  abbrev pub row_at : ℕ → List ℕ
  row_at month = discounts_by ρ (shifted_rates (yield_in yields long month)) (suc month)

  row-length : (month : ℕ) → length (row_at month) ≡ scenario_count
  unfolding discounts_by
  row-length month = table-length 0 scenario_count _

  row-at-most : (month i : ℕ) → get_or (row_at month) i 0 ≤ par
  unfolding discounts_by
  row-at-most month = table-le 0 scenario_count _ par (λ i l u. discount-limit _ (suc month) ρ)

  pub long-at-most-par : AtMostPar (long_factors ρ yields long)
  unfolding long_factors
  long-at-most-par = joined-le 0 last_month row_at par (λ month i l u. row-at-most month i)

  -- a table with the factors of some months, and of one month more
  abbrev pub Written : ℕ → List ℕ → List ℕ → Type 0
  Written month before factors = Overwritten (joined (table month row_at)) (scenario_count * month) before factors

  pub month-written : (month : ℕ) (before factors after : List ℕ) {rate : ℕ} → rate ≡ yield_in yields long month → scenario_count * (month + 1) ≤ length before
      → Written month before factors → after ≡ written factors (scenario_count * month) (discounts_by ρ (shifted_rates rate) (suc month)) → Written (month + 1) before after
  month-written month before factors after e h w a =
      rw (a, e)
      (overwritten-row [] row_at scenario_count row-length month (scenario_count * month) (scenario_count * (month + 1)) before factors (row_at month) w refl (omega arith) h)

  -- of all of them
  pub all-written : (month : ℕ) (before factors : List ℕ) → month ≡ last_month → length before ≤ scenario_count * last_month → Written month before factors
      → factors ≡ long_factors ρ yields long
  unfolding long_factors
  all-written month before factors e h w = overwritten-all _ _ _ _ w (rw e h) ∙ rw e

  -- the factor of scenario s and month t + 1 is the discount factor of the definitions
  pub long-factor-is : (rates shares : List ℕ) (tiers : TierTable) (scenario t : ℕ) → scenario < scenario_count → t < last_month
      → factor_in (long_factors ρ yields long) scenario (suc t) ≡ discount_factor_by ρ (long_yield (sheets_of yields long rates shares tiers) scenario) (suc t)
  unfolding factor_in long_factors discounts_by discount_factor_by long_yield
  long-factor-is rates shares tiers scenario t hs ht =
      let before : suc t - 1 ≡ t = omega arith in
      rw (before, joined-get_or scenario_count last_month row_at row-length t scenario 0 ht hs)
      (table-get_or scenario_count _ scenario 0 hs ∙ rw (shifted_at (yield_in yields long t) scenario hs))
