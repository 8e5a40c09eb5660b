-- The months that are walked by multipliers are the months of the run. Assumes nothing.
use Prim.Native.Nat.{ℕ, zero, suc, ◌+◌, ◌*◌, ◌≤◌, ◌<◌}
use mathlib.Core.Path.{◌≡◌, refl, sym, ap, ◌∙◌}
use mathlib.Core.List.{List}
use native.Mathlib.Nat.{le_refl, le_of_lt}
use native.Mathlib.Omega.{arith}
use lib.ListN.{get_or}
use Rattle.lists.proofs.TableLaws.{table-get_or, table-le}
use Rattle.form.specs.Shift.{scenario_count}
use Rattle.withdrawal.specs.declared.WithdrawalTiers.{WithdrawalTiers}
use Rattle.withdrawal.specs.MonthSurvival.{account_of, month_survival}
use Rattle.withdrawal.specs.Inner.TierArrays.{tier_table, Usable}
use Rattle.withdrawal.proofs.MonthSurvivalLaws.{month_survival-le}
use Rattle.price_multipliers.specs.declared.MonthMultipliers.{MonthMultipliers}
use Rattle.price_multipliers.specs.Multipliers.{multipliers_of, factor_of}
use Rattle.price_multipliers.proofs.StepLaws.{step_is, last-is, paid-pos}
use Rattle.pricing.specs.declared.Bounds.{Bounds}
use Rattle.pricing.specs.declared.Run.{Run}
use Rattle.pricing.specs.Scales.{par, coupon_growth, amount_limit}
use Rattle.pricing.specs.Rounding.{Rounding, down, up}
use Rattle.pricing.specs.Run.{balance_by, discounted_sum}
use Rattle.pricing.specs.Inner.Month.{run_by, Small}
use Rattle.price_deposits.specs.declared.Deposit.{Deposit}
use Rattle.price_deposits.specs.DepositTerms.{servicing_cost, terms_of}
use Rattle.price_factors.specs.Inner.Factors.{factor_in, AtMostPar}
use Rattle.price_deposits.specs.Inner.Prices.{tabled_price, tabled_prices, shifted_path, DepositLimits}
use Rattle.price_deposits.specs.Inner.Values.{tabled_value, value_bounds}
use Rattle.price_multipliers.specs.Inner.Tables.{factors_of, Discounting}
use Rattle.price_deposits.specs.Inner.Walked.{walked_prices, values_at, Priceable}
use Rattle.price_deposits.specs.Inner.Levels.{Levelled, Multiplied}
use Rattle.withdrawal_months.specs.Levels.{level_at, held_at}
use Rattle.price_months.specs.Walks.{walked_by, priced_by, Raised, Walkable}
use Rattle.price_deposits.proofs.TermsLaws.{servicing-pos}
use Rattle.price_deposits.proofs.LevelLaws.{level-within, level-at-le, multipliers-here}
use Rattle.price_deposits.proofs.PriceLaws.{tabled-price-limit, early-on, last_on, month-small, last-survival, last-price, no-price}

-- the multipliers of a month with some servicing cost
raised-of : (growth q : ℕ) {servicing : ℕ} → 0 < servicing → q ≤ par → Raised (multipliers_of growth servicing q)
unfolding multipliers_of
raised-of growth q {servicing} h l = record { paid-pos = paid-pos growth servicing q h l; carried-is = refl }

module _ (ρ : Rounding) (t : WithdrawalTiers) (d : Deposit) (rates : List ℕ) (column : ℕ) (multipliers : List MonthMultipliers) (levels : List (List ℕ))
    (discounts : List ℕ) (scenario : ℕ) (l : DepositLimits d) (u : Usable t) (levelled : Levelled t d rates column levels) (multiplied : Multiplied t d multipliers)
    (hs : scenario < scenario_count) (table_of : Discounting ρ d.months discounts) where
  -- the factors of the table, and the run of the definitions with them
  abbrev factors : List ℕ
  factors = factors_of ρ d.months discounts

  abbrev run : ℕ → Run
  run = run_by ρ (terms_of (tier_table t) d (shifted_path scenario rates column)) (factor_in factors scenario)

  -- what the table holds of a month's factor
  abbrev held : ℕ → ℕ
  held month = get_or discounts (scenario_count * month + scenario) 0

  index-lt : (month : ℕ) → month < d.months → scenario_count * month + scenario < scenario_count * d.months
  index-lt month h = omega (arith, h, hs)

  factor-here : (month : ℕ) → month < d.months → factor_of ρ (held month) ≡ get_or factors (scenario_count * month + scenario) 0
  unfolding factors_of
  factor-here month h = sym (table-get_or (scenario_count * d.months) (λ (i : ℕ). factor_of ρ (get_or discounts i 0)) (scenario_count * month + scenario) 0 (index-lt month h))

  within-par : AtMostPar factors
  unfolding factors_of
  within-par = table-le 0 (scenario_count * d.months) _ par (λ i g h. table_of.at-most-par i (omega arith))

  -- a month with a survival of the definitions: its sizes
  small : (month q : ℕ) → month < d.months
      → q ≡ month_survival (tier_table t) (account_of d.brokered) d.coupon d.penalty (shifted_path scenario rates column (suc month)) d.months (suc month)
      → Small (run month) (coupon_growth * d.coupon) (servicing_cost (account_of d.brokered)) q (factor_of ρ (held month))
  small month q h e =
      month-small ρ (tier_table t) d (shifted_path scenario rates column) factors scenario month refl refl e (factor-here month h) refl l within-par h

  -- the multipliers of a month
  here : (month : ℕ) → suc month < d.months
      → held_at multipliers (level_at levels month scenario)
      ≡ multipliers_of (coupon_growth * d.coupon) (servicing_cost (account_of d.brokered))
      (month_survival (tier_table t) (account_of d.brokered) d.coupon d.penalty (shifted_path scenario rates column (suc month)) d.months (suc month))
  here month h =
      multiplied (level_at levels month scenario) (level-within t d rates column levels scenario month u levelled hs h)
      ∙ multipliers-here t d rates column levels scenario month u levelled hs h l

  -- which are those of the upper run too
  raised-here : (month : ℕ) → suc month < d.months
      → Raised (held_at multipliers (level_at levels month scenario))
  raised-here month h =
      rw (here month h)
      (raised-of _ _ (servicing-pos (account_of d.brokered)) (month_survival-le (tier_table t) (account_of d.brokered) d.coupon d.penalty _ d.months (suc month)))

  -- after every number of months below all
  walked-is : (month : ℕ) → month < d.months → walked_by ρ multipliers levels discounts scenario month ≡ run month
  unfolding walked_by run_by balance_by discounted_sum
  walked-is zero h = refl
  walked-is (suc month) h =
      let before = le_of_lt h in
      rw (walked-is month before, here month h)
      (step_is ρ _ _ _ (held month) (run month) (table_of.are _ (index-lt month before)) (small month _ before refl)
      ∙ early-on ρ (tier_table t) d (shifted_path scenario rates column) factors scenario month refl refl refl (factor-here month before) refl h)

  -- the price after the last month, in which nothing is withdrawn early
  priced-at : (n : ℕ) → n ≡ d.months
      → priced_by ρ multipliers levels (multipliers_of (coupon_growth * d.coupon) (servicing_cost (account_of d.brokered)) par) discounts scenario n
      ≡ tabled_price ρ (tier_table t) d (shifted_path scenario rates column) factors scenario
  unfolding priced_by
  priced-at zero e = no-price ρ (tier_table t) d (shifted_path scenario rates column) factors scenario e
  priced-at (suc month) e =
      let within : month < d.months = omega (arith, e) in
      let all = last-survival (tier_table t) d (shifted_path scenario rates column) month e in
      rw (walked-is month within)
      (last-is ρ (coupon_growth * d.coupon) (servicing_cost (account_of d.brokered)) par (held month) (run month) (table_of.are _ (index-lt month within)) (small month par within all)
      ∙ ap (λ (r : Run). r.price) (last_on ρ (tier_table t) d (shifted_path scenario rates column) factors scenario month refl refl all (factor-here month within) refl e)
      ∙ last-price ρ (tier_table t) d (shifted_path scenario rates column) factors scenario month e)

  pub priced-is : priced_by ρ multipliers levels (multipliers_of (coupon_growth * d.coupon) (servicing_cost (account_of d.brokered)) par) discounts scenario d.months
      ≡ tabled_price ρ (tier_table t) d (shifted_path scenario rates column) factors scenario
  priced-is = priced-at d.months refl

  pub priced-le : tabled_price ρ (tier_table t) d (shifted_path scenario rates column) factors scenario ≤ amount_limit
  priced-le = tabled-price-limit ρ (tier_table t) d (shifted_path scenario rates column) factors scenario l within-par

  -- the walk stays in range: levels below their limit, each month's multiplier above 0, and the run's balances and prices within those of the run by the table
  pub walkable : Walkable ρ multipliers levels discounts scenario d.months
  walkable =
      record {
        level-le = λ month h. level-at-le t d rates column levels scenario month u levelled hs h;
        raised = raised-here;
        balance-le = λ month h. rw (walked-is month h) (small month _ h refl).balance-le;
        price-le = λ month h. rw (walked-is month h) (small month _ h refl).price-le;
      }

-- a deposit in a scenario, at both roundings
module _ (t : WithdrawalTiers) (d : Deposit) (rates : List ℕ) (column : ℕ) (multipliers : List MonthMultipliers) (levels : List (List ℕ))
    (discounts : Bounds (List ℕ)) (scenario : ℕ) (l : DepositLimits d) (u : Usable t) (levelled : Levelled t d rates column levels) (multiplied : Multiplied t d multipliers)
    (hs : scenario < scenario_count) (below : Discounting down d.months discounts.lower) (above : Discounting up d.months discounts.upper) {last : MonthMultipliers}
    (last-is : last ≡ multipliers_of (coupon_growth * d.coupon) (servicing_cost (account_of d.brokered)) par) where
  pub priceable : Priceable multipliers levels last discounts scenario d.months
  priceable =
      record {
        lower-walk = walkable down t d rates column multipliers levels discounts.lower scenario l u levelled multiplied hs below;
        upper-walk = walkable up t d rates column multipliers levels discounts.upper scenario l u levelled multiplied hs above;
        last-raised = rw last-is (raised-of (coupon_growth * d.coupon) par (servicing-pos (account_of d.brokered)) (le_refl par));
      }

  -- the prices that are walked are those of the definitions, within the limit
  prices-are : walked_prices multipliers levels last discounts scenario d.months
      ≡ tabled_prices (tier_table t) d (shifted_path scenario rates column) (factors_of down d.months discounts.lower) (factors_of up d.months discounts.upper) scenario
  unfolding walked_prices tabled_prices
  prices-are =
      rw (
        last-is,
        priced-is down t d rates column multipliers levels discounts.lower scenario l u levelled multiplied hs below,
        priced-is up t d rates column multipliers levels discounts.upper scenario l u levelled multiplied hs above,
      )

  pub prices-le : ((walked_prices multipliers levels last discounts scenario d.months).lower ≤ amount_limit)
      × ((walked_prices multipliers levels last discounts scenario d.months).upper ≤ amount_limit)
  unfolding tabled_prices
  prices-le =
      rw prices-are (
        priced-le down t d rates column multipliers levels discounts.lower scenario l u levelled multiplied hs below,
        priced-le up t d rates column multipliers levels discounts.upper scenario l u levelled multiplied hs above,
      )

  -- and so the values
  pub bounds-are : (balance : ℕ) → values_at balance (walked_prices multipliers levels last discounts scenario d.months)
      ≡ value_bounds (tier_table t) balance d (shifted_path scenario rates column) (factors_of down d.months discounts.lower) (factors_of up d.months discounts.upper) scenario
  unfolding values_at value_bounds tabled_value tabled_prices
  bounds-are balance = rw prices-are
