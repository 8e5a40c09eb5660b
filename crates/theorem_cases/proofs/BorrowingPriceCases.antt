-- Closed cases of a borrowing's price and value (02:CR 8), exact and in whole numbers, so that a wrong clause of a definition breaks a case. Each is computed.
-- Assumes nothing.
use Prim.Native.Nat.{ℕ, ◌*◌, ◌^◌}
use mathlib.Core.Path.{◌≡◌, refl}
use mathlib.Core.List.{List, [], ◌∷◌}
use Rattle.lists.specs.Tables.{table_from, joined}
use Rattle.fraction.specs.Fraction.{Fraction, whole, scaled, product, plus}
use Rattle.pricing.specs.Exact.{exact_discount, exact_discount_factor, exact_discounted, exact_worth}
use Rattle.pricing.specs.Rounding.{down, up, quotient}
use Rattle.pricing.specs.Run.{discount_by, discount_factor_by, discounted_sum, worth_by}
use Rattle.borrowing_prices.specs.Exact.{exact_interest, exact_flow, exact_price, exact_value}
use Rattle.borrowing_prices.specs.Run.{interest_by, flow_with, price_by, value_by, bounds_by, values_by}
use Rattle.theorem_cases.specs.Starred.{flat}

-- a fraction is n / d
abbrev Is : Fraction → ℕ → ℕ → Type 0
Is x n d = x.numerator * d ≡ n * x.denominator

-- yields of 600 in month 1 and 1,200 in month 2
abbrev rising : ℕ → ℕ
rising t = 600 * t

-- lower and upper price in billionths, with the coupon, the months and the yields
abbrev prices : ℕ → ℕ → (ℕ → ℕ) → List ℕ
prices c months z = price_by down c months z ∷ price_by up c months z ∷ []

-- One month, coupon and yield 600: interest 5,000,000; 1,005,000,000 × 120,000 / 120,600 = 10^9. df is 995,024,875.6..: the products are
-- 999,999,999.3.. and 1,000,000,000.3.., rounded down and up
par-price : Is (exact_price 600 1 (flat 600)) (10 ^ 9) 1
unfolding whole scaled product plus exact_discount exact_discount_factor exact_discounted exact_interest exact_flow exact_price flat
par-price = refl

par-run : prices 600 1 (flat 600) ≡ 999999999 ∷ 1000000001 ∷ []
unfolding quotient discount_by discount_factor_by discounted_sum interest_by flow_with price_by flat
par-run = refl

-- Coupon 1, yield 0: interest 8,333 1/3, rounded once each month to 8,333 and 8,334; 10^9 is added once, in the last month, as it is
interest-price : Is (exact_price 1 1 (flat 0)) 3000025000 3 × Is (exact_price 1 2 (flat 0)) 3000050000 3
unfolding whole scaled product plus exact_discount exact_discount_factor exact_discounted exact_interest exact_flow exact_price flat
interest-price = (refl, refl)

interest-run : prices 1 1 (flat 0) ≡ 1000008333 ∷ 1000008334 ∷ []
unfolding quotient discount_by discount_factor_by discounted_sum interest_by flow_with price_by flat
interest-run = refl

interest-run-twice : prices 1 2 (flat 0) ≡ 1000016666 ∷ 1000016668 ∷ []
unfolding quotient discount_by discount_factor_by discounted_sum interest_by flow_with price_by flat
interest-run-twice = refl

-- Two months, coupon 600, rising yields: 5,000,000 × 200 / 201 + 1,005,000,000 × (100 / 101)^2. Month 2's own yield stands in both of its factors, each
-- rounded: 990,099,009 and 980,296,048 down, 990,099,010 and 980,296,050 up. The products are 4,975,124.3.. and 985,197,528.2.. down, 4,975,124.3.. and
-- 985,197,530.2.. up
two-months-price : Is (exact_price 600 2 rising) 2030251000000000 2050401
unfolding whole scaled product plus exact_discount exact_discount_factor exact_discounted exact_interest exact_flow exact_price
two-months-price = refl

two-months-run : prices 600 2 rising ≡ 990172652 ∷ 990172656 ∷ []
unfolding quotient discount_by discount_factor_by discounted_sum interest_by flow_with price_by
two-months-run = refl

-- the value of balance 1,000: the price over 1,000, dollars; of the price 10^9 the bounds are 999,999.999 and 1,000,000.001, rounded down and up
par-value : Is (exact_value 1000 600 1 (flat 600)) (10 ^ 6) 1
unfolding whole scaled product plus exact_discount exact_discount_factor exact_discounted exact_worth exact_interest exact_flow exact_price exact_value flat
par-value = refl

par-value-run : value_by down 1000 600 1 (flat 600) ∷ value_by up 1000 600 1 (flat 600) ∷ [] ≡ 999999 ∷ 1000001 ∷ []
unfolding quotient discount_by discount_factor_by discounted_sum worth_by interest_by flow_with price_by value_by flat
par-value-run = refl

-- one month without a coupon, yields of 0, 100, .., 600 in the seven scenarios: 10^6 × 1,200 / (1,200 + scenario), lower then upper, scenario by scenario
scenarios-run : values_by 1000 0 1 (λ (scenario t : ℕ). 100 * scenario)
    ≡ 1000000 ∷ 1000000 ∷ 999167 ∷ 999168 ∷ 998336 ∷ 998337 ∷ 997506 ∷ 997507 ∷ 996677 ∷ 996678 ∷ 995850 ∷ 995851 ∷ 995024 ∷ 995025 ∷ []
unfolding table_from joined quotient discount_by discount_factor_by discounted_sum worth_by interest_by flow_with price_by value_by bounds_by values_by
scenarios-run = refl
