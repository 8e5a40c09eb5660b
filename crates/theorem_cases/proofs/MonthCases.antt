-- Closed cases of the months left, n = T - t (01:49), so that a wrong clause of a definition breaks a case. At coupon 600 thousandths, penalty 300 and retail
-- rate 200 a brokered deposit is withdrawn with two months left, as 26,328 > 14,400, and kept with one, as 2,364 ≤ 7,200, in millions. Each is computed.
-- Assumes nothing.
use Prim.Native.Nat.{ℕ}
use mathlib.Core.Path.{◌≡◌, refl}
use mathlib.Core.Bool.{true}
use mathlib.Core.List.{[], ◌∷◌}
use Rattle.withdrawal.specs.Gain.{gain, cost, at_most}
use Rattle.withdrawal.specs.Tiers.{house_tiers}
use Rattle.withdrawal.specs.MonthSurvival.{brokered, account_of, early_survival, month_survival}
use Rattle.pricing.specs.Rounding.{down, up, quotient}
use Rattle.pricing.specs.Run.{balance_by, outflow_by, flow_by, discount_by, discount_factor_by, discounted_sum, price_by}
use Rattle.price_deposits.specs.DepositTerms.{servicing_cost, terms_of}
use Rattle.theorem_cases.specs.Starred.{house_terms, flat}

-- q of each month of two and of three, billionths
abbrev q : ℕ → ℕ → ℕ
q T t = month_survival house_tiers brokered 600 300 200 T t

months-hold : q 2 1 ∷ q 2 2 ∷ q 3 1 ∷ q 3 2 ∷ q 3 3 ∷ [] ≡ 1000000000 ∷ 1000000000 ∷ 0 ∷ 1000000000 ∷ 1000000000 ∷ []
unfolding gain cost at_most early_survival month_survival
months-hold = refl

-- the prices at yield 0. Two months: servicing of 19,000 and 19,009.5, and the balance grown twice by a 2,000th. Three: all but a month's interest of 500,000
-- goes in month 1
prices-hold : price_by down (house_terms true 600 300 200 2) (flat 0)
    ∷ price_by up (house_terms true 600 300 200 2) (flat 0)
    ∷ price_by down (house_terms true 600 300 200 3) (flat 0)
    ∷ price_by up (house_terms true 600 300 200 3) (flat 0)
    ∷ []
    ≡ 1001038259 ∷ 1001038260 ∷ 1000519518 ∷ 1000519521 ∷ []
unfolding gain cost at_most early_survival month_survival quotient balance_by outflow_by flow_by discount_by discount_factor_by discounted_sum price_by account_of servicing_cost terms_of house_terms flat
prices-hold = refl
