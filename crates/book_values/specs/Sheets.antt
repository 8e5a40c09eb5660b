-- The values of a place under the sheets and tiers that a book holds (02:CR 7). A book opened from a filing holds that filing's, which are within their
-- limits; under others the values are 0. Definitions only.
use Rattle.std.specs.Prelude.{ℕ, ◌+◌, ◌*◌, ◌-◌, Bool, cond, not, ◌&&◌, List, [], ◌∷◌, eqb, leb, ltb, length, get_or}
use Rattle.lists.specs.Tables.{table, joined, any_below}
use Rattle.form.specs.Limits.{rate_limit, tier_limit, withdrawal_limit}
use Rattle.form.specs.Shift.{scenario_count, shifted_rate, path_rate}
use Rattle.filing_contents.specs.declared.FiledTiers.{FiledTiers}
use Rattle.form.specs.declared.sub_balances.SubBalance.{SubBalance}
use Rattle.form.specs.PlaceOrder.{position_of}
use Rattle.form.specs.Places.{no_values}
use Rattle.form.specs.Counts.{factor_count}
use Rattle.pricing.specs.Scales.{par, value_scale}
use Rattle.pricing.specs.Terms.{Terms}
use Rattle.pricing.specs.Rounding.{Rounding, down, up, quotient}
use Rattle.pricing.specs.Run.{discounted_by}
use Rattle.withdrawal_filing.specs.FilingTiers.{tiers_of}
use Rattle.price_deposits.specs.DepositTerms.{terms_of}
use Rattle.value_places.specs.PlaceTerms.{deposit_at}

-- number i of a list is above a limit
unfoldable pub above_limit : ℕ → List ℕ → ℕ → Bool
above_limit limit numbers i = ltb limit (get_or numbers i 0)

-- no number of a list is above the limit
unfoldable pub none_above : ℕ → List ℕ → Bool
none_above limit numbers = not (any_below (above_limit limit numbers) (length numbers))

-- number i of a list is 0, and no number of the 840 of a table is
unfoldable pub is_zero : List ℕ → ℕ → Bool
is_zero numbers i = eqb (get_or numbers i 0) 0

unfoldable pub none_zero : List ℕ → Bool
none_zero numbers = not (any_below (is_zero numbers) factor_count)

-- edge i + 1 is not above edge i
unfoldable pub not_rising : List ℕ → ℕ → Bool
not_rising edges i = leb (get_or edges (i + 1) 0) (get_or edges i 0)

-- at most 16 tiers, whose edges rise and whose annual withdrawals are within the limit
unfoldable pub tiers_usable : FiledTiers → Bool
tiers_usable t =
    leb t.count tier_limit && (not (any_below (not_rising t.edges) (t.count - 1)) && none_above withdrawal_limit t.withdrawals)

-- the retail rates, the tiers and the discount factors are within their limits, and no upper factor is 0
unfoldable pub sheets_usable : List ℕ → FiledTiers → List ℕ → List ℕ → Bool
sheets_usable rates tiers lower upper = none_above rate_limit rates && (tiers_usable tiers && (none_above par lower && (none_above par upper && none_zero upper)))

-- the discount factor of a month, from 1 on, in a scenario, 0 to 6, from a list with seven for each month
unfoldable pub factor_at : List ℕ → ℕ → ℕ → ℕ
factor_at factors scenario month = get_or factors (scenario_count * (month - 1) + scenario) 0

-- the terms of what a place holds in a scenario under rates and tiers
unfoldable pub terms_under : List ℕ → FiledTiers → ℕ → SubBalance → ℕ → Terms
terms_under rates tiers place held scenario =
    terms_of (tiers_of tiers) (deposit_at place held) (λ (month : ℕ). shifted_rate scenario (path_rate rates (position_of place).column month))

-- its value at a rounding by discount factors, whole dollars (01:60)
unfoldable pub value_under : Rounding → List ℕ → FiledTiers → List ℕ → ℕ → SubBalance → ℕ → ℕ
value_under ρ rates tiers factors place held scenario =
    quotient ρ
    (held.balance * discounted_by ρ (terms_under rates tiers place held scenario) (factor_at factors scenario) held.remaining_months) value_scale

-- lower value by lower factors and upper value by upper factors, in a scenario and in each of the seven
unfoldable pub bounds_under : List ℕ → FiledTiers → List ℕ → List ℕ → ℕ → SubBalance → ℕ → List ℕ
bounds_under rates tiers lower upper place held scenario =
    value_under down rates tiers lower place held scenario ∷ value_under up rates tiers upper place held scenario ∷ []

unfoldable pub values_under : List ℕ → FiledTiers → List ℕ → List ℕ → ℕ → SubBalance → List ℕ
values_under rates tiers lower upper place held =
    cond (sheets_usable rates tiers lower upper) (joined (table scenario_count (bounds_under rates tiers lower upper place held))) no_values
