-- A place that holds nothing, and what stands at a place of a list of places. Definitions only.
use Rattle.std.specs.Prelude.{ℕ, List, [], get_or, replicate}
use Rattle.form.specs.declared.sub_balances.SubBalance.{SubBalance}

-- the values of a place that is not valued (02:CR 7): lower and upper in each of the seven scenarios, dollars
abbrev pub no_values : List ℕ
no_values = replicate 14 0

-- a place that holds nothing
abbrev pub no_place : SubBalance
no_place = record { balance = 0; coupon = 0; remaining_months = 0; penalty = 0; values = no_values }

-- what stands at a place of a list of places; past its last place everything is 0 or empty
abbrev pub place_in : List SubBalance → ℕ → SubBalance
place_in ps place = get_or ps place (record { balance = 0; coupon = 0; remaining_months = 0; penalty = 0; values = [] })
