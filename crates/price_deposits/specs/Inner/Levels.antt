-- The months of a deposit by levels of tiers, and the multipliers of each level. Definitions only.
use Rattle.std.specs.Prelude.{ℕ, ◌*◌, ◌<◌, ◌≡◌, List}
use Rattle.withdrawal.specs.declared.WithdrawalTiers.{WithdrawalTiers}
use Rattle.withdrawal.specs.MonthSurvival.{account_of}
use Rattle.withdrawal.specs.Inner.TierArrays.{Usable}
use Rattle.pricing.specs.Scales.{coupon_growth}
use Rattle.price_multipliers.specs.declared.MonthMultipliers.{MonthMultipliers}
use Rattle.withdrawal_months.specs.Levels as months
use Rattle.price_deposits.specs.declared.Deposit.{Deposit}
use Rattle.price_deposits.specs.DepositTerms.{servicing_cost}

-- what is lent of tiers: their count, their edges in hundredths, and of their withdrawals, which are not lent, the survivals in billionths
pub record TiersLent (count : ℕ) (edges survivals : List ℕ) (retained : ℕ) : Type 0 where
  pub withdrawals : List ℕ
  pub otherwise : ℕ
  pub usable : Usable
      (record { count = count; edges = edges; withdrawals = withdrawals; survivals = survivals; otherwise = otherwise; retained = retained })

-- the tiers that it is lent of
abbrev pub lent_tiers : {count : ℕ} {edges survivals : List ℕ} {retained : ℕ} → TiersLent count edges survivals retained → WithdrawalTiers
lent_tiers {count} {edges} {survivals} {retained} t =
    record { count = count; edges = edges; withdrawals = t.withdrawals; survivals = survivals; otherwise = t.otherwise; retained = retained }

-- levels of all months before the last
abbrev pub Levelled : WithdrawalTiers → Deposit → List ℕ → ℕ → List (List ℕ) → Type 0
Levelled t d rates column levels =
    months.Levelled d.brokered d.coupon d.penalty d.months t rates column levels

-- the room for levels once a balance is valued: as it was for no balance; else the levels of the months before the last, and from the last on as it was
abbrev pub LevelsLeft : WithdrawalTiers → ℕ → Deposit → List ℕ → ℕ → List (List ℕ) → List (List ℕ) → Type 0
LevelsLeft t balance d rates column before after =
    (balance ≡ 0 → after ≡ before)
    × (0 < balance
    → Levelled t d rates column after × months.LeftBehind d.months before after)

-- multipliers of all levels that the account may have
abbrev pub Multiplied : WithdrawalTiers → Deposit → List MonthMultipliers → Type 0
Multiplied t d multipliers = months.Multiplied d.brokered (coupon_growth * d.coupon) (servicing_cost (account_of d.brokered)) t multipliers
