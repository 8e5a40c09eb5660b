-- A row of a place as the code makes it. Assumes nothing.
use Prim.Native.Nat.{ℕ}
use mathlib.Core.Path.{◌≡◌, ap}
use mathlib.Core.List.{List, ◌∷◌, append-nil}
use lib.ListN.{length, replicate}
use Rattle.lists.specs.Runs.{written}
use Rattle.form.specs.declared.sub_balances.SubBalance.{SubBalance}
use Rattle.form.specs.PlaceOrder.{position_of}
use Rattle.form.specs.Counts.{place_value_count, place_number_count}
use Rattle.withdrawal.specs.Tiers.{TierTable}
use Rattle.price_deposits.proofs.ValueLaws.{values_length, no-values}
use Rattle.value_places.specs.PlaceTerms.{deposit_at}
use Rattle.value_places.specs.Inner.PlaceRows.{tabled_held, row_of}

-- fourteen values written behind a balance
pub row_written : (balance : ℕ) (values : List ℕ) → length values ≡ place_value_count → written (replicate place_number_count balance) 1 values ≡ balance ∷ values
unfolding written
row_written balance values e = rw e (ap (λ (l : List ℕ). balance ∷ l) (append-nil values))

-- a place has fourteen values
pub tabled-length : (held : SubBalance) (place : ℕ) (rates : List ℕ) (tiers : TierTable) (lower upper : List ℕ)
    → length (tabled_held held place rates tiers lower upper) ≡ place_value_count
unfolding tabled_held
tabled-length held place rates tiers lower upper = values_length _ _ _ _ _ _ _

-- the row of a place without a balance
pub no_row : (held : SubBalance) (place : ℕ) (rates : List ℕ) (tiers : TierTable) (lower upper : List ℕ)
    → held.balance ≡ 0 → replicate place_number_count 0 ≡ row_of held place rates tiers lower upper
unfolding row_of tabled_held deposit_at
no_row held place rates tiers lower upper e = rw e (ap (λ (l : List ℕ). 0 ∷ l) (no-values tiers (deposit_at place held) rates (position_of place).column lower upper))
