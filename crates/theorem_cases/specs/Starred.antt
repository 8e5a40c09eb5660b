-- The starred figures of document 01 (01:63-70), every one, as one statement about the definitions; coupons are in thousandths, gain and cost tenfold (02:CR 4). Definitions only.
use Rattle.std.specs.Prelude.{ℕ, ◌^◌, ◌<◌, ◌≡◌, Bool, true, false, [], ◌∷◌, pos, neg_ℤ}
use Rattle.shares.specs.Apportion.{apportion}
use Rattle.shares.specs.SubBalances.{account_parts}
use Rattle.withdrawal.specs.Gain.{gain, cost}
use Rattle.withdrawal.specs.Tiers.{house_tiers, annual_withdrawal}
use Rattle.withdrawal.specs.Survival.{survival}
use Rattle.pricing.specs.Terms.{Terms}
use Rattle.pricing.specs.Rounding.{down, up}
use Rattle.pricing.specs.Run.{price_by, value_by}
use Rattle.price_deposits.specs.DepositTerms.{terms_of}

-- one yield, or one retail rate, in every month
unfoldable pub flat : ℕ → ℕ → ℕ
flat z month = z

-- the terms of a deposit with coupon c in thousandths, penalty p, retail rate r and T months, under the house's tiers
unfoldable pub house_terms : Bool → (c p r T : ℕ) → Terms
house_terms is_brokered c p r T = terms_of house_tiers (record { brokered = is_brokered; coupon = c; penalty = p; months = T }) (flat r)

pub record StarredFigures : Type 0 where
  -- balances 100, 50, 0, brokered 31
  pub brokered-shares : apportion 31 (100 ∷ 50 ∷ 0 ∷ []) ≡ 20 ∷ 11 ∷ 0 ∷ []
  -- the same with penalty 75
  pub penalty-shares : apportion 75 (account_parts (100 ∷ 50 ∷ 0 ∷ []) (20 ∷ 11 ∷ 0 ∷ [])) ≡ 40 ∷ 10 ∷ 19 ∷ 6 ∷ 0 ∷ 0 ∷ []
  -- balances 1, 1, 1, brokered 2
  pub equal-shares : apportion 2 (1 ∷ 1 ∷ 1 ∷ []) ≡ 0 ∷ 1 ∷ 1 ∷ []
  -- retail, T = 1, c = 6,000, z = 600, at any penalty and retail rate: the price, and the value of balance 1,000
  pub retail-lower-price : (p r : ℕ) → price_by down (house_terms false 6000 p r 1) (flat 600) ≡ 1000174128
  pub retail-upper-price : (p r : ℕ) → price_by up (house_terms false 6000 p r 1) (flat 600) ≡ 1000174130
  pub retail-lower-value : (p r : ℕ) → value_by down 1000 (house_terms false 6000 p r 1) (flat 600) ≡ 1000174
  pub retail-upper-value : (p r : ℕ) → value_by up 1000 (house_terms false 6000 p r 1) (flat 600) ≡ 1000175
  -- brokered, T = 2, c = 6,000, z = 0, p = 0: withdrawn at r = 700, not at r = 600
  pub withdrawn-lower-price : price_by down (house_terms true 6000 0 700 2) (flat 0) ≡ 1005044095
  pub withdrawn-upper-price : price_by up (house_terms true 6000 0 700 2) (flat 0) ≡ 1005044095
  pub kept-lower-price : price_by down (house_terms true 6000 0 600 2) (flat 0) ≡ 1010063095
  pub kept-upper-price : price_by up (house_terms true 6000 0 600 2) (flat 0) ≡ 1010063095
  -- r = 700, p = 300, c = 6,000, n = 1
  pub negative-gain : gain 6000 300 700 1 ≡ neg_ℤ (pos 133260000000)
  -- p = 0, c = 6,000, at any number of months left: r = 600 and r = 599
  pub edge-reached : (n : ℕ) → 0 < n → annual_withdrawal house_tiers (gain 6000 0 600 n) (cost 6000 n) ≡ 130
  pub edge-missed : (n : ℕ) → 0 < n → annual_withdrawal house_tiers (gain 6000 0 599 n) (cost 6000 n) ≡ 75
  -- w = 0
  pub nothing-withdrawn : survival 0 ≡ 10 ^ 9
