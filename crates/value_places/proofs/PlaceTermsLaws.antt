-- The deposit at each place of an accepted filing is within its limits. Assumes nothing.
use Prim.Native.Nat.{ℕ, ◌/◌, ◌≤◌, ◌<◌, zero-le}
use native.Mathlib.Omega.{arith}
use Rattle.lists.proofs.TestLaws.{either}
use Rattle.form.specs.Cells.{position_at}
use Rattle.form.specs.Limits.{penalty_limit}
use Rattle.filing_contents.specs.Contents.{Contents}
use Rattle.filing_contents.specs.Valid.{Valid}
use Rattle.shares.specs.Places.{place_at}
use Rattle.form.specs.PlaceOrder.{position_of, with_penalty, sub_balance_count}
use Rattle.shares.specs.SubBalances.{coupon_at, months_at, penalty_at}
use Rattle.filing_cells.proofs.SumLaws.{column-range}
use Rattle.price_deposits.specs.Inner.Prices.{DepositLimits}
use Rattle.value_places.specs.PlaceTerms.{deposit_at}

module _ (k : Contents) (v : Valid k) (place : ℕ) (h : place < sub_balance_count) where
  -- the penalty is its column's, or 0
  pub penalty-le : penalty_at k.cells place ≤ penalty_limit
  unfolding penalty_at position_of
  penalty-le =
      let range = column-range (place / 4) (omega arith) in
      either (λ (p : ℕ). p ≤ penalty_limit) (with_penalty place) (v.of-cells.penalty-limit (position_at (place / 4)).column range.0 range.1) zero-le

  pub deposit-limits : DepositLimits (deposit_at place (place_at k.cells place))
  unfolding deposit_at place_at coupon_at months_at position_of
  deposit-limits =
      record {
        coupon-le = v.of-cells.coupon-limit (place / 4) (omega arith);
        penalty-le = penalty-le;
        months-le = v.of-cells.months-limit (place / 4) (omega arith);
      }
