-- No number of a borrowing's row is above the limit of a value. Assumes nothing.
use Prim.Native.Nat.{ℕ, zero, suc, ◌*◌, ◌≤◌, ◌<◌, zero-le}
use native.Mathlib.Nat.{le_trans, mul-le-mul}
use native.Mathlib.Omega.{arith}
use mathlib.Core.List.{List}
use lib.Dec.{lit<, lit≤}
use lib.ListN.{get_or}
use Rattle.lists.proofs.TableLaws.{joined-le}
use Rattle.form.specs.Borrowings.{borrowing_count}
use Rattle.form.specs.Limits.{balance_limit, filed_coupon_limit, months_limit}
use Rattle.form.specs.Shift.{scenario_count}
use Rattle.pricing.specs.Scales.{value_scale}
use Rattle.pricing.specs.Rounding.{Rounding, down, up}
use Rattle.pricing.specs.Run.{discount_factor_by, worth_by}
use Rattle.pricing.proofs.RoundingLaws.{quotient_le}
use Rattle.pricing.proofs.FlowWidthLaws.{discount-limit, discounted-le-paid}
use Rattle.borrowing_prices.specs.Run.{interest_by, flow_by, price_by, value_by}
use Rattle.borrowing_prices.proofs.WidthLaws.{paid_limit, interest-limit, paid-limit}
use Rattle.borrowing_numbers.specs.Borrowed.{balance_of, coupon_of, months_of, borrowed_by}
use Rattle.borrowing_numbers.specs.Numbers.{bounds_of, borrowing_numbers}
use Rattle.borrowing_numbers.specs.Inner.Rows.{BorrowingLimits, value_limit}

-- a price is at most what is paid
price-le : (ρ : Rounding) (c months : ℕ) (z : ℕ → ℕ) → c ≤ filed_coupon_limit → months ≤ months_limit → price_by ρ c months z ≤ paid_limit
unfolding price_by discount_factor_by
price-le ρ c months z hc hm =
    le_trans (discounted-le-paid ρ (flow_by ρ c months) (discount_factor_by ρ z) (λ t. discount-limit (z t) t ρ) months)
    (paid-limit (interest_by ρ c) months months (interest-limit ρ c hc) hm (omega arith))

-- balance × price ≤ 10^9 × 2.5 × 10^9, over 10^6
value-le : (ρ : Rounding) (balance c months : ℕ) (z : ℕ → ℕ) → balance ≤ balance_limit → c ≤ filed_coupon_limit → months ≤ months_limit
    → value_by ρ balance c months z ≤ value_limit
unfolding value_by worth_by
value-le ρ balance c months z hb hc hm =
    quotient_le ρ (balance * price_by ρ c months z) value_scale value_limit (lit< tt) (le_trans (mul-le-mul hb (price-le ρ c months z hc hm)) (lit≤ tt))

module _ (cells : List ℕ) (z : ℕ → ℕ → ℕ) (limits : BorrowingLimits cells) (i : ℕ) (h : i < borrowing_count) where
  borrowed-le : (ρ : Rounding) (scenario : ℕ) → borrowed_by ρ cells z scenario i ≤ value_limit
  unfolding borrowed_by
  borrowed-le ρ scenario =
      value-le ρ (balance_of cells i) (coupon_of cells i) (months_of cells i) (z scenario) (limits.balance-le i h) (limits.coupon-le i h) (limits.months-le i h)

  bounds-le : (scenario r : ℕ) → get_or (bounds_of cells z i scenario) r 0 ≤ value_limit
  unfolding bounds_of
  bounds-le scenario zero = borrowed-le down scenario
  bounds-le scenario (suc zero) = borrowed-le up scenario
  bounds-le scenario (suc (suc r)) = zero-le

  pub row-le : (r : ℕ) → get_or (borrowing_numbers cells z i) r 0 ≤ value_limit
  unfolding borrowing_numbers
  row-le zero = le_trans (limits.balance-le i h) (lit≤ tt)
  row-le (suc r) = joined-le 0 scenario_count (bounds_of cells z i) value_limit (λ s k b p. bounds-le s k) r
