-- What the certificates of a position add up to (02:CR 5). Definitions only.
use Rattle.std.specs.Prelude.{ℕ, ◌*◌, Bool, List, eqb}
use Rattle.lists.specs.Sums.{sum_where}
use Rattle.lists.specs.Tables.{table}
use Rattle.certificate_calendar.specs.declared.Date.{Date}
use Rattle.certificate_terms.specs.declared.Certificate.{Certificate}
use Rattle.certificate_terms.specs.Terms.{certificate_at, months_remaining, position_of}
use Rattle.certificate_cells.specs.declared.filled_cells.Totals.{Totals}

-- certificate k stands at index i of the nine positions
unfoldable pub stands_at : Date → List ℕ → ℕ → ℕ → Bool
stands_at valuation s i k = eqb (position_of valuation (certificate_at s k)) i

-- the sum of an amount of each certificate at index i, over the first n certificates
unfoldable pub position_sum : Date → List ℕ → (Certificate → ℕ) → ℕ → ℕ → ℕ
position_sum valuation s amount i n = sum_where (stands_at valuation s i) (λ (k : ℕ). amount (certificate_at s k)) n

-- a certificate's balance, thousands of dollars, and its coupon and remaining months weighted by it
abbrev pub balance_of : Certificate → ℕ
balance_of c = c.balance

abbrev pub weighted_coupon : Certificate → ℕ
weighted_coupon c = c.balance * c.coupon

abbrev pub weighted_months : Date → Certificate → ℕ
weighted_months valuation c = c.balance * months_remaining valuation c

-- the sums of the nine positions over the first n certificates: balances, and coupons and remaining months weighted by them
unfoldable pub totals_of : Date → List ℕ → ℕ → Totals
totals_of valuation s n =
    record {
      balance = table 9 (λ (i : ℕ). position_sum valuation s balance_of i n);
      coupon = table 9 (λ (i : ℕ). position_sum valuation s weighted_coupon i n);
      months = table 9 (λ (i : ℕ). position_sum valuation s (weighted_months valuation) i n);
    }
