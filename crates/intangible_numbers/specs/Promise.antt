-- What holds of a list that begins with the 126 numbers of the intangible (02:CR 9). Definitions only.
-- Numbers are in millionths of the opening balance; a scenario is one of 0 to 6, a cell one of the nine positions, 0 to 8.
use Rattle.std.specs.Prelude.{ℕ, ◌+◌, ◌*◌, ◌≤◌, ◌<◌, ◌≡◌, List, ℤ, pos, ◌+ℤ◌, get_or, ◌≤ℤ◌}
use Rattle.fraction.specs.Signed.{SignedEncloses}
use Rattle.form.specs.Cells.{position_at}
use Rattle.form.specs.Counts.{place_value_count}
use Rattle.form.specs.Limits.{coupon_limit, months_limit, rate_limit}
use Rattle.form.specs.Shift.{scenario_count}
use Rattle.filing_cells.specs.Balances.{cell_in}
use Rattle.intangible.specs.RollingTerms.{share_scale}
use Rattle.intangible.specs.Bounded.{width_limit}
use Rattle.intangible_numbers.specs.Sheets.{RollingSheets}
use Rattle.intangible_numbers.specs.Numbers.{position_count, balance_of, exact_at}

-- read off the list: lower and upper of a cell in a scenario
unfoldable pub lower_in : List ℤ → ℕ → ℕ → ℤ
lower_in list scenario i = get_or list (place_value_count * i + 2 * scenario) (pos 0)

unfoldable pub upper_in : List ℤ → ℕ → ℕ → ℤ
upper_in list scenario i = get_or list (place_value_count * i + (2 * scenario + 1)) (pos 0)

-- what the width rests on: coupons, months, rates and shares within their limits
pub record ValidRolling (cells : List ℕ) (x : RollingSheets) : Type 0 where
  pub coupon-limit : (i : ℕ) → i < position_count → cell_in cells (position_at i).coupon ≤ coupon_limit
  pub months-limit : (i : ℕ) → i < position_count → cell_in cells (position_at i).months ≤ months_limit
  pub months-pos : (i : ℕ) → i < position_count → 0 < balance_of cells i → 0 < cell_in cells (position_at i).months
  pub rate-limit : (n : ℕ) → get_or x.rates n 0 ≤ rate_limit
  pub share-limit : (n : ℕ) → get_or x.shares n 0 ≤ share_scale

pub record EnclosedIntangible (cells : List ℕ) (x : RollingSheets) (list : List ℤ) : Type 0 where
  -- lower never above and upper never below the exact figure
  pub intangible-encloses : (scenario i : ℕ) → scenario < scenario_count → i < position_count
      → SignedEncloses (lower_in list scenario i) (exact_at cells x scenario i) (upper_in list scenario i)
  -- upper less lower
  pub intangible-width : (scenario i : ℕ) → scenario < scenario_count → i < position_count
      → upper_in list scenario i ≤ℤ (lower_in list scenario i +ℤ pos width_limit)
  -- a cell with balance 0 gives 0 twice
  pub no-balance : (scenario i : ℕ) → scenario < scenario_count → i < position_count → balance_of cells i ≡ 0
      → (lower_in list scenario i ≡ pos 0) × (upper_in list scenario i ≡ pos 0)
