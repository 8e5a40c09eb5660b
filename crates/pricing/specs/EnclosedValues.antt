-- What holds of the values of some positions in the seven scenarios (01:58-59), whatever the positions are: read off a list, a book or anything else
-- that gives each its balance, thousands of dollars, and its lower and upper value in a scenario, dollars. Definitions only.
use Rattle.std.specs.Prelude.{ℕ, ◌+◌, ◌*◌, ◌≤◌, ◌<◌, Bool}
use Rattle.lists.specs.Sums.{sum_where, everywhere}
use Rattle.fraction.specs.Fraction.{Fraction, Encloses}
use Rattle.fraction.specs.Totals.{total_where}
use Rattle.form.specs.Shift.{scenario_count}

-- `count` positions with their exact values; `total` is the sum of their balances and `allowance` 500 for each
pub record EnclosedValues (count : ℕ) (balance : ℕ → ℕ) (lower upper : ℕ → ℕ → ℕ) (exact : ℕ → ℕ → Fraction) (total allowance : ℕ) : Type 0 where
  -- lower never above and upper never below the exact value, and the width of each
  pub value-encloses : (scenario place : ℕ) → scenario < scenario_count → place < count
      → Encloses (lower scenario place) (exact scenario place) (upper scenario place)
  pub value-width : (scenario place : ℕ) → scenario < scenario_count → place < count
      → 250 * upper scenario place ≤ 250 * lower scenario place + (balance place + 500)
  -- the width over all of them
  pub total-width : (scenario : ℕ) → scenario < scenario_count
      → 250 * sum_where everywhere (upper scenario) count ≤ 250 * sum_where everywhere (lower scenario) count + (total + allowance)

-- the lower and the upper total of each scenario enclose the exact total over the positions that pass a test
abbrev pub EnclosedTotal : (ℕ → Bool) → ℕ → (ℕ → ℕ → Fraction) → (ℕ → ℕ) → (ℕ → ℕ) → Type 0
EnclosedTotal test count exact lower upper =
    (scenario : ℕ) → scenario < scenario_count → Encloses (lower scenario) (total_where test (exact scenario) count) (upper scenario)
