-- The borrowings among the cells of a filing (02:CR 8): what each says, its exact value and its value at a rounding. Definitions only.
-- z scenario month is the shifted LIBOR yield of a month, from 1 on, hundredths of a percent a year; a scenario is one of 0 to 6.
use Rattle.std.specs.Prelude.{ℕ, List}
use Rattle.fraction.specs.Fraction.{Fraction}
use Rattle.form.specs.Borrowings.{borrowing_at}
use Rattle.form.specs.Shift.{shifted_rate}
use Rattle.filing_cells.specs.Balances.{cell_in}
use Rattle.filing_contents.specs.Contents.{Contents, libor_yield}
use Rattle.pricing.specs.Rounding.{Rounding}
use Rattle.borrowing_prices.specs.Exact.{exact_value}
use Rattle.borrowing_prices.specs.Run.{value_by}

-- the LIBOR yield of a month in a scenario under what a filing says, hundredths of a percent a year
unfoldable pub libor_rate : Contents → ℕ → ℕ → ℕ
libor_rate k scenario month = shifted_rate scenario (libor_yield k month)

-- of the i-th borrowing, 0 to 23: its balance, thousands of dollars, its coupon (WAC), hundredths of a percent a year, and its months (WARM)
unfoldable pub balance_of : List ℕ → ℕ → ℕ
balance_of cells i = cell_in cells (borrowing_at i).balance

unfoldable pub coupon_of : List ℕ → ℕ → ℕ
coupon_of cells i = cell_in cells (borrowing_at i).coupon

unfoldable pub months_of : List ℕ → ℕ → ℕ
months_of cells i = cell_in cells (borrowing_at i).months

-- its exact value in a scenario, dollars
unfoldable pub exact_borrowed : List ℕ → (ℕ → ℕ → ℕ) → ℕ → ℕ → Fraction
exact_borrowed cells z scenario i = exact_value (balance_of cells i) (coupon_of cells i) (months_of cells i) (z scenario)

-- its value in a scenario at a rounding, whole dollars
unfoldable pub borrowed_by : Rounding → List ℕ → (ℕ → ℕ → ℕ) → ℕ → ℕ → ℕ
borrowed_by ρ cells z scenario i = value_by ρ (balance_of cells i) (coupon_of cells i) (months_of cells i) (z scenario)
