-- What a filing says, read by cell, by month and by column. Definitions only.
use Rattle.std.specs.Prelude.{ℕ, ◌-◌, List, get_or, take, drop}
use Rattle.form.specs.Limits.{sheet_months, rate_count, yields_start, rates_start, libor_start}
use Rattle.form.specs.Shift.{path_rate}
use Rattle.filing_cells.specs.Balances.{cell_in}
use Rattle.filing_contents.specs.declared.FiledTiers.{FiledTiers}

-- what a filing says: the values of its cells from 601 on (01:6-11; 02:CR 8), the CD yields of months 1 to 120, the retail rates of months 1 to 120 column
-- by column (02:CR 3), the LIBOR yields of months 1 to 120 (02:CR 8), all 0 where it has none, and its tiers (02:CR 1). Cells are in their own units, the
-- certificates' coupons among them in thousandths of a percent a year (02:CR 4), the borrowings' coupons, yields and rates in hundredths
pub record Contents : Type 0 where
  pub cells : List ℕ
  pub yields : List ℕ
  pub rates : List ℕ
  pub libor : List ℕ
  pub tiers : FiledTiers

-- of its parts. Nowhere else are they put together
abbrev pub contents_with : List ℕ → List ℕ → List ℕ → List ℕ → FiledTiers → Contents
contents_with cells yields rates libor tiers = record { cells = cells; yields = yields; rates = rates; libor = libor; tiers = tiers }

-- of a list of the numbers of all sheets: the CD yields, the retail rates, and the LIBOR yields. Nowhere else is it known where a number stands
unfoldable pub yields_in : List ℕ → List ℕ
yields_in numbers = take sheet_months (drop yields_start numbers)

unfoldable pub rates_in : List ℕ → List ℕ
rates_in numbers = take rate_count (drop rates_start numbers)

unfoldable pub libor_in : List ℕ → List ℕ
libor_in numbers = take sheet_months (drop libor_start numbers)

-- of cells, the numbers of all sheets, and tiers
abbrev pub contents_in : List ℕ → List ℕ → FiledTiers → Contents
contents_in cells numbers tiers = contents_with cells (yields_in numbers) (rates_in numbers) (libor_in numbers) tiers

-- the value of a cell in what a filing says
abbrev pub cell : Contents → ℕ → ℕ
cell k n = cell_in k.cells n

-- the secondary-market CD yield of a month, 1 to 120, hundredths of a percent a year
unfoldable pub cd_yield : Contents → ℕ → ℕ
cd_yield k month = get_or k.yields (month - 1) 0

-- the LIBOR yield of a month, 1 to 120, hundredths of a percent a year (02:CR 8)
unfoldable pub libor_yield : Contents → ℕ → ℕ
libor_yield k month = get_or k.libor (month - 1) 0

-- the retail rate of a column, 1 to 3, in a month, 1 to 120, hundredths of a percent a year
abbrev pub retail_rate : Contents → ℕ → ℕ → ℕ
retail_rate k column month = path_rate k.rates column month
