-- The forwards of a CD sheet (02:CR 10), and where each stands in the list: by scenario, term and month, the lower first. Definitions only.
-- A scenario is 0 to 6, the index of a term 0 to 2; a month is from 0, with month + term ≤ 120. Forwards are in hundredths of a percent a year.
use Rattle.std.specs.Prelude.{ℕ, zero, suc, ◌+◌, ◌*◌, ◌-◌, ◌≤◌, ◌<◌, List, ℤ, pos, get_or}
use Rattle.form.specs.Limits.{sheet_months}
use Rattle.form.specs.Shift.{scenario_count, shifted_rate}
use Rattle.pricing.specs.Scales.{rate_scale}
use Rattle.filing_contents.specs.Contents.{Contents, cd_yield}
use Rattle.forward_rates.specs.Forwards.{Forward, ForwardPair, term_at}

-- the growth of a month's shifted CD yield: 120,000 + z
unfoldable pub yield_growth : Contents → ℕ → ℕ → ℕ
yield_growth k scenario month = rate_scale + shifted_rate scenario (cd_yield k month)

-- the forward of a month over the term at an index, by the growths of the months
abbrev pub forward_of : (ℕ → ℕ) → ℕ → ℕ → Forward
forward_of growth i month = record { near = growth month; far = growth (month + term_at i); month = month; term = term_at i }

-- how many terms there are, how many pairs over each, 115, 97 and 73, and how many over the terms before it
abbrev pub term_count : ℕ
term_count = 3

unfoldable pub pairs_over : ℕ → ℕ
pairs_over i = suc sheet_months - term_at i

unfoldable pub pairs_before : ℕ → ℕ
pairs_before zero = 0
pairs_before (suc i) = pairs_before i + pairs_over i

-- the pairs of a scenario, and the numbers of all pairs
abbrev pub scenario_pairs : ℕ
scenario_pairs = 285

abbrev pub forward_count : ℕ
forward_count = 2 * (scenario_pairs * scenario_count)

-- from an index of a list on stand the pairs of a term, by month
unfoldable pub HoldsTerm : (ℕ → ℕ) → ℕ → ℕ → List ℤ → Type 0
HoldsTerm growth i at list =
    (month : ℕ) → month + term_at i ≤ sheet_months
    → ForwardPair (forward_of growth i month) (get_or list (at + 2 * month) (pos 0)) (get_or list (at + 2 * month + 1) (pos 0))

-- those of a scenario, by term
unfoldable pub HoldsScenario : (ℕ → ℕ) → ℕ → List ℤ → Type 0
HoldsScenario growth at list = (i : ℕ) → i < term_count → HoldsTerm growth i (at + 2 * pairs_before i) list

-- those of a filing, by scenario
unfoldable pub HoldsForwards : Contents → List ℤ → Type 0
HoldsForwards k list = (scenario : ℕ) → scenario < scenario_count → HoldsScenario (yield_growth k scenario) (2 * (scenario_pairs * scenario)) list
