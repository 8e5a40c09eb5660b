-- The promise about the list of an accepted filing: what is read off it encloses the exact figures. Assumes nothing.
use Prim.Native.Nat.{ℕ, ◌+◌, ◌*◌, ◌/◌, ◌%◌, ◌≤◌, ◌<◌}
use mathlib.Core.Path.{◌≡◌, refl, ◌∙◌, ap}
use mathlib.Core.List.{List, ◌++◌}
use native.Mathlib.Omega.{arith}
use lib.Dec.{lit<}
use lib.ListN.{get_or}
use Rattle.lists.specs.Sums.{sum, sum_where, everywhere}
use Rattle.lists.proofs.SumLaws.{sum_where-ext}
use Rattle.fraction.specs.Fraction.{Encloses}
use Rattle.fraction.specs.Totals.{total_where}
use Rattle.form.specs.declared.Position.{Position}
use Rattle.form.specs.Cells.{position_at, total_cell}
use Rattle.filing_decode.specs.Contents.{contents_of}
use Rattle.filing_contents.specs.Contents.{Contents, cell}
use Rattle.filing_contents.specs.Valid.{Valid}
use Rattle.form.specs.PlaceOrder.{position_of, sub_balance_count, is_short, is_long}
use Rattle.form.specs.Shift.{scenario_count}
use Rattle.shares.specs.SubBalances.{four_of, balance_at}
use Rattle.shares.proofs.SubBalanceLaws.{four-sum, balance_at-total}
use Rattle.pricing.specs.Rounding.{down, up}
use Rattle.valuation.specs.Exact.{exact_value_at}
use Rattle.value_numbers.specs.Run.{value_at}
use Rattle.value_numbers.specs.Numbers.{scenario_totals, numbers}
use Rattle.valuation.specs.Promise.{balance_in, lower_in, upper_in, total_number, Enclosed}
use Rattle.pricing.proofs.EnclosedValuesLaws.{values-enclosed}
use Rattle.valuation.proofs.ValueLaws.{value_at-encloses, value_at-width, total_by-encloses}
use Rattle.value_numbers.proofs.NumberLaws.{totals, numbers-split, balance-read, lower-read, upper-read, total-read}

-- one of a position's four places
four-place : (k : Contents) (i r : ℕ) → r < 4 → balance_at k.cells (4 * i + r) ≡ get_or (four_of k.cells (position_at i)) r 0
unfolding balance_at position_of
four-place k i r h =
    let row : (4 * i + r) / 4 ≡ i = omega arith in
    let kind : (4 * i + r) % 4 ≡ r = omega arith in
    rw (row, kind)

four_is : (k : Contents) (p : Position)
    → sum (four_of k.cells p) ≡ get_or (four_of k.cells p) 0 0 + (get_or (four_of k.cells p) 1 0 + (get_or (four_of k.cells p) 2 0 + (get_or (four_of k.cells p) 3 0 + 0)))
unfolding sum four_of
four_is k p = refl

-- a position's four places together: place 4 i + j holds part j of the four, for j from 0 to 3, and the four add up to their sum
four-places : (k : Contents) (i : ℕ)
    → balance_at k.cells (4 * i) + balance_at k.cells (4 * i + 1) + balance_at k.cells (4 * i + 2) + balance_at k.cells (4 * i + 3) ≡ sum (four_of k.cells (position_at i))
four-places k i =
    let first : 4 * i ≡ 4 * i + 0 = omega arith in
    omega (
      arith,
      ap (balance_at k.cells) first,
      four-place k i 0 (lit< tt),
      four-place k i 1 (lit< tt),
      four-place k i 2 (lit< tt),
      four-place k i 3 (lit< tt),
      four_is k (position_at i),
    )

-- a list that begins with the 568 numbers
module _ (k : Contents) (rest : List ℕ) where
  balance-in : (place : ℕ) → place < sub_balance_count → balance_in (numbers k ++ rest) place ≡ balance_at k.cells place
  unfolding balance_in
  balance-in place h = rw (numbers-split k rest) (balance-read k (totals k ++ rest) place h)

  pub lower_in_lem : (scenario place : ℕ) → scenario < scenario_count → place < sub_balance_count → lower_in (numbers k ++ rest) scenario place ≡ value_at down k scenario place
  unfolding lower_in
  lower_in_lem scenario place hs hp = rw (numbers-split k rest) (lower-read k (totals k ++ rest) _ scenario place (omega arith) hs hp)

  pub upper_in_lem : (scenario place : ℕ) → scenario < scenario_count → place < sub_balance_count → upper_in (numbers k ++ rest) scenario place ≡ value_at up k scenario place
  unfolding upper_in
  upper_in_lem scenario place hs hp = rw (numbers-split k rest) (upper-read k (totals k ++ rest) _ scenario place (omega arith) hs hp)

  pub total-in : (scenario r : ℕ) → scenario < scenario_count → r < 4 → total_number (numbers k ++ rest) r scenario ≡ get_or (scenario_totals k scenario) r 0
  unfolding total_number
  total-in scenario r hs hr = rw (numbers-split k rest) (total-read k rest scenario r hs hr)

  value_in_lem : (scenario place : ℕ) → scenario < scenario_count → place < sub_balance_count
      → Encloses (lower_in (numbers k ++ rest) scenario place) (exact_value_at k scenario place) (upper_in (numbers k ++ rest) scenario place)
  value_in_lem scenario place hs hp = rw (lower_in_lem scenario place hs hp, upper_in_lem scenario place hs hp) (value_at-encloses k scenario place)

  short-in : (scenario : ℕ) → scenario < scenario_count
      → Encloses (total_number (numbers k ++ rest) 0 scenario) (total_where is_short (exact_value_at k scenario) sub_balance_count) (total_number (numbers k ++ rest) 1 scenario)
  unfolding scenario_totals
  short-in scenario h = rw (total-in scenario 0 h (lit< tt), total-in scenario 1 h (lit< tt)) (total_by-encloses is_short k scenario)

  long-in : (scenario : ℕ) → scenario < scenario_count
      → Encloses (total_number (numbers k ++ rest) 2 scenario) (total_where is_long (exact_value_at k scenario) sub_balance_count) (total_number (numbers k ++ rest) 3 scenario)
  unfolding scenario_totals
  long-in scenario h = rw (total-in scenario 2 h (lit< tt), total-in scenario 3 h (lit< tt)) (total_by-encloses is_long k scenario)

  -- of a filing that is valid: widths and shares
  module _ (v : Valid k) where
    width-in : (scenario place : ℕ) → scenario < scenario_count → place < sub_balance_count
        → 250 * upper_in (numbers k ++ rest) scenario place ≤ 250 * lower_in (numbers k ++ rest) scenario place + (balance_in (numbers k ++ rest) place + 500)
    width-in scenario place hs hp =
        rw (lower_in_lem scenario place hs hp, upper_in_lem scenario place hs hp, balance-in place hp) (value_at-width k v scenario place hp)

    shares-in : sum_where everywhere (balance_in (numbers k ++ rest)) sub_balance_count ≡ cell k total_cell
    shares-in = sum_where-ext everywhere _ (balance_at k.cells) sub_balance_count balance-in ∙ balance_at-total k.cells v.of-cells

    four-in : (i : ℕ) → i < 9
        → balance_in (numbers k ++ rest) (4 * i) + balance_in (numbers k ++ rest) (4 * i + 1) + balance_in (numbers k ++ rest) (4 * i + 2) + balance_in
        (numbers k ++ rest) (4 * i + 3)
        ≡ cell k (position_at i).balance
    four-in i h =
        rw (balance-in (4 * i) (omega arith), balance-in (4 * i + 1) (omega arith), balance-in (4 * i + 2) (omega arith), balance-in (4 * i + 3) (omega arith))
        (four-places k i ∙ four-sum k.cells v.of-cells.brokered-within v.of-cells.penalized-within i h)

-- what the list after an accepted filing holds: its shares add up by position and in all; each value read off the list encloses the exact one
-- within its balance's width, and so do the totals, since the widths and balances add up
pub enclosed : (s rest : List ℕ) → Valid (contents_of s) → Enclosed s (numbers (contents_of s) ++ rest)
enclosed s rest v =
    let k = contents_of s in
    let list = numbers k ++ rest in
    record {
      shares-add-up = four-in k rest v;
      shares-total = shares-in k rest v;
      values-enclosed = values-enclosed sub_balance_count (balance_in list) (lower_in list) (upper_in list) (exact_value_at k) (cell k total_cell)
          (value_in_lem k rest) (width-in k rest v) (shares-in k rest v);
      short-encloses = short-in k rest;
      long-encloses = long-in k rest;
    }
