-- What stands at each place of a filing's 568 numbers, and of a list that begins with the rows of its places. Assumes nothing.
use Prim.Native.Nat.{ℕ, suc, ◌+◌, ◌*◌, ◌<◌}
use mathlib.Core.Path.{◌≡◌, refl, ap, ◌∙◌}
use mathlib.Core.List.{List, ◌++◌, append_assoc}
use native.Mathlib.Omega.{arith}
use lib.ListN.{length, get_or, get_or-append}
use lib.Seq.{get_or-append-add}
use Rattle.lists.specs.Tables.{table, joined}
use Rattle.lists.proofs.TableLaws.{joined_length, joined-get_or}
use Rattle.form.specs.PlaceOrder.{sub_balance_count}
use Rattle.form.specs.Shift.{scenario_count}
use Rattle.form.specs.Counts.{place_number_count, totals_start, total_count}
use Rattle.filing_contents.specs.Contents.{Contents}
use Rattle.shares.specs.SubBalances.{balance_at}
use Rattle.pricing.specs.Rounding.{down, up}
use Rattle.value_numbers.specs.Run.{value_at}
use Rattle.value_numbers.specs.Numbers.{values_of, place_numbers, scenario_totals, numbers}

module _ (k : Contents) where
  -- the rows of the places and the totals of the scenarios
  abbrev pub rows : List ℕ
  rows = joined (table sub_balance_count (place_numbers k))

  abbrev pub totals : List ℕ
  totals = joined (table scenario_count (scenario_totals k))

  -- their sizes
  values_of-length : (place scenario : ℕ) → length (values_of k place scenario) ≡ 2
  unfolding values_of
  values_of-length place scenario = refl

  pub row-length : (place : ℕ) → length (place_numbers k place) ≡ place_number_count
  unfolding place_numbers
  row-length place = ap suc (joined_length 2 0 scenario_count (values_of k place) (values_of-length place))

  pub scenario_totals-length : (scenario : ℕ) → length (scenario_totals k scenario) ≡ 4
  unfolding scenario_totals
  scenario_totals-length scenario = refl

  pub rows-length : length rows ≡ totals_start
  rows-length = joined_length place_number_count 0 sub_balance_count (place_numbers k) row-length

  pub totals-length : length totals ≡ total_count
  totals-length = joined_length 4 0 scenario_count (scenario_totals k) scenario_totals-length

  -- a list that begins with the 568 numbers
  pub numbers-split : (rest : List ℕ) → numbers k ++ rest ≡ rows ++ (totals ++ rest)
  unfolding numbers
  numbers-split rest = append_assoc rows totals rest

  -- what stands in a list that begins with the rows
  module _ (rest : List ℕ) where
    -- number r of a place's fifteen
    row_read : (i place r : ℕ) → i ≡ place_number_count * place + r → place < sub_balance_count → r < place_number_count → get_or (rows ++ rest) i 0 ≡ get_or (place_numbers k place) r 0
    row_read i place r e hp hr =
        rw e (get_or-append rows rest 0 (place_number_count * place + r) (omega (arith, rows-length)) ∙ joined-get_or place_number_count sub_balance_count (place_numbers k) row-length place r 0 hp hr)

    -- a place's balance
    pub balance-read : (place : ℕ) → place < sub_balance_count → get_or (rows ++ rest) (place_number_count * place) 0 ≡ balance_at k.cells place
    unfolding place_numbers
    balance-read place h = row_read (place_number_count * place) place 0 (omega arith) h (omega arith)

    -- number r of a place's lower and upper value in a scenario
    value_read : (i scenario place r : ℕ) → i ≡ place_number_count * place + suc (2 * scenario + r) → scenario < scenario_count → place < sub_balance_count → r < 2
        → get_or (rows ++ rest) i 0 ≡ get_or (values_of k place scenario) r 0
    unfolding place_numbers
    value_read i scenario place r e hs hp hr =
        row_read i place (suc (2 * scenario + r)) e hp (omega arith) ∙ joined-get_or 2 scenario_count (values_of k place) (values_of-length place) scenario r 0 hs hr

    pub lower-read : (i scenario place : ℕ) → i ≡ place_number_count * place + (2 * scenario + 1) → scenario < scenario_count → place < sub_balance_count
        → get_or (rows ++ rest) i 0 ≡ value_at down k scenario place
    unfolding values_of
    lower-read i scenario place e hs hp = value_read i scenario place 0 (omega arith) hs hp (omega arith)

    pub upper-read : (i scenario place : ℕ) → i ≡ place_number_count * place + (2 * scenario + 2) → scenario < scenario_count → place < sub_balance_count
        → get_or (rows ++ rest) i 0 ≡ value_at up k scenario place
    unfolding values_of
    upper-read i scenario place e hs hp = value_read i scenario place 1 (omega arith) hs hp (omega arith)

    -- number r of a scenario's four totals, which stand behind the rows
    pub total-read : (scenario r : ℕ) → scenario < scenario_count → r < 4
        → get_or (rows ++ (totals ++ rest)) (totals_start + 4 * scenario + r) 0 ≡ get_or (scenario_totals k scenario) r 0
    total-read scenario r hs hr =
        let e : totals_start + 4 * scenario + r ≡ length rows + (4 * scenario + r) = omega (arith, rows-length) in
        rw e (get_or-append-add rows (totals ++ rest) (4 * scenario + r) 0
        ∙ get_or-append totals rest 0 (4 * scenario + r) (omega (arith, totals-length))
        ∙ joined-get_or 4 scenario_count (scenario_totals k) scenario_totals-length scenario r 0 hs hr)
