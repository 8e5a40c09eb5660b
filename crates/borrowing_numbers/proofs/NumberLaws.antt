-- What stands at each place of a list that begins with the 374 numbers of a filing's borrowings. Assumes nothing.
use Prim.Native.Nat.{ℕ, suc, ◌+◌, ◌*◌, ◌≤◌, ◌<◌}
use mathlib.Core.Path.{◌≡◌, refl, ap, ◌∙◌}
use mathlib.Core.List.{List, ◌++◌, append_assoc}
use native.Mathlib.Omega.{arith}
use lib.ListN.{length, get_or, length-append, get_or-append}
use lib.Seq.{get_or-append-add}
use Rattle.lists.specs.Tables.{table, joined}
use Rattle.lists.proofs.TableLaws.{joined_length, joined-get_or}
use Rattle.form.specs.Borrowings.{borrowing_count}
use Rattle.form.specs.Counts.{place_number_count}
use Rattle.form.specs.Shift.{scenario_count}
use Rattle.pricing.specs.Rounding.{down, up}
use Rattle.borrowing_numbers.specs.Borrowed.{balance_of, borrowed_by}
use Rattle.borrowing_numbers.specs.Numbers.{borrowing_totals_start, borrowing_number_count, bounds_of, borrowing_numbers, totals_of, numbers}
use Rattle.borrowing_numbers.specs.Promise.{balance_in, lower_in, upper_in, total_number}

module _ (cells : List ℕ) (z : ℕ → ℕ → ℕ) where
  -- the rows of the borrowings and the totals of the scenarios
  abbrev pub rows : List ℕ
  rows = joined (table borrowing_count (borrowing_numbers cells z))

  abbrev pub totals : List ℕ
  totals = joined (table scenario_count (totals_of cells z))

  -- their sizes
  bounds-length : (i scenario : ℕ) → length (bounds_of cells z i scenario) ≡ 2
  unfolding bounds_of
  bounds-length i scenario = refl

  pub row-length : (i : ℕ) → length (borrowing_numbers cells z i) ≡ place_number_count
  unfolding borrowing_numbers
  row-length i = ap suc (joined_length 2 0 scenario_count (bounds_of cells z i) (bounds-length i))

  totals-each : (scenario : ℕ) → length (totals_of cells z scenario) ≡ 2
  unfolding totals_of
  totals-each scenario = refl

  pub rows-length : length rows ≡ borrowing_totals_start
  rows-length = joined_length place_number_count 0 borrowing_count (borrowing_numbers cells z) row-length

  pub totals-length : length totals ≡ 2 * scenario_count
  totals-length = joined_length 2 0 scenario_count (totals_of cells z) totals-each

  -- what stands in a list that begins with the rows
  module _ (rest : List ℕ) where
    -- number r of a borrowing's fifteen
    row_read : (at i r : ℕ) → at ≡ place_number_count * i + r → i < borrowing_count → r < place_number_count
        → get_or (rows ++ rest) at 0 ≡ get_or (borrowing_numbers cells z i) r 0
    row_read at i r e hi hr =
        rw e
        (get_or-append rows rest 0 (place_number_count * i + r) (omega (arith, rows-length))
        ∙ joined-get_or place_number_count borrowing_count (borrowing_numbers cells z) row-length i r 0 hi hr)

    pub row-balance : (at i : ℕ) → at ≡ place_number_count * i → i < borrowing_count → get_or (rows ++ rest) at 0 ≡ balance_of cells i
    unfolding borrowing_numbers
    row-balance at i e h = row_read at i 0 (omega arith) h (omega arith)

    -- number r of a borrowing's lower and upper value in a scenario
    value_read : (at scenario i r : ℕ) → at ≡ place_number_count * i + suc (2 * scenario + r) → scenario < scenario_count → i < borrowing_count → r < 2
        → get_or (rows ++ rest) at 0 ≡ get_or (bounds_of cells z i scenario) r 0
    unfolding borrowing_numbers
    value_read at scenario i r e hs hi hr =
        row_read at i (suc (2 * scenario + r)) e hi (omega arith)
        ∙ joined-get_or 2 scenario_count (bounds_of cells z i) (bounds-length i) scenario r 0 hs hr

    pub row-lower : (at scenario i : ℕ) → at ≡ place_number_count * i + (2 * scenario + 1) → scenario < scenario_count → i < borrowing_count
        → get_or (rows ++ rest) at 0 ≡ borrowed_by down cells z scenario i
    unfolding bounds_of
    row-lower at scenario i e hs hi = value_read at scenario i 0 (omega arith) hs hi (omega arith)

    pub row-upper : (at scenario i : ℕ) → at ≡ place_number_count * i + (2 * scenario + 2) → scenario < scenario_count → i < borrowing_count
        → get_or (rows ++ rest) at 0 ≡ borrowed_by up cells z scenario i
    unfolding bounds_of
    row-upper at scenario i e hs hi = value_read at scenario i 1 (omega arith) hs hi (omega arith)

  -- what stands in a list that begins with the 374 numbers
  module _ (rest : List ℕ) where
    abbrev pub list : List ℕ
    list = numbers cells z ++ rest

    split : list ≡ rows ++ (totals ++ rest)
    unfolding numbers
    split = append_assoc rows totals rest

    -- it has them all
    pub list_length : borrowing_number_count ≤ length list
    list_length = rw (split, length-append, length-append) (omega (arith, rows-length, totals-length))

    pub balance-read : (i : ℕ) → i < borrowing_count → balance_in list i ≡ balance_of cells i
    unfolding balance_in
    balance-read i h = rw split (row-balance (totals ++ rest) _ i refl h)

    pub lower-read : (scenario i : ℕ) → scenario < scenario_count → i < borrowing_count → lower_in list scenario i ≡ borrowed_by down cells z scenario i
    unfolding lower_in
    lower-read scenario i hs hi = rw split (row-lower (totals ++ rest) _ scenario i (omega arith) hs hi)

    pub upper-read : (scenario i : ℕ) → scenario < scenario_count → i < borrowing_count → upper_in list scenario i ≡ borrowed_by up cells z scenario i
    unfolding upper_in
    upper-read scenario i hs hi = rw split (row-upper (totals ++ rest) _ scenario i (omega arith) hs hi)

    -- number r of a scenario's two totals, which stand behind the rows
    pub total-read : (r scenario : ℕ) → scenario < scenario_count → r < 2 → total_number list r scenario ≡ get_or (totals_of cells z scenario) r 0
    unfolding total_number
    total-read r scenario hs hr =
        let e : borrowing_totals_start + 2 * scenario + r ≡ length rows + (2 * scenario + r) = omega (arith, rows-length) in
        rw (split, e)
        (get_or-append-add rows (totals ++ rest) (2 * scenario + r) 0
        ∙ get_or-append totals rest 0 (2 * scenario + r) (omega (arith, totals-length))
        ∙ joined-get_or 2 scenario_count (totals_of cells z) totals-each scenario r 0 hs hr)
