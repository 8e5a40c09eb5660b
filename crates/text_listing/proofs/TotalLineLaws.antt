-- The lines of the seven scenarios: line by line, and how long they are. Assumes nothing.
use Prim.Native.Nat.{ℕ, zero, suc, ◌+◌, ◌*◌, ◌-◌, ◌^◌, ◌≤◌, ◌<◌}
use mathlib.Core.Path.{◌≡◌, sym, ◌∙◌}
use mathlib.Core.List.{List, [], ◌++◌}
use native.Mathlib.Nat.{mul-suc, mul-le-mul_right}
use native.Mathlib.Numerals.{add-one}
use native.Mathlib.Omega.{arith}
use lib.IntN.{sub_ℕ}
use lib.ListN.{length, get_or, take, drop, length-append, length-take, length-drop}
use lib.Seq.{ext_get_or, length-take-le, get_or-take, get_or-drop}
use Rattle.lists.specs.Tables.{table_from, joined}
use Rattle.lists.proofs.EachLaws.{each-lt}
use Rattle.form.specs.Shift.{scenario_count}
use Rattle.text.specs.Decimal.{digits_within, decimal, signed}
use Rattle.text.specs.Lines.{rest_of_line}
use Rattle.text.proofs.LineLaws.{rest-length}
use Rattle.text_listing.specs.TotalLines.{shift, totals_in, line_in, lines_in}

module _ (l : List ℕ) (from each : ℕ) where
  -- a line is its shift and its totals, a part of the list
  part-is : (first : ℕ) → take each (drop first l) ≡ take (first + each - first) (drop first l)
  part-is first =
      let e : first + each - first ≡ each = omega arith in
      rw e

  pub line_is : (scenario : ℕ) → line_in l from each scenario
      ≡ signed (sub_ℕ (100 * scenario) 300) ++ rest_of_line (take (from + each * scenario + each - (from + each * scenario)) (drop (from + each * scenario) l))
  unfolding line_in shift totals_in
  line_is scenario = rw (← part-is (from + each * scenario))

  -- the lines from scenario i on
  abbrev pub lines_from : ℕ → List ℕ
  lines_from i = joined (table_from i (scenario_count - i) (line_in l from each))

  pub lines_next : (i : ℕ) → i < scenario_count → lines_from i ≡ line_in l from each i ++ lines_from (i + 1)
  unfolding table_from joined
  lines_next i h =
      let e : scenario_count - i ≡ suc (scenario_count - (i + 1)) = omega arith in
      rw (e, add-one)

  pub lines_end : (i : ℕ) → i ≡ scenario_count → lines_from i ≡ []
  unfolding table_from joined
  lines_end i e = rw e

-- the totals of a scenario stand within a list that has those of all seven
pub totals-inside : (from each scenario n : ℕ) → scenario < scenario_count → from + each * scenario_count ≤ n → from + each * scenario + each ≤ n
totals-inside from each scenario n h fits = omega (arith, mul-le-mul_right each h)

-- totals that are read off a list one by one
pub totals-read : (l : List ℕ) (from each scenario : ℕ) (totals : List ℕ) → from + each * scenario + each ≤ length l → length totals ≡ each
    → ((r : ℕ) → r < each → get_or l (from + each * scenario + r) 0 ≡ get_or totals r 0) → totals_in l from each scenario ≡ totals
unfolding totals_in
totals-read l from each scenario totals fits long reads =
    let first = from + each * scenario in
    let as_long : length (take each (drop first l)) ≡ each = length-take-le each (drop first l) (omega (arith, length-drop first l)) in
    ext_get_or 0 (take each (drop first l)) totals (as_long ∙ sym long)
    (λ r h. let inside : r < each = omega (arith, as_long) in rw (get_or-take each (drop first l) r 0 inside, get_or-drop) (reads r inside))

-- a shift has four bytes at most
shift-length : (scenario : ℕ) → scenario < scenario_count → length (signed (sub_ℕ (100 * scenario) 300)) ≤ 4
unfolding signed decimal digits_within
shift-length =
    each-lt scenario_count (λ (s : ℕ). length (signed (sub_ℕ (100 * s) 300)) ≤ 4)
    (omega arith, (omega arith, (omega arith, (omega arith, (omega arith, (omega arith, (omega arith, tt)))))))

-- n lists of at most m elements
joined-le : (m s n : ℕ) (f : ℕ → List ℕ) → ((i : ℕ) → i < s + n → length (f i) ≤ m) → length (joined (table_from s n f)) ≤ m * n
unfolding table_from joined
joined-le m s zero f h = omega arith
joined-le m s (suc n) f h =
    rw length-append (omega (arith, h s (omega arith), joined-le m (suc s) n f (λ i l. h i (omega arith)), mul-suc m n))

module _ (l : List ℕ) (from each : ℕ) (few : each ≤ 4) (fits : (i : ℕ) → get_or l i 0 < 2 ^ 64) where
  totals-few : (scenario : ℕ) → length (totals_in l from each scenario) ≤ 4
  unfolding totals_in
  totals-few scenario = rw length-take (omega arith)

  totals-fit : (scenario r : ℕ) → r < length (totals_in l from each scenario) → get_or (totals_in l from each scenario) r 0 < 2 ^ 64
  unfolding totals_in
  totals-fit scenario r h =
      let inside : r < each = omega (arith, length-take each (drop (from + each * scenario) l)) in
      rw (get_or-take each (drop (from + each * scenario) l) r 0 inside, get_or-drop) (fits _)

  -- a line has 89 bytes at most, and seven lines 623
  line-length : (scenario : ℕ) → scenario < scenario_count → length (line_in l from each scenario) ≤ 89
  unfolding line_in shift
  line-length scenario h =
      rw length-append
      (omega (arith, shift-length scenario h, totals-few scenario, rest-length (totals_in l from each scenario) (totals-fit scenario)))

  pub lines_length : length (lines_in l from each) ≤ 623
  unfolding lines_in
  lines_length = joined-le 89 0 scenario_count (line_in l from each) line-length
