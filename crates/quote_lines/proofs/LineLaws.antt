-- The lines of two lists: how many there are, where the numbers of each stand, and each of them by its index. Assumes nothing.
use Prim.Native.Nat.{ℕ, ◌+◌, ◌-◌, ◌*◌, ◌/◌, ◌≤◌, ◌<◌}
use native.Mathlib.Nat.{min-le_left, min-le_right, lt_of_lt_of_le}
use native.Mathlib.Omega.{arith}
use mathlib.Core.Path.{◌≡◌, sym, ap, ◌∙◌}
use mathlib.Core.List.{List}
use lib.Ieee.{Float, nan}
use lib.ListN.{length, get_or, take, drop}
use lib.Seq.{ext_get_or}
use Rattle.std.proofs.lemmas.List.{length-take-le, length-drop, get_or-drop, get_or-take}
use Rattle.lists.specs.Tables.{table}
use Rattle.lists.proofs.TableLaws.{table-length, table-get_or}
use Rattle.form.specs.Shift.{scenario_count}
use Rattle.quote_prices.specs.declared.PriceLine.{PriceLine}
use Rattle.quote_lines.specs.Lines.{line_at, months_at, line_count, line_in, lines_of}

module _ (months : List ℕ) (prices : List Float) where
  -- there are no more lines than months
  pub count-within : line_count months prices ≤ length months
  unfolding line_count
  count-within = min-le_left (length months) (length prices / scenario_count)

  -- the numbers of a line stand in the lists
  pub month-within : (i : ℕ) → i < line_count months prices → i < length months
  month-within i h = lt_of_lt_of_le h count-within

  pub prices-within : (i : ℕ) → i < line_count months prices → scenario_count * i + scenario_count ≤ length prices
  unfolding line_count
  prices-within i h =
      let below : i < length prices / scenario_count = lt_of_lt_of_le h (min-le_right (length months) (length prices / scenario_count)) in
      omega arith

  -- the seven prices of a line, one after the other
  pub prices-table : (i : ℕ) → i < line_count months prices
      → take (scenario_count * i + scenario_count - scenario_count * i) (drop (scenario_count * i) prices)
      ≡ table scenario_count (λ (k : ℕ). get_or prices (scenario_count * i + k) nan)
  prices-table i h =
      let first : ℕ = scenario_count * i in
      let some : first + scenario_count - first ≡ scenario_count = omega arith in
      let left : scenario_count ≤ length (drop first prices) = omega (arith, length-drop first prices, prices-within i h) in
      let seven : length (take (first + scenario_count - first) (drop first prices)) ≡ scenario_count = rw some (length-take-le scenario_count (drop first prices) left) in
      ext_get_or nan _ (table scenario_count (λ (k : ℕ). get_or prices (first + k) nan))
      (seven ∙ sym (table-length 0 scenario_count (λ (k : ℕ). get_or prices (first + k) nan)))
      (λ k l. let inside : k < scenario_count = rw seven at l in
      get_or-take (first + scenario_count - first) (drop first prices) k nan (omega arith)
      ∙ get_or-drop first prices k nan
      ∙ sym (table-get_or scenario_count (λ (j : ℕ). get_or prices (first + j) nan) k nan inside))

  -- each line by its index
  pub lines-length : length (lines_of months prices) ≡ line_count months prices
  unfolding lines_of
  lines-length = table-length 0 (line_count months prices) (line_in months prices)

  pub line-is : (i : ℕ) → i < line_count months prices → line_at (lines_of months prices) i ≡ line_in months prices i
  unfolding line_at lines_of
  line-is i h = table-get_or (line_count months prices) (line_in months prices) i _ h

  pub month-is : (i : ℕ) → i < line_count months prices → months_at (lines_of months prices) i ≡ get_or months i 0
  unfolding line_in
  month-is i h = ap (λ (l : PriceLine). l.months) (line-is i h)

  -- a line that was read
  pub line_read : (i : ℕ) {line : PriceLine} → i < line_count months prices → line ≡ line_in months prices i → line ≡ line_at (lines_of months prices) i
  line_read i h e = e ∙ sym (line-is i h)
