-- The faults of a line, each by its test; the lines in turn; and what an accepted list has: at most 64 lines, rising months, sound prices. Assumes nothing.
use Prim.Native.Nat.{ℕ, zero, suc, ◌+◌, ◌-◌, ◌≤◌, ◌<◌}
use native.Mathlib.Nat.{eq-or-lt_of_le, le_of_suc-le-suc}
use native.Mathlib.Omega.{arith}
use mathlib.Core.Path.{◌≡◌, refl, ◌∙◌}
use mathlib.Core.Logic.{⊎_elim}
use mathlib.Core.Bool.{true, false, ◌||◌}
use mathlib.Core.List.{List}
use borrow.Author.Tests.{le-leb, lt-leb, leb-false}
use lib.Dec.{leb}
use lib.ListN.{length}
use Rattle.lists.proofs.TestLaws.{neither, any-fails}
use Rattle.form.specs.Shift.{scenario_count}
use Rattle.answers.specs.Verdict.{accepted, refused}
use Rattle.answers.proofs.VerdictLaws.{Untried, tried-start, tried_here, tried-next, tried-all, tried-none, condition-holds, condition-refuses, condition-none, condition-fails}
use Rattle.quote_prices.specs.declared.PriceLine.{PriceLine}
use Rattle.quote_prices.specs.PriceLines.{price_in, faulty_price, faulty_prices}
use Rattle.quote_lines.specs.Lines.{line_at, months_at}
use Rattle.quote_lines.specs.Faults.{line_limit, not_rising, faulty_line, line_verdict, lines_verdict}

module _ (lines : List PriceLine) where
  -- the first line rises; another is compared with the line before it
  pub rising-first : false ≡ not_rising lines 0
  unfolding not_rising
  rising-first = refl

  pub rising-later : (i : ℕ) → (i ≡ 0 → ⊥) → leb (months_at lines i) (months_at lines (i - 1)) ≡ not_rising lines i
  unfolding not_rising
  rising-later zero some = absurd (some refl)
  rising-later (suc i) some =
      let e : suc i - 1 ≡ i = omega arith in
      rw e

  -- line i: past the limit, not rising, or by its prices
  module _ (i : ℕ) where
    pub faulty-past : line_limit ≤ i → true ≡ faulty_line lines i
    unfolding faulty_line
    faulty-past h = rw (le-leb line_limit i h)

    pub faulty-months : i < line_limit → not_rising lines i ≡ true → true ≡ faulty_line lines i
    unfolding faulty_line
    faulty-months h e = rw (lt-leb line_limit i h, e)

    pub faulty-by-prices : i < line_limit → not_rising lines i ≡ false → faulty_prices (line_at lines i) ≡ faulty_line lines i
    unfolding faulty_line
    faulty-by-prices h e = rw (lt-leb line_limit i h, e)

  -- the lines in turn: none of the first i is faulty
  pub record Sound (i : ℕ) : Type 0 where
    untried : Untried (line_verdict lines) (length lines) i

  pub sound-start : Sound 0
  sound-start = record { untried = tried-start (line_verdict lines) (length lines) }

  module _ (i : ℕ) (sound : Sound i) where
    pub line-faulty : i < length lines → faulty_line lines i ≡ true → refused 21 i ≡ lines_verdict lines
    unfolding lines_verdict line_verdict
    line-faulty h e =
        condition-holds (faulty_line lines i) 21 i e
        ∙ tried_here (line_verdict lines) (length lines) i sound.untried h (condition-refuses (faulty_line lines i) 20 i e)

    pub line-sound : i < length lines → faulty_line lines i ≡ false → Sound (i + 1)
    unfolding line_verdict
    line-sound h e =
        record { untried = tried-next (line_verdict lines) (length lines) i sound.untried h (condition-none (faulty_line lines i) 21 i e) }

    pub lines-sound : length lines ≤ i → accepted ≡ lines_verdict lines
    unfolding lines_verdict
    lines-sound h = tried-all (line_verdict lines) (length lines) i sound.untried h

  -- what acceptance says of each line
  module _ (taken : (lines_verdict lines).number ≡ 0) (i : ℕ) (h : i < length lines) where
    not-faulty : faulty_line lines i ≡ false
    unfolding lines_verdict line_verdict
    not-faulty = condition-fails (faulty_line lines i) 20 i (tried-none (line_verdict lines) (length lines) taken i h)

    each-test : (leb line_limit i ≡ false) × ((not_rising lines i || faulty_prices (line_at lines i)) ≡ false)
    unfolding faulty_line
    each-test = neither (leb line_limit i) (not_rising lines i || faulty_prices (line_at lines i)) not-faulty

    own-tests : (not_rising lines i ≡ false) × (faulty_prices (line_at lines i) ≡ false)
    own-tests = neither (not_rising lines i) (faulty_prices (line_at lines i)) each-test.1

    pub accepted-few : i < line_limit
    accepted-few = leb-false line_limit i each-test.0

    pub accepted-prices : (scenario : ℕ) → scenario < scenario_count → faulty_price (price_in (line_at lines i) scenario) ≡ false
    unfolding faulty_prices
    accepted-prices scenario l = any-fails (λ (k : ℕ). faulty_price (price_in (line_at lines i) k)) scenario_count own-tests.1 scenario l

  -- its months rise
  module _ (taken : (lines_verdict lines).number ≡ 0) where
    next-rises : (i : ℕ) → suc i < length lines → months_at lines i < months_at lines (suc i)
    unfolding not_rising
    next-rises i h = leb-false _ _ (own-tests taken (suc i) h).0

    pub accepted-rising : (i j : ℕ) → i < j → j < length lines → months_at lines i < months_at lines j
    accepted-rising i zero l h = absurd (omega arith)
    accepted-rising i (suc j) l h = ⊎_elim (λ e. rw e (next-rises j h)) (λ m. omega (arith, accepted-rising i j m (omega arith), next-rises j h)) (eq-or-lt_of_le (le_of_suc-le-suc l))
