-- What accepted lines reply: the line that is found is the one that lists the month, or the one behind it. Assumes nothing.
use Prim.Native.Nat.{ℕ, suc, ◌-◌, ◌≤◌, ◌<◌}
use native.Mathlib.Nat.{le_refl, le_of_lt, lt_irrefl, not-suc-le-zero, eq-or-lt_of_le, le_of_suc-le-suc}
use native.Mathlib.Omega.{arith}
use mathlib.Core.Path.{◌≡◌, refl, sym}
use mathlib.Core.Logic.{⊎_elim}
use mathlib.Core.List.{List}
use lib.ListN.{length}
use Rattle.lists.proofs.OrderLaws.{lt-or-le}
use Rattle.form.specs.Shift.{scenario_count}
use Rattle.quote_prices.specs.declared.PriceLine.{PriceLine}
use Rattle.quote_prices.specs.PriceLines.{price_in}
use Rattle.quote_prices.specs.Interpolation.{price_between}
use Rattle.quote_prices.specs.Neighbours.{BetweenPrices}
use Rattle.quote_prices.proofs.BetweenLaws.{price-between}
use Rattle.quote_lines.specs.declared.Reply.TheVariants.{Outside}
use Rattle.quote_lines.specs.Lines.{line_at, months_at}
use Rattle.quote_lines.specs.Faults.{lines_verdict}
use Rattle.quote_lines.specs.Replies.{reply_of}
use Rattle.quote_lines.specs.Accepted.{InFormat, AcceptedReplies}
use Rattle.quote_lines.proofs.FaultLaws.{accepted-rising, accepted-prices}
use Rattle.quote_lines.proofs.ReachLaws.{reached-is, reached-none}
use Rattle.quote_lines.proofs.ReplyLaws.{Found, reply-no-scenario, reply-past, reply-listed, reply-before, reply-between}

module _ (lines : List PriceLine) where
  -- the line that is reached first
  found : (i month scenario : ℕ) → i < length lines → month ≤ months_at lines i → ((j : ℕ) → j < i → months_at lines j < month) → scenario < scenario_count
      → Found lines month scenario i (line_at lines i)
  found i month scenario h l before s = record { reached = reached-is lines month i h l before; within = h; there = s; is = refl }

  -- behind every line
  all_short : (month scenario : ℕ) → scenario < scenario_count → ((i : ℕ) → i < length lines → months_at lines i < month) → reply_of lines month scenario ≡ Outside
  all_short month scenario s all = sym (reply-past lines month scenario _ refl s (reached-none lines month all))

  -- short of the first line
  first-reaches : (month scenario : ℕ) → scenario < scenario_count → month < months_at lines 0 → reply_of lines month scenario ≡ Outside
  first-reaches month scenario s h = ⊎_elim some none (lt-or-le 0 (length lines))
    where
      some : 0 < length lines → reply_of lines month scenario ≡ Outside
      some l = sym (reply-before lines month scenario 0 _ (found 0 month scenario l (le_of_lt h) (λ j b. absurd (not-suc-le-zero b)) s) (λ e. lt_irrefl month (rw e at h)) refl)

      none : length lines ≤ 0 → reply_of lines month scenario ≡ Outside
      none l = all_short month scenario s (λ i b. absurd (omega arith))

  -- in a scenario that there is or is not
  any-scenario : (month scenario : ℕ) → (scenario < scenario_count → reply_of lines month scenario ≡ Outside) → reply_of lines month scenario ≡ Outside
  any-scenario month scenario there = ⊎_elim there (λ h. sym (reply-no-scenario lines month scenario h)) (lt-or-le scenario scenario_count)

module _ (lines : List PriceLine) (taken : (lines_verdict lines).number ≡ 0) (format : InFormat lines) where
  pub neighbour-prices : (i month scenario : ℕ) → suc i < length lines → months_at lines i < month → month < months_at lines (suc i) → scenario < scenario_count
      → BetweenPrices (price_in (line_at lines i) scenario) (price_in (line_at lines (suc i)) scenario)
      (price_between (line_at lines i) (line_at lines (suc i)) month scenario)
  neighbour-prices i month scenario h since until s =
      price-between (line_at lines i) (line_at lines (suc i)) month scenario since until (format.months-fit (suc i) h)
      (format.prices-fit i scenario (omega arith) s) (format.prices-fit (suc i) scenario h s)
      (accepted-prices lines taken i (omega arith) scenario s) (accepted-prices lines taken (suc i) h scenario s)

  -- the months before line i are short of its own, and of every month past line i - 1
  earlier : (i month : ℕ) → suc i < length lines → months_at lines i < month → (j : ℕ) → j < suc i → months_at lines j < month
  earlier i month h since j b =
      ⊎_elim (λ e. rw e since) (λ l. omega (arith, accepted-rising lines taken j i l (omega arith))) (eq-or-lt_of_le (le_of_suc-le-suc b))

  pub accepted-replies : AcceptedReplies lines
  accepted-replies =
      record {
        listed = λ i scenario h s.
            sym (reply-listed lines (months_at lines i) scenario i _ (found lines i (months_at lines i) scenario h (le_refl (months_at lines i)) (λ j b. accepted-rising lines taken j i b h) s) refl);
        between = λ i month scenario h since until s.
            let at = found lines (suc i) month scenario h (le_of_lt until) (earlier i month h since) s in
            let e : suc i - 1 ≡ i = omega arith in
            sym (reply-between lines month scenario (suc i) _ at (λ z. lt_irrefl month (rw z at until)) (λ z. absurd (omega arith)) (line_at lines i) (rw e));
        neighbours = neighbour-prices;
        before = λ month scenario h. any-scenario lines month scenario (λ s. first-reaches lines month scenario s h);
        behind = λ month scenario all. any-scenario lines month scenario (λ s. all_short lines month scenario s all);
        no-scenario = λ month scenario h. sym (reply-no-scenario lines month scenario h);
      }
