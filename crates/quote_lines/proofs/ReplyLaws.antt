-- The reply in each of its cases, by the line that is reached first. Assumes nothing.
use Prim.Native.Nat.{ℕ, zero, suc, ◌-◌, ◌≤◌, ◌<◌}
use native.Mathlib.Omega.{arith}
use mathlib.Core.Path.{◌≡◌, refl, sym, ap, ◌∙◌}
use mathlib.Core.List.{List}
use borrow.Author.Tests.{le-leb, lt-leb, eq-eqb, ne_eqb}
use lib.Arith.{lt_of_le-ne}
use lib.Ieee.{Float}
use lib.ListN.{length}
use Rattle.form.specs.Shift.{scenario_count}
use Rattle.quote_prices.specs.declared.PriceLine.{PriceLine}
use Rattle.quote_prices.specs.PriceLines.{price_in}
use Rattle.quote_prices.specs.Interpolation.{price_between}
use Rattle.quote_lines.specs.declared.Reply.TheVariants.{Listed, Between, Outside}
use Rattle.quote_lines.specs.Lines.{line_at, months_at, line_count, line_in, lines_of}
use Rattle.quote_lines.specs.Replies.{reached_line, reply_short, reply_at, reply_of}
use Rattle.quote_lines.proofs.LineLaws.{lines-length, line_read}
use Rattle.quote_lines.proofs.ReachLaws.{reached-months, before-reached}

-- a month that no line lists, short of line i
short-first : (lines : List PriceLine) (month scenario i : ℕ) → i ≡ 0 → reply_short lines month scenario i ≡ Outside
unfolding reply_short
short-first lines month scenario i z = rw z

short-later : (lines : List PriceLine) (month scenario i : ℕ) → (i ≡ 0 → ⊥)
    → reply_short lines month scenario i ≡ Between (price_between (line_at lines (i - 1)) (line_at lines i) month scenario)
unfolding reply_short
short-later lines month scenario zero none = absurd (none refl)
short-later lines month scenario (suc i) none =
    let e : suc i - 1 ≡ i = omega arith in
    rw e

pred_lt : (i : ℕ) → (i ≡ 0 → ⊥) → i - 1 < i
pred_lt zero some = absurd (some refl)
pred_lt (suc i) some = omega arith

module _ (lines : List PriceLine) (month scenario : ℕ) where
  -- no such scenario
  pub reply-no-scenario : scenario_count ≤ scenario → Outside ≡ reply_of lines month scenario
  unfolding reply_of
  reply-no-scenario h = rw (le-leb scenario_count scenario h)

  module _ (i : ℕ) (e : i ≡ reached_line lines month) (h : scenario < scenario_count) where
    reply-is : reply_at lines month scenario i ≡ reply_of lines month scenario
    unfolding reply_of
    reply-is = rw (lt-leb scenario_count scenario h, e)

    -- no line reaches the month
    at-past : length lines ≤ i → reply_at lines month scenario i ≡ Outside
    unfolding reply_at
    at-past l = rw (le-leb (length lines) i l)

    pub reply-past : length lines ≤ i → Outside ≡ reply_of lines month scenario
    reply-past l = sym (at-past l) ∙ reply-is

-- the line i that is reached first, for a scenario that there is
pub record Found (lines : List PriceLine) (month scenario i : ℕ) (line : PriceLine) : Type 0 where
  pub reached : i ≡ reached_line lines month
  pub within : i < length lines
  pub there : scenario < scenario_count
  pub is : line ≡ line_at lines i

-- read from two lists
pub found-line : (months : List ℕ) (prices : List Float) (month scenario i : ℕ) (line : PriceLine)
    → (i < line_count months prices) × (i ≡ reached_line (lines_of months prices) month)
    → scenario < scenario_count
    → line ≡ line_in months prices i
    → Found (lines_of months prices) month scenario i line
found-line months prices month scenario i line r s e =
    record { reached = r.1; within = rw (lines-length months prices) r.0; there = s; is = line_read months prices i r.0 e }

module _ (lines : List PriceLine) (month scenario i : ℕ) (line : PriceLine) (f : Found lines month scenario i line) where
  months-are : line.months ≡ months_at lines i
  months-are = ap (λ (l : PriceLine). l.months) f.is

  -- it lists the month
  at_listed : line.months ≡ month → reply_at lines month scenario i ≡ Listed (price_in line scenario)
  unfolding reply_at
  at_listed m = rw (lt-leb (length lines) i f.within, eq-eqb (months_at lines i) month (sym months-are ∙ m), f.is)

  pub reply-listed : line.months ≡ month → Listed (price_in line scenario) ≡ reply_of lines month scenario
  reply-listed m = sym (at_listed m) ∙ reply-is lines month scenario i f.reached f.there

  -- it does not
  module _ (n : line.months ≡ month → ⊥) where
    pub month-until : month < line.months
    month-until = lt_of_le-ne (rw (months-are, f.reached) (reached-months lines month (rw (sym f.reached) f.within))) (λ e. n (sym e))

    at-short : reply_at lines month scenario i ≡ reply_short lines month scenario i
    unfolding reply_at
    at-short = rw (lt-leb (length lines) i f.within, ne_eqb (months_at lines i) month (λ e. n (months-are ∙ e)))

    short-is : reply_short lines month scenario i ≡ reply_of lines month scenario
    short-is = sym at-short ∙ reply-is lines month scenario i f.reached f.there

    -- it is the first line
    pub reply-before : i ≡ 0 → Outside ≡ reply_of lines month scenario
    reply-before z = sym (short-first lines month scenario i z) ∙ short-is

    -- the month stands between the line before and it
    module _ (some : i ≡ 0 → ⊥) (before : PriceLine) (b : before ≡ line_at lines (i - 1)) where
      pub month-since : before.months < month
      month-since = rw b (before-reached lines month (i - 1) (rw (sym f.reached) (pred_lt i some)))

      pub reply-between : Between (price_between before line month scenario) ≡ reply_of lines month scenario
      reply-between = rw (b, f.is) (sym (short-later lines month scenario i some) ∙ short-is)
