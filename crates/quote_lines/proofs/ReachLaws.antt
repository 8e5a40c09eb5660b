-- The search for the first line that reaches a month, step by step; and what is known of the line that it finds. Assumes nothing.
use Prim.Native.Nat.{ℕ, ◌≤◌, ◌<◌}
use native.Mathlib.Nat.{not-le_of_lt}
use native.Mathlib.Omega.{arith}
use mathlib.Core.Path.{◌≡◌, sym, ◌∙◌}
use mathlib.Core.Logic.{⊎_elim}
use mathlib.Core.Bool.{Bool}
use mathlib.Core.List.{List}
use borrow.Author.Tests.{le-leb, lt-leb, leb-true, leb-false}
use lib.Dec.{leb}
use lib.Ieee.{Float}
use lib.ListN.{length, get_or, take}
use Rattle.std.specs.Prelude.{Option, None, Some, MatchOption}
use Rattle.std.specs.List.{AllWithin, HoldsAt}
use Rattle.std.proofs.lemmas.List.{length-take-le, get_or-take}
use Rattle.lists.proofs.OrderLaws.{lt-or-le}
use Rattle.lists.proofs.RangeLaws.{least-is, least-passes, least-fails}
use Rattle.quote_prices.specs.declared.PriceLine.{PriceLine}
use Rattle.quote_lines.specs.Lines.{months_at, line_count, lines_of}
use Rattle.quote_lines.specs.Replies.{reached_line}
use Rattle.quote_lines.proofs.LineLaws.{count-within, lines-length, month-is}

module _ (lines : List PriceLine) (month : ℕ) where
  -- line i reaches the month
  abbrev reaches : ℕ → Bool
  reaches i = leb month (months_at lines i)

  -- the line found reaches the month, and no line before it does
  pub reached-months : reached_line lines month < length lines → month ≤ months_at lines (reached_line lines month)
  unfolding reached_line
  reached-months h = leb-true _ _ (least-passes reaches 0 (length lines) (omega arith))

  pub before-reached : (i : ℕ) → i < reached_line lines month → months_at lines i < month
  unfolding reached_line
  before-reached i h = leb-false _ _ (least-fails reaches 0 (length lines) i (omega arith) h)

  -- a line that reaches the month, where no line before it does, is found; where none does, the search ends behind the last
  pub reached-is : (i : ℕ) → i < length lines → month ≤ months_at lines i → ((j : ℕ) → j < i → months_at lines j < month) → i ≡ reached_line lines month
  unfolding reached_line
  reached-is i h l before = sym (least-is reaches 0 (length lines) i (omega arith) (omega arith) (le-leb _ _ l) (λ j m b. lt-leb _ _ (before j b)))

  pub reached-none : ((i : ℕ) → i < length lines → months_at lines i < month) → length lines ≤ reached_line lines month
  reached-none all =
      ⊎_elim (λ h. absurd (not-le_of_lt (all (reached_line lines month) h) (reached-months h))) (λ h. h) (lt-or-le (reached_line lines month) (length lines))

-- the first of the months of two lists' lines that is at least the month
module _ (months : List ℕ) (prices : List Float) (month : ℕ) where
  abbrev lines : List PriceLine
  lines = lines_of months prices

  abbrev listed : List ℕ
  listed = take (line_count months prices) months

  counted : length listed ≡ line_count months prices
  counted = length-take-le (line_count months prices) months (count-within months prices)

  listed-is : (i : ℕ) → i < line_count months prices → get_or listed i 0 ≡ months_at lines i
  listed-is i h = get_or-take (line_count months prices) months i 0 h ∙ sym (month-is months prices i h)

  pub position-reached : (r : Option ℕ)
      → MatchOption r (AllWithin (λ (m : ℕ). m < month) listed 0 (length listed))
      (λ i. (i < length listed) × HoldsAt (λ (m : ℕ). month ≤ m) listed i × AllWithin (λ (m : ℕ). m < month) listed 0 i)
      → MatchOption r (line_count months prices ≤ reached_line lines month) (λ i. (i < line_count months prices) × (i ≡ reached_line lines month))
  position-reached None all =
      rw (sym (lines-length months prices))
      (reached-none lines month (λ i h. let l : i < line_count months prices = rw (lines-length months prices) at h in
      rw (sym (listed-is i l)) (all i 0 (omega arith) (rw counted l))))
  position-reached (Some i) (within, reaches, before) =
      let l : i < line_count months prices = rw counted at within in (
        l,
        reached-is lines month i (rw (lines-length months prices) l) (rw (sym (listed-is i l)) (reaches 0))
            (λ j u. rw (sym (listed-is j (omega arith))) (before j 0 (omega arith) u)),
      )
