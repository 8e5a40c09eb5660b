-- Pairs of forwards in a list: one more month, all of a term, and what a change elsewhere leaves. Assumes nothing.
use Prim.Native.Nat.{ℕ, suc, ◌+◌, ◌*◌, ◌≤◌, ◌<◌}
use native.Mathlib.Omega.{arith}
use mathlib.Core.Path.{◌≡◌}
use mathlib.Core.Logic.{⊎_elim}
use mathlib.Core.List.{List}
use lib.IntN.{ℤ, pos, sub_ℕ}
use lib.ListN.{length, get_or, set}
use Rattle.lists.proofs.OrderLaws.{lt-or-le}
use Rattle.form.specs.Limits.{sheet_months}
use Rattle.pricing.specs.Scales.{rate_scale}
use Rattle.forward_rates.specs.Forwards.{Enclosing, ForwardPair, term_at}
use Rattle.forward_rates.proofs.TermLaws.{term-within}
use Rattle.forward_sheet.specs.Sheet.{forward_of, pairs_over, HoldsTerm}
use Rattle.forward_sheet.specs.Inner.Runs.{Changed}
use Rattle.forward_sheet.proofs.RateLaws.{growth-of-rate}
use Rattle.forward_sheet.proofs.ChangeLaws.{changed-two, first-of-two, second-of-two}

-- the pairs over a term and its months
pub over-is : (i : ℕ) → pairs_over i + term_at i ≡ suc sheet_months
unfolding pairs_over
over-is i = omega (arith, term-within i)

-- the pairs of the first n months are there
abbrev pub Pairs : (ℕ → ℕ) → ℕ → ℕ → ℕ → List ℤ → Type 0
Pairs growth i at n list =
    (month : ℕ) → month < n → ForwardPair (forward_of growth i month) (get_or list (at + 2 * month) (pos 0)) (get_or list (at + 2 * month + 1) (pos 0))

-- pairs over the term at an index, by the growths of the months
module _ (growth : ℕ → ℕ) (i at : ℕ) where
  -- those of a list that is changed behind them
  pairs-kept : (n : ℕ) {from to : ℕ} {before after : List ℤ} → Changed from to before after → at + 2 * n ≤ from → Pairs growth i at n before → Pairs growth i at n after
  pairs-kept n k h pairs month l =
      rw (k.below (at + 2 * month) (omega arith), k.below (at + 2 * month + 1) (omega arith)) (pairs month l)

  -- all months of the term
  pub pairs-all : {n : ℕ} (list : List ℤ) → pairs_over i ≤ n → Pairs growth i at n list → HoldsTerm growth i at list
  unfolding HoldsTerm
  pairs-all list h pairs month l = pairs month (omega (arith, over-is i))

  pub term-kept : {from to : ℕ} {before after : List ℤ} → Changed from to before after → at + 2 * pairs_over i ≤ from
      → HoldsTerm growth i at before → HoldsTerm growth i at after
  unfolding HoldsTerm
  term-kept k h holds month l =
      let within : month < pairs_over i = omega (arith, over-is i) in
      rw (k.below (at + 2 * month) (omega arith), k.below (at + 2 * month + 1) (omega arith)) (holds month l)

  -- one month more
  module _ (n lower upper : ℕ) (list : List ℤ) (fits : at + 2 * n + 1 < length list) (pair : Enclosing (forward_of growth i n) lower upper) where
    abbrev more : List ℤ
    more = set (set list (at + 2 * n) (sub_ℕ lower rate_scale)) (at + 2 * n + 1) (sub_ℕ upper rate_scale)

    here : (month : ℕ) → month ≡ n → ForwardPair (forward_of growth i month) (get_or more (at + 2 * month) (pos 0)) (get_or more (at + 2 * month + 1) (pos 0))
    here month e =
        rw (
          e,
          first-of-two list (at + 2 * n) (sub_ℕ lower rate_scale) (sub_ℕ upper rate_scale) fits,
          second-of-two list (at + 2 * n) (sub_ℕ lower rate_scale) (sub_ℕ upper rate_scale) fits,
          growth-of-rate lower,
          growth-of-rate upper,
        )
        pair

    pub pairs-more : Pairs growth i at n list → Pairs growth i at (n + 1) more
    pairs-more pairs month h =
        ⊎_elim (λ l. pairs-kept n (changed-two list (at + 2 * n) (sub_ℕ lower rate_scale) (sub_ℕ upper rate_scale) fits) (omega arith) pairs month l)
        (λ l. here month (omega arith)) (lt-or-le month n)
