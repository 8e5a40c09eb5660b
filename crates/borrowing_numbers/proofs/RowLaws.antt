-- The borrowings as the code goes through them: the longest term, and a row by the discount factors of a sheet. Assumes nothing.
use Prim.Native.Nat.{ℕ, zero, suc, ◌≤◌, ◌<◌, max, zero-le}
use native.Mathlib.Nat.{le_trans, max-le, eq-or-lt_of_le, le_of_suc-le-suc}
use native.Mathlib.Omega.{arith}
use mathlib.Core.Logic.{⊎_elim}
use mathlib.Core.Path.{◌≡◌, refl, sym, ap, subst, ◌∙◌}
use mathlib.Core.Bool.{Bool, true, false, cond}
use mathlib.Core.List.{List, ◌∷◌, append-nil}
use borrow.Author.Tests.{eq-eqb, ne_eqb}
use lib.Dec.{eqb}
use lib.ListN.{length, replicate}
use Rattle.lists.specs.Runs.{written}
use Rattle.lists.proofs.TableLaws.{joined_length}
use Rattle.form.specs.Borrowings.{borrowing_count}
use Rattle.form.specs.Counts.{place_value_count, place_number_count}
use Rattle.form.specs.Limits.{months_limit}
use Rattle.form.specs.Shift.{scenario_count}
use Rattle.pricing.specs.Rounding.{down, up}
use Rattle.borrowing_prices.specs.Inner.Tabled.{bounds_with, tabled_values}
use Rattle.borrowing_prices.specs.Run.{interest_by, bounds_by, values_by}
use Rattle.borrowing_prices.proofs.ValueLaws.{values-are}
use Rattle.price_factors.specs.Inner.Factors.{factors_by, sheet_yield}
use Rattle.borrowing_numbers.specs.Borrowed.{balance_of, coupon_of, months_of, borrowed_by}
use Rattle.borrowing_numbers.specs.Numbers.{bounds_of, borrowing_numbers}
use Rattle.borrowing_numbers.specs.Inner.Rows.{BorrowingLimits, term_at, longest_to, row_with}

max-left : (a b : ℕ) → a ≤ max a b
max-left a b = omega arith

max-right : (a b : ℕ) → b ≤ max a b
max-right a b = omega arith

module _ (cells : List ℕ) where
  -- the months of a borrowing without a balance, and with one
  pub term-none : (i : ℕ) → balance_of cells i ≡ 0 → 0 ≡ term_at cells i
  unfolding term_at
  term-none i h = rw (eq-eqb (balance_of cells i) 0 h)

  pub term-some : (i : ℕ) → (balance_of cells i ≡ 0 → ⊥) → months_of cells i ≡ term_at cells i
  unfolding term_at
  term-some i h = rw (ne_eqb (balance_of cells i) 0 h)

  -- no longer term among the first n than the longest
  longest-ge : (n i : ℕ) → i < n → term_at cells i ≤ longest_to cells n
  unfolding longest_to
  longest-ge zero i h = absurd (omega arith)
  longest-ge (suc n) i h =
      ⊎_elim (λ e. subst (λ (j : ℕ). term_at cells j ≤ max (longest_to cells n) (term_at cells n)) (sym e) (max-right (longest_to cells n) (term_at cells n)))
      (λ l. le_trans (longest-ge n i l) (max-left (longest_to cells n) (term_at cells n))) (eq-or-lt_of_le (le_of_suc-le-suc h))

  pub months-within : (i : ℕ) → i < borrowing_count → 0 < balance_of cells i → months_of cells i ≤ longest_to cells borrowing_count
  months-within i h pos = rw (term-some i (λ e. omega arith)) (longest-ge borrowing_count i h)

  module _ (limits : BorrowingLimits cells) where
    term-le : (i : ℕ) → i < borrowing_count → term_at cells i ≤ months_limit
    unfolding term_at
    term-le i h = by (eqb (balance_of cells i) 0)
      where
        by : (b : Bool) → cond b 0 (months_of cells i) ≤ months_limit
        by true = zero-le
        by false = limits.months-le i h

    longest-le : (n : ℕ) → n ≤ borrowing_count → longest_to cells n ≤ months_limit
    unfolding longest_to
    longest-le zero h = zero-le
    longest-le (suc n) h = max-le (longest-le n (omega arith)) (term-le n h)

    -- the row by the factors of a sheet is that of the definitions
    pub row_is : (libor : List ℕ) (i : ℕ) → i < borrowing_count
        → row_with cells (factors_by down libor (longest_to cells borrowing_count)) (factors_by up libor (longest_to cells borrowing_count)) i
        ≡ borrowing_numbers cells (sheet_yield libor) i
    unfolding row_with borrowing_numbers bounds_of values_by bounds_by borrowed_by
    row_is libor i h =
        rw (values-are libor (longest_to cells borrowing_count) (balance_of cells i) (coupon_of cells i) (months_of cells i) (limits.months-le i h) (months-within i h))

-- a borrowing has two values in a scenario, and fourteen in all
bounds-length : (balance below above months : ℕ) (lower upper : List ℕ) (s : ℕ) → length (bounds_with balance below above months lower upper s) ≡ 2
unfolding bounds_with
bounds-length balance below above months lower upper s = refl

values_length : (balance c months : ℕ) (lower upper : List ℕ) → length (tabled_values balance c months lower upper) ≡ place_value_count
unfolding tabled_values
values_length balance c months lower upper =
    joined_length 2 0 scenario_count (bounds_with balance (interest_by down c) (interest_by up c) months lower upper) (bounds-length _ _ _ _ _ _)

-- a balance in each of fifteen places, and the fourteen values behind the first
pub row_written : (balance c months : ℕ) (lower upper : List ℕ) → written (replicate place_number_count balance) 1 (tabled_values balance c months lower upper)
    ≡ balance ∷ tabled_values balance c months lower upper
unfolding written
row_written balance c months lower upper =
    rw (values_length balance c months lower upper) (ap (λ (l : List ℕ). balance ∷ l) (append-nil (tabled_values balance c months lower upper)))

-- tables of discount factors that reach as far as the longest term
pub record Tables (cells libor lower upper : List ℕ) : Type 0 where
  pub lower-is : lower ≡ factors_by down libor (longest_to cells borrowing_count)
  pub upper_is : upper ≡ factors_by up libor (longest_to cells borrowing_count)

pub tables-made : (cells libor lower upper : List ℕ) (longest : ℕ) → longest ≡ longest_to cells borrowing_count → lower ≡ factors_by down libor longest
    → upper ≡ factors_by up libor longest → Tables cells libor lower upper
tables-made cells libor lower upper longest e l u = record { lower-is = l ∙ ap (factors_by down libor) e; upper_is = u ∙ ap (factors_by up libor) e }

-- the row by such tables is that of the definitions
pub table-row : (cells libor lower upper : List ℕ) → Tables cells libor lower upper → BorrowingLimits cells → (i : ℕ) → i < borrowing_count
    → row_with cells lower upper i ≡ borrowing_numbers cells (sheet_yield libor) i
table-row cells libor lower upper t limits i h = rw (t.lower-is, t.upper_is) (row_is cells limits libor i h)
