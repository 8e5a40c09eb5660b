-- The borrowings' conditions 18, 19, 7 and 9: a balance that is not zero, those of a class and of a term, and what holds of cells that are not refused.
-- Assumes nothing.
use Prim.Native.Nat.{ℕ, zero, suc, ◌/◌, ◌%◌, ◌≤◌, ◌<◌}
use native.Mathlib.Omega.{arith}
use mathlib.Core.Path.{◌≡◌, refl, sym, ap, ◌∙◌}
use mathlib.Core.Bool.{Bool, true, false, not, ◌&&◌}
use mathlib.Core.List.{List}
use borrow.Author.Tests.{eq-eqb, ne_eqb, eqb-true, not-false}
use lib.Dec.{eqb}
use Rattle.lists.specs.Sums.{sum}
use Rattle.lists.specs.Tables.{any_below}
use Rattle.lists.proofs.TestLaws.{any_here, any-fails}
use Rattle.form.specs.Borrowings.{coupon_classes, borrowing_terms, borrowing_count, coupon_cell, term_cell, borrowing, borrowing_at, borrowings_total_cell, within_class, within_term}
use Rattle.form.specs.Limits.{months_limit}
use Rattle.form.proofs.BorrowingLaws.{term-months}
use Rattle.answers.proofs.VerdictLaws.{tried-none, condition-fails}
use Rattle.filing_cells.specs.Balances.{cell_in}
use Rattle.filing_cells.specs.BorrowingConditions.{filled, class_borrowed, term_borrowed, some_borrowed, coupon_outside, term_outside, borrowings, borrowings_differ}
use Rattle.filing_cells.specs.BorrowingVerdicts.{coupon_verdict, coupons_verdict, term_verdict, terms_verdict, borrowings_verdict}
use Rattle.filing_cells.specs.Inner.Borrowed.{some_from}

any-ext : (f g : ℕ → Bool) (n : ℕ) → ((i : ℕ) → f i ≡ g i) → any_below f n ≡ any_below g n
unfolding any_below
any-ext f g zero h = refl
any-ext f g (suc n) h = rw (any-ext f g n h, h n)

-- a test that holds and another that does not fail together
second_holds : (a b : Bool) → a ≡ true → (a && not b) ≡ false → b ≡ true
second_holds a b e h = not-false b (rw e at h)

term-below : (i : ℕ) → (borrowing_at i).term < borrowing_terms
unfolding borrowing_at borrowing
term-below i = omega arith

module _ (cells : List ℕ) where
  -- a value that is not zero, and one that is
  pub filled-true : {v : ℕ} (n : ℕ) → v ≡ cell_in cells n → (v ≡ 0 → ⊥) → filled cells n ≡ true
  unfolding filled
  filled-true n e h = ap not (ne_eqb (cell_in cells n) 0 (λ z. h (e ∙ z)))

  pub filled-false : {v : ℕ} (n : ℕ) → v ≡ cell_in cells n → v ≡ 0 → filled cells n ≡ false
  unfolding filled
  filled-false n e h = ap not (eq-eqb (cell_in cells n) 0 (sym e ∙ h))

  filled_zero : (n : ℕ) → filled cells n ≡ false → cell_in cells n ≡ 0
  unfolding filled
  filled_zero n h = eqb-true (cell_in cells n) 0 (not-false (eqb (cell_in cells n) 0) h)

  -- the balances of a class stand one behind the other, those of a term four apart
  pub class-from : (class : ℕ) → some_from cells (borrowing class 0).balance 1 borrowing_terms ≡ class_borrowed cells class
  unfolding some_from class_borrowed borrowing
  class-from class = any-ext _ _ 3 (λ i. ap (filled cells) (omega arith))

  pub term-from : (term : ℕ) → some_from cells (borrowing 0 term).balance 4 coupon_classes ≡ term_borrowed cells term
  unfolding some_from term_borrowed borrowing
  term-from term = any-ext _ _ 8 (λ i. ap (filled cells) (omega arith))

  -- where 18 asks for no sheet, each of the twenty-four balances is zero
  pub none-borrowed : some_borrowed cells ≡ false → (i : ℕ) → i < borrowing_count → cell_in cells (borrowing_at i).balance ≡ 0
  unfolding some_borrowed
  none-borrowed h i l = filled_zero (borrowing_at i).balance (any-fails _ 24 h i l)

  -- a balance that is not zero is one of its class and one of its term
  class-has : (class term : ℕ) → term < borrowing_terms → 0 < cell_in cells (borrowing class term).balance → class_borrowed cells class ≡ true
  unfolding class_borrowed
  class-has class term l h =
      any_here (λ (t : ℕ). filled cells (borrowing class t).balance) 3 term l
      (filled-true (borrowing class term).balance refl (λ z. omega arith))

  term-has : (class term : ℕ) → class < coupon_classes → 0 < cell_in cells (borrowing class term).balance → term_borrowed cells term ≡ true
  unfolding term_borrowed
  term-has class term l h =
      any_here (λ (k : ℕ). filled cells (borrowing k term).balance) 8 class l
      (filled-true (borrowing class term).balance refl (λ z. omega arith))

  -- 19 holds at no class: one with a balance has its coupon within it
  pub coupons-hold : (coupons_verdict cells).number ≡ 0
      → (class : ℕ) → class < coupon_classes → class_borrowed cells class ≡ true
      → within_class class (cell_in cells (coupon_cell class)) ≡ true
  unfolding coupons_verdict coupon_verdict coupon_outside
  coupons-hold passed class l h =
      second_holds (class_borrowed cells class) (within_class class (cell_in cells (coupon_cell class))) h
      (condition-fails (coupon_outside cells class) 18 (coupon_cell class) (tried-none (coupon_verdict cells) 8 passed class l))

  -- 7 holds at no term: one with a balance has its months within it
  pub terms-hold : (terms_verdict cells).number ≡ 0
      → (term : ℕ) → term < borrowing_terms → term_borrowed cells term ≡ true
      → within_term term (cell_in cells (term_cell term)) ≡ true
  unfolding terms_verdict term_verdict term_outside
  terms-hold passed term l h =
      second_holds (term_borrowed cells term) (within_term term (cell_in cells (term_cell term))) h
      (condition-fails (term_outside cells term) 6 (term_cell term) (tried-none (term_verdict cells) 3 passed term l))

  -- 9 does not hold: the total is the sum of the twenty-four balances
  pub borrowings-total-holds : (borrowings_verdict cells).number ≡ 0 → cell_in cells borrowings_total_cell ≡ sum (borrowings cells)
  unfolding borrowings_verdict borrowings_differ
  borrowings-total-holds passed =
      eqb-true (cell_in cells borrowings_total_cell) (sum (borrowings cells))
      (not-false (eqb (cell_in cells borrowings_total_cell) (sum (borrowings cells)))
      (condition-fails (borrowings_differ cells) 8 borrowings_total_cell passed))

  -- so each borrowing that is not zero has its coupon within its class and its months within its term, 1 to 120
  pub borrowing-coupon : (coupons_verdict cells).number ≡ 0
      → (i : ℕ) → i < borrowing_count → 0 < cell_in cells (borrowing_at i).balance
      → within_class (borrowing_at i).class (cell_in cells (borrowing_at i).coupon) ≡ true
  unfolding borrowing_at borrowing
  borrowing-coupon passed i l h =
      coupons-hold passed (i / 3) (omega arith) (class-has (i / 3) (i % 3) (omega arith) h)

  pub borrowing-months : (terms_verdict cells).number ≡ 0
      → (i : ℕ) → i < borrowing_count → 0 < cell_in cells (borrowing_at i).balance
      → within_term (borrowing_at i).term (cell_in cells (borrowing_at i).months) ≡ true
  unfolding borrowing_at borrowing
  borrowing-months passed i l h =
      terms-hold passed (i % 3) (omega arith) (term-has (i / 3) (i % 3) (omega arith) h)

  pub borrowing-months-range : (terms_verdict cells).number ≡ 0
      → (i : ℕ) → i < borrowing_count → 0 < cell_in cells (borrowing_at i).balance
      → (1 ≤ cell_in cells (borrowing_at i).months) × (cell_in cells (borrowing_at i).months ≤ months_limit)
  borrowing-months-range passed i l h =
      term-months (borrowing_at i).term (cell_in cells (borrowing_at i).months) (term-below i) (borrowing-months passed i l h)
