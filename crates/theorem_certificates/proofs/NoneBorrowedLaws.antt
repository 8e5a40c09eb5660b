-- Cells of which the twenty-four borrowings and their total are 0 (02:CR 8): nothing is borrowed, and 19, 7 and 9 of the borrowings do not hold.
-- Assumes nothing.
use Prim.Native.Nat.{ℕ, zero, suc, ◌+◌, ◌*◌, ◌<◌}
use native.Mathlib.Omega.{arith}
use mathlib.Core.Path.{◌≡◌, refl, sym, subst, ◌∙◌}
use mathlib.Core.Bool.{Bool, false}
use mathlib.Core.List.{List}
use borrow.Author.Tests.{eq-eqb}
use Rattle.lists.specs.Sums.{sum}
use Rattle.lists.specs.Tables.{table_from, any_below}
use Rattle.form.specs.Borrowings.{coupon_classes, borrowing_terms, borrowing_count, borrowing, borrowing_at, borrowings_total_cell}
use Rattle.form.proofs.BorrowingLaws.{borrowing-index}
use Rattle.answers.specs.Verdict.{Verdict, accepted, refused_if, first_refusal, first_of}
use Rattle.filing_cells.specs.Balances.{cell_in}
use Rattle.filing_cells.specs.BorrowingConditions.{filled, class_borrowed, term_borrowed, some_borrowed, coupon_outside, term_outside, borrowings, borrowings_differ}
use Rattle.filing_cells.specs.BorrowingVerdicts.{coupon_verdict, coupons_verdict, term_verdict, terms_verdict, borrowings_verdict}
use Rattle.filing_cells.proofs.BorrowingLaws.{filled-false}

-- verdicts of which none refuses
pub none-refuses : (verdict : ℕ → Verdict) (j n : ℕ) → ((i : ℕ) → i < j + n → verdict i ≡ accepted) → first_of (table_from j n verdict) ≡ accepted
unfolding first_of table_from first_refusal accepted
none-refuses verdict j zero f = refl
none-refuses verdict j (suc n) f = rw (f j (omega arith)) (none-refuses verdict (suc j) n (λ i l. f i (omega arith)))

-- a test that no number passes, and numbers that are all 0
none_passes : (test : ℕ → Bool) (n : ℕ) → ((i : ℕ) → i < n → test i ≡ false) → any_below test n ≡ false
unfolding any_below
none_passes test zero f = refl
none_passes test (suc n) f = rw (none_passes test n (λ i l. f i (omega arith)), f n (omega arith))

zeros-sum : (f : ℕ → ℕ) (j n : ℕ) → ((i : ℕ) → i < j + n → f i ≡ 0) → sum (table_from j n f) ≡ 0
unfolding sum table_from
zeros-sum f j zero h = refl
zeros-sum f j (suc n) h = omega (arith, h j (omega arith), zeros-sum f (suc j) n (λ i l. h i (omega arith)))

module _ (cells : List ℕ) (none : (i : ℕ) → i < borrowing_count → cell_in cells (borrowing_at i).balance ≡ 0) where
  -- 18: nothing is borrowed
  pub none-some : some_borrowed cells ≡ false
  unfolding some_borrowed
  none-some = none_passes _ 24 (λ i l. filled-false cells (borrowing_at i).balance refl (none i l))

  -- neither in a class nor in a term
  empty : (class term : ℕ) → class < coupon_classes → term < borrowing_terms → filled cells (borrowing class term).balance ≡ false
  empty class term l m =
      subst (λ b. filled cells b.balance ≡ false) (borrowing-index class term m)
      (filled-false cells (borrowing_at (3 * class + term)).balance refl (none (3 * class + term) (omega arith)))

  coupon-passes : (class : ℕ) → class < coupon_classes → coupon_verdict cells class ≡ accepted
  unfolding coupon_verdict coupon_outside class_borrowed refused_if
  coupon-passes class l = rw (none_passes _ 3 (λ term m. empty class term l m))

  term-passes : (term : ℕ) → term < borrowing_terms → term_verdict cells term ≡ accepted
  unfolding term_verdict term_outside term_borrowed refused_if
  term-passes term m = rw (none_passes _ 8 (λ class l. empty class term l m))

  -- 19 and 7
  pub coupons-pass : coupons_verdict cells ≡ accepted
  unfolding coupons_verdict
  coupons-pass = none-refuses (coupon_verdict cells) 0 8 coupon-passes

  pub terms-pass : terms_verdict cells ≡ accepted
  unfolding terms_verdict
  terms-pass = none-refuses (term_verdict cells) 0 3 term-passes

  -- 9: the total is the sum
  pub borrowings-pass : cell_in cells borrowings_total_cell ≡ 0 → borrowings_verdict cells ≡ accepted
  unfolding borrowings_verdict borrowings_differ borrowings refused_if
  borrowings-pass total =
      let same : cell_in cells borrowings_total_cell ≡ sum (borrowings cells) = total ∙ sym (zeros-sum _ 0 24 none) in
      rw (eq-eqb (cell_in cells borrowings_total_cell) (sum (borrowings cells)) same)
