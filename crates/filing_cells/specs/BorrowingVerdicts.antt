-- The verdicts on the borrowings among the cells of a filing (02:CR 8): 19, 7 and 9, each by ascending cell number. Definitions only.
use Rattle.std.specs.Prelude.{ℕ, List}
use Rattle.lists.specs.Tables.{table}
use Rattle.form.specs.Borrowings.{coupon_classes, borrowing_terms, coupon_cell, term_cell, borrowings_total_cell}
use Rattle.answers.specs.Verdict.{Verdict, refused_if, first_of}
use Rattle.filing_cells.specs.BorrowingConditions.{coupon_outside, term_outside, borrowings_differ}

-- 19 at a class, at its WAC cell; and the first of the eight
unfoldable pub coupon_verdict : List ℕ → ℕ → Verdict
coupon_verdict cells class = refused_if (coupon_outside cells class) 19 (coupon_cell class)

unfoldable pub coupons_verdict : List ℕ → Verdict
coupons_verdict cells = first_of (table coupon_classes (coupon_verdict cells))

-- 7 at a term, at its WARM cell; and the first of the three
unfoldable pub term_verdict : List ℕ → ℕ → Verdict
term_verdict cells term = refused_if (term_outside cells term) 7 (term_cell term)

unfoldable pub terms_verdict : List ℕ → Verdict
terms_verdict cells = first_of (table borrowing_terms (term_verdict cells))

-- 9, at the total
unfoldable pub borrowings_verdict : List ℕ → Verdict
borrowings_verdict cells = refused_if (borrowings_differ cells) 9 borrowings_total_cell
