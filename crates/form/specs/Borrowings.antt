-- The cells of Schedule CMR for fixed-rate, fixed-maturity borrowings (02:CR 8; 003, Section 6.B). Definitions only.
use Rattle.std.specs.Prelude.{ℕ, ◌+◌, ◌*◌, ◌/◌, ◌%◌, Bool, [], ◌∷◌, get_or}
use Rattle.lists.specs.Ranges.{within}
use Rattle.form.specs.declared.borrowings.Borrowing.{Borrowing}
use Rattle.form.specs.Limits.{filed_coupon_limit}

-- eight coupon classes of three terms each (003, Section 6.B)
abbrev pub coupon_classes : ℕ
coupon_classes = 8

abbrev pub borrowing_terms : ℕ
borrowing_terms = 3

abbrev pub borrowing_count : ℕ
borrowing_count = 24

-- the cell of a class's coupon (WAC), hundredths of a percent a year; and of a term's remaining months (WARM), months
unfoldable pub coupon_cell : ℕ → ℕ
coupon_cell class = 678 + 4 * class

unfoldable pub term_cell : ℕ → ℕ
term_cell term = 711 + term

-- the borrowing of a class, 0 to 7, and a term, 0 to 2, and the numbers of its cells; the balance is in thousands of dollars (02:CR 8)
unfoldable pub borrowing : ℕ → ℕ → Borrowing
borrowing c t = record { class = c; term = t; balance = 675 + 4 * c + t; coupon = coupon_cell c; months = term_cell t }

-- the borrowing at an index, 0 to 23, by ascending balance cell
unfoldable pub borrowing_at : ℕ → Borrowing
borrowing_at i = borrowing (i / borrowing_terms) (i % borrowing_terms)

-- the total of the twenty-four balances (02:CR 8), thousands of dollars
abbrev pub borrowings_total_cell : ℕ
borrowings_total_cell = 715

-- the least and the most coupon of a class as printed (02:CR 8), hundredths of a percent a year; "1,100 up" ends at the coupon's limit
abbrev pub least_coupon : ℕ → ℕ
least_coupon class = get_or (0 ∷ 500 ∷ 600 ∷ 700 ∷ 800 ∷ 900 ∷ 1000 ∷ 1100 ∷ []) class 0

abbrev pub most_coupon : ℕ → ℕ
most_coupon class = get_or (499 ∷ 599 ∷ 699 ∷ 799 ∷ 899 ∷ 999 ∷ 1099 ∷ filed_coupon_limit ∷ []) class 0

-- a coupon of c hundredths of a percent lies within the class
unfoldable pub within_class : ℕ → ℕ → Bool
within_class class c = within (least_coupon class) (most_coupon class) c

-- the least and the most remaining months of a term (02:CR 8)
abbrev pub least_term : ℕ → ℕ
least_term term = get_or (1 ∷ 4 ∷ 37 ∷ []) term 0

abbrev pub most_term : ℕ → ℕ
most_term term = get_or (3 ∷ 36 ∷ 120 ∷ []) term 0

-- m months lie within the term
unfoldable pub within_term : ℕ → ℕ → Bool
within_term term m = within (least_term term) (most_term term) m
