-- Closed cases of the borrowings' cells, coupon classes and terms (02:CR 8; 003, Section 6.B). Each is computed.
-- Assumes nothing.
use mathlib.Core.Path.{◌≡◌, refl}
use mathlib.Core.Bool.{true, false}
use mathlib.Core.List.{[], ◌∷◌, map}
use Rattle.lists.specs.Ranges.{within}
use Rattle.form.specs.Borrowings.{coupon_cell, term_cell, borrowing, borrowing_at, within_class, within_term}

-- the first borrowing, the last of its class, the first of the next, and the last: class, term, and the cells of balance, coupon and months
first-borrowing : borrowing_at 0 ≡ record { class = 0; term = 0; balance = 675; coupon = 678; months = 711 }
unfolding coupon_cell term_cell borrowing borrowing_at
first-borrowing = refl

third-borrowing : borrowing_at 2 ≡ record { class = 0; term = 2; balance = 677; coupon = 678; months = 713 }
unfolding coupon_cell term_cell borrowing borrowing_at
third-borrowing = refl

fourth-borrowing : borrowing_at 3 ≡ record { class = 1; term = 0; balance = 679; coupon = 682; months = 711 }
unfolding coupon_cell term_cell borrowing borrowing_at
fourth-borrowing = refl

last-borrowing : borrowing_at 23 ≡ record { class = 7; term = 2; balance = 705; coupon = 706; months = 713 }
unfolding coupon_cell term_cell borrowing borrowing_at
last-borrowing = refl

-- the classes at their ends, and one beyond
lowest-class : map (within_class 0) (0 ∷ 499 ∷ 500 ∷ []) ≡ true ∷ true ∷ false ∷ []
unfolding within within_class
lowest-class = refl

second-class : map (within_class 1) (499 ∷ 500 ∷ 599 ∷ 600 ∷ []) ≡ false ∷ true ∷ true ∷ false ∷ []
unfolding within within_class
second-class = refl

highest-class : map (within_class 7) (1099 ∷ 1100 ∷ 1500 ∷ 1501 ∷ []) ≡ false ∷ true ∷ true ∷ false ∷ []
unfolding within within_class
highest-class = refl

-- the terms at their ends, and one beyond
short_term : map (within_term 0) (0 ∷ 1 ∷ 3 ∷ 4 ∷ []) ≡ false ∷ true ∷ true ∷ false ∷ []
unfolding within within_term
short_term = refl

middle-term : map (within_term 1) (3 ∷ 4 ∷ 36 ∷ 37 ∷ []) ≡ false ∷ true ∷ true ∷ false ∷ []
unfolding within within_term
middle-term = refl

long-term : map (within_term 2) (36 ∷ 37 ∷ 120 ∷ 121 ∷ []) ≡ false ∷ true ∷ true ∷ false ∷ []
unfolding within within_term
long-term = refl
