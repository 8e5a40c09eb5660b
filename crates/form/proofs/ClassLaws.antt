-- The cells before the first and behind the last are not listed, and the listed ones lie between.
-- Assumes nothing.
use Prim.Native.Nat.{ℕ, ◌<◌, ◌≤◌}
use native.Mathlib.Omega.{arith}
use mathlib.Core.Path.{◌≡◌, refl}
use mathlib.Core.Logic.{◌⊎◌, inl, inr, ⊎_elim}
use mathlib.Core.Bool.{Bool, true, false, cond, ◌&&◌, ◌||◌}
use mathlib.Core.List.{List, [], ◌∷◌, map}
use borrow.Author.Tests.{ltb-true, ltb-false, ne_eqb}
use lib.Dec.{T, leb, ltb, eqb, leb→le}
use Rattle.lists.specs.Tables.{contains, table, table_from}
use Rattle.lists.proofs.TestLaws.{either}
use Rattle.form.specs.declared.Position.{Position}
use Rattle.form.specs.Cells.{position, positions, brokered_cell, penalty_balance_cell, penalty_months_cell, total_cell, unused_cells, first_cell, last_cell}
use Rattle.form.specs.Borrowings.{borrowing, borrowing_at, coupon_cell, term_cell, borrowing_count, coupon_classes, borrowing_terms, borrowings_total_cell}
use Rattle.form.specs.Classes.{cell_class, class_count}

-- each number of the list lies from the first cell to the last
abbrev in_range : List ℕ → Bool
in_range [] = true
in_range (x ∷ xs) = leb first_cell x && (leb x last_cell && in_range xs)

abbrev Outside : ℕ → Type 0
Outside x = (x < first_cell) ⊎ (last_cell < x)

outside-ne : (x y : ℕ) → Outside x → first_cell ≤ y → y ≤ last_cell → eqb x y ≡ false
outside-ne x y o l u = ne_eqb x y (λ e. ⊎_elim (λ h. omega arith) (λ h. omega arith) o)

-- the tests on one number y of the list, with `rest` the test on the others and `found` whether x is among them
one_outside : (x y : ℕ) (low high rest found : Bool) → (T low → first_cell ≤ y) → (T high → y ≤ last_cell) → (T rest → found ≡ false)
    → T (low && (high && rest)) → Outside x → (eqb x y || found) ≡ false
one_outside x y true true true found l u r t o = rw (outside-ne x y o (l tt) (u tt)) (r tt)
one_outside x y true true false found l u r t o = absurd t
one_outside x y true false rest found l u r t o = absurd t
one_outside x y false high rest found l u r t o = absurd t

contains-outside : (xs : List ℕ) (x : ℕ) → T (in_range xs) → Outside x → contains xs x ≡ false
unfolding contains
contains-outside [] x t o = refl
contains-outside (y ∷ ys) x t o =
    one_outside x y (leb first_cell y) (leb y last_cell) (in_range ys) (contains ys x) (leb→le first_cell y) (leb→le y last_cell)
    (λ r. contains-outside ys x r o) t o

-- a cell outside is not listed: every number of each list lies from the first cell to the last, and so does the total's, so that none of the
-- tests of a class holds
pub class-outside : (x : ℕ) → Outside x → cell_class x ≡ 0
unfolding cell_class positions position brokered_cell penalty_balance_cell penalty_months_cell unused_cells borrowing borrowing_at coupon_cell term_cell table_from
class-outside x o =
    simp (
      contains-outside (map (λ (p : Position). p.balance) positions) x tt o,
      contains-outside (map (λ (p : Position). p.coupon) positions) x tt o,
      contains-outside (map (λ (p : Position). p.months) positions) x tt o,
      contains-outside (map brokered_cell (1 ∷ 2 ∷ 3 ∷ [])) x tt o,
      contains-outside (map penalty_balance_cell (1 ∷ 2 ∷ 3 ∷ [])) x tt o,
      contains-outside (map penalty_months_cell (1 ∷ 2 ∷ 3 ∷ [])) x tt o,
      outside-ne x total_cell o (omega arith) (omega arith),
      contains-outside unused_cells x tt o,
      contains-outside (table borrowing_count (λ (i : ℕ). (borrowing_at i).balance)) x tt o,
      contains-outside (table coupon_classes coupon_cell) x tt o,
      contains-outside (table borrowing_terms term_cell) x tt o,
      outside-ne x borrowings_total_cell o (omega arith) (omega arith),
    )

-- a class is one of the twelve: it is found by tests in a row, and in either case of each it is one of them, the last being 0
pub class-lt : (cell : ℕ) → cell_class cell < class_count
unfolding cell_class
class-lt cell =
    one_of (contains (map (λ (p : Position). p.balance) positions) cell) (omega arith)
    (one_of (contains (map (λ (p : Position). p.coupon) positions) cell) (omega arith)
    (one_of (contains (map (λ (p : Position). p.months) positions) cell) (omega arith)
    (one_of (contains (map brokered_cell columns) cell) (omega arith)
    (one_of (contains (map penalty_balance_cell columns) cell) (omega arith)
    (one_of (contains (map penalty_months_cell columns) cell) (omega arith)
    (one_of (eqb cell total_cell) (omega arith)
    (one_of (contains unused_cells cell) (omega arith)
    (one_of (contains (table borrowing_count (λ (i : ℕ). (borrowing_at i).balance)) cell) (omega arith)
    (one_of (contains (table coupon_classes coupon_cell) cell) (omega arith)
    (one_of (contains (table borrowing_terms term_cell) cell) (omega arith)
    (one_of (eqb cell borrowings_total_cell) (omega arith) (omega arith))))))))))))
  where
    columns : List ℕ
    columns = 1 ∷ 2 ∷ 3 ∷ []

    one_of : (b : Bool) {m n : ℕ} → m < class_count → n < class_count → cond b m n < class_count
    one_of b l r = either (λ (class : ℕ). class < class_count) b l r

-- a listed cell lies from the first to the last
pub class-listed : (x : ℕ) → (cell_class x ≡ 0 → ⊥) → (first_cell ≤ x) × (x ≤ last_cell)
class-listed x h = (from (ltb x first_cell) refl, to (ltb last_cell x) refl)
  where
    from : (b : Bool) → ltb x first_cell ≡ b → first_cell ≤ x
    from true e = absurd (h (class-outside x (inl (ltb-true x first_cell e))))
    from false e = ltb-false x first_cell e

    to : (b : Bool) → ltb last_cell x ≡ b → x ≤ last_cell
    to true e = absurd (h (class-outside x (inr (ltb-true last_cell x e))))
    to false e = ltb-false last_cell x e
