-- What sums fill a cell with: the total, nothing where the cell is of no position, and else the balance or a mean of its position. Assumes nothing.
use Prim.Native.Nat.{ℕ, ◌<◌}
use native.Mathlib.Omega.{arith}
use mathlib.Core.Path.{◌≡◌, refl, sym}
use mathlib.Core.Bool.{true, and-false}
use borrow.Author.Tests.{eqb-true, ne_eqb}
use lib.Dec.{T, eqb, eqb→eq}
use lib.ListN.{length, get_or}
use Rattle.std.specs.Prelude.{None, Some}
use Rattle.std.proofs.lemmas.List.{get_or_past}
use Rattle.lists.specs.Ranges.{within}
use Rattle.lists.specs.Sums.{sum}
use Rattle.lists.specs.Tables.{contains}
use Rattle.lists.proofs.TestLaws.{all_from, all-at}
use Rattle.form.specs.Cells.{position, positions, position_at, brokered_cell, penalty_balance_cell, penalty_months_cell, total_cell}
use Rattle.form.specs.Classes.{cell_class}
use Rattle.certificate_cells.specs.declared.filled_cells.Totals.{Totals}
use Rattle.certificate_cells.specs.Means.{balance_at, coupon_at, months_at}
use Rattle.certificate_cells.specs.Cells.{is_filled, is_of_position, position_with, form_cell, is_present, value_of}
use Rattle.certificate_cells.specs.Inner.Listing.{value_filled}

-- a cell of the nine is of its class
of-class : (cell : ℕ → ℕ) (class : ℕ) → T (all_from 0 9 (λ (i : ℕ). eqb (cell_class (cell i)) class)) → (i : ℕ) → i < 9 → cell_class (cell i) ≡ class
of-class cell class t i h = eqb→eq (cell_class (cell i)) class (all-at 0 9 (λ (j : ℕ). eqb (cell_class (cell j)) class) t i (omega arith) h)

balance-class : (i : ℕ) → i < 9 → cell_class (position_at i).balance ≡ 1
unfolding all_from cell_class contains positions position_at position
balance-class i h = of-class (λ (j : ℕ). (position_at j).balance) 1 tt i h

coupon-class : (i : ℕ) → i < 9 → cell_class (position_at i).coupon ≡ 2
unfolding all_from cell_class contains positions position_at position
coupon-class i h = of-class (λ (j : ℕ). (position_at j).coupon) 2 tt i h

months-class : (i : ℕ) → i < 9 → cell_class (position_at i).months ≡ 3
unfolding all_from cell_class contains positions position_at position
months-class i h = of-class (λ (j : ℕ). (position_at j).months) 3 tt i h

-- a cell of a position that is neither its balance nor its coupon
pub months-left : (cell i : ℕ) → is_of_position cell i ≡ true → (cell ≡ (position_at i).balance → ⊥) → (cell ≡ (position_at i).coupon → ⊥)
    → cell ≡ (position_at i).months
unfolding is_of_position
months-left cell i h b c =
    sym (eqb-true (position_at i).months cell (rw (ne_eqb (position_at i).balance cell (λ e. b (sym e)), ne_eqb (position_at i).coupon cell (λ e. c (sym e))) at h))

module _ (t : Totals) where
  pub value-total : value_filled t total_cell ≡ Some (sum t.balance)
  unfolding value_filled value_of is_present form_cell is_filled within cell_class contains positions position brokered_cell penalty_balance_cell penalty_months_cell
  value-total = refl

  -- a cell that is not present
  absent : (cell : ℕ) → (cell ≡ total_cell → ⊥) → balance_at t (position_with cell) ≡ 0 → value_filled t cell ≡ None
  unfolding value_filled is_present form_cell
  absent cell n z = simp (ne_eqb cell total_cell n, z, and-false)

  pub value-none : (cell : ℕ) → (cell ≡ total_cell → ⊥) → length t.balance ≡ 9 → position_with cell ≡ 9 → value_filled t cell ≡ None
  unfolding balance_at
  value-none cell n l p = absent cell n (rw p (get_or_past t.balance 9 0 (omega arith)))

  -- a cell of the position at an index
  module _ (cell i : ℕ) (n : cell ≡ total_cell → ⊥) (p : position_with cell ≡ i) where
    pub value-empty : get_or t.balance i 0 ≡ 0 → value_filled t cell ≡ None
    unfolding balance_at
    value-empty z = absent cell n (rw p z)

    module _ (l : i < 9) (some : get_or t.balance i 0 ≡ 0 → ⊥) where
      pub value-balance : cell ≡ (position_at i).balance → value_filled t cell ≡ Some (get_or t.balance i 0)
      unfolding value_filled value_of is_present form_cell is_filled within balance_at
      value-balance e = let k : cell_class cell ≡ 1 = rw e (balance-class i l) in rw (k, p, ne_eqb cell total_cell n, ne_eqb (get_or t.balance i 0) 0 some)

      pub value-coupon : cell ≡ (position_at i).coupon → value_filled t cell ≡ Some (coupon_at t i)
      unfolding value_filled value_of is_present form_cell is_filled within balance_at
      value-coupon e = let k : cell_class cell ≡ 2 = rw e (coupon-class i l) in rw (k, p, ne_eqb cell total_cell n, ne_eqb (get_or t.balance i 0) 0 some)

      pub value-months : cell ≡ (position_at i).months → value_filled t cell ≡ Some (months_at t i)
      unfolding value_filled value_of is_present form_cell is_filled within balance_at
      value-months e = let k : cell_class cell ≡ 3 = rw e (months-class i l) in rw (k, p, ne_eqb cell total_cell n, ne_eqb (get_or t.balance i 0) 0 some)
