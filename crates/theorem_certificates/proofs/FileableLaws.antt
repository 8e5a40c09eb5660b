-- Cells that can be filed one after the other: they ascend, each is listed, and each value is within its limit. Assumes nothing.
use Prim.Native.Nat.{ℕ, zero, suc, ◌+◌, ◌≤◌, ◌<◌}
use native.Mathlib.Nat.{not-suc-le-zero, le_of_suc-le-suc, lt_trans, eq-or-lt_of_le}
use native.Mathlib.Omega.{arith}
use mathlib.Core.Path.{◌≡◌, refl, sym, ap, ◌∙◌}
use mathlib.Core.Logic.{◌⊎◌, inl, inr, ⊎_elim}
use mathlib.Core.Bool.{Bool, true, false, cond, not, ◌||◌, true≢false}
use mathlib.Core.List.{List, [], ◌∷◌, map}
use borrow.Author.Tests.{eqb-true, eqb-false}
use lib.Dec.{eqb}
use lib.ListN.{length, get_or}
use Rattle.lists.specs.Ranges.{within}
use Rattle.lists.specs.Sums.{sum}
use Rattle.lists.specs.Tables.{table_from, those, contains}
use Rattle.lists.proofs.RangeLaws.{within_both}
use Rattle.form.specs.Cells.{position, positions, total_cell, brokered_cell, penalty_balance_cell, penalty_months_cell, first_cell}
use Rattle.form.specs.Limits.{filed_coupon_limit, months_limit, total_limit, class_limit}
use Rattle.form.specs.Classes.{cell_class}
use Rattle.certificate_cells.specs.declared.filled_cells.Totals.{Totals}
use Rattle.certificate_cells.specs.declared.filled_cells.CellValue.{CellValue}
use Rattle.certificate_cells.specs.Means.{balance_at, coupon_at, months_at}
use Rattle.certificate_cells.specs.Cells.{is_filled, position_with, form_cell, form_cells, is_present, value_of, cell_value, cells_of, form_count}
use Rattle.certificate_cells.specs.Inner.Listing.{Bounded}
use Rattle.theorem_certificates.proofs.WeightedLaws.{mean-le}

-- a cell above m that is listed, with a value within its limit
pub record Entry (m : ℕ) (c : CellValue) : Type 0 where
  pub above : m < c.cell
  pub to-total : c.cell ≤ total_cell
  pub listed : eqb (cell_class c.cell) 0 ≡ false
  pub limit : c.value ≤ class_limit (cell_class c.cell)

-- such cells, ascending
abbrev pub Fileable : ℕ → List CellValue → Type 0
Fileable m [] = Unit {0}
Fileable m (c ∷ cs) = Entry m c × Fileable c.cell cs

module _ (d : CellValue) where
  -- the cell at index i
  pub fileable-at : (m : ℕ) (cells : List CellValue) → Fileable m cells → (i : ℕ) → i < length cells → Entry m (get_or cells i d)
  fileable-at m [] l i h = absurd (not-suc-le-zero h)
  fileable-at m (c ∷ cs) l zero h = l.0
  fileable-at m (c ∷ cs) l (suc i) h =
      let e = fileable-at c.cell cs l.1 i (le_of_suc-le-suc h) in
      record { above = lt_trans l.0.above e.above; to-total = e.to-total; listed = e.listed; limit = e.limit }

  pub fileable-rising : (m : ℕ) (cells : List CellValue) → Fileable m cells → (i j : ℕ) → i < j → j < length cells
      → (get_or cells i d).cell < (get_or cells j d).cell
  fileable-rising m [] l i j a h = absurd (not-suc-le-zero h)
  fileable-rising m (c ∷ cs) l i zero a h = absurd (not-suc-le-zero a)
  fileable-rising m (c ∷ cs) l zero (suc j) a h = (fileable-at c.cell cs l.1 j (le_of_suc-le-suc h)).above
  fileable-rising m (c ∷ cs) l (suc i) (suc j) a h = fileable-rising c.cell cs l.1 i j (le_of_suc-le-suc a) (le_of_suc-le-suc h)

-- one side of a disjunction that holds
either_true : (x y : Bool) → (x || y) ≡ true → (x ≡ true) ⊎ (y ≡ true)
either_true true y h = inl refl
either_true false y h = inr h

-- a cell that certificates can fill is listed
filled-listed : (n : ℕ) → is_filled n ≡ true → eqb (cell_class n) 0 ≡ false
unfolding is_filled within
filled-listed n h = by (eqb (cell_class n) 0) refl
  where
    by : (b : Bool) → eqb (cell_class n) 0 ≡ b → b ≡ false
    by true e = absurd (true≢false (sym h ∙ rw (eqb-true (cell_class n) 0 e)))
    by false e = refl

-- the total is of a class of its own
total-class : cell_class total_cell ≡ 6
unfolding cell_class contains positions position brokered_cell penalty_balance_cell penalty_months_cell
total-class = refl

module _ (t : Totals) (b : Bounded t) (total : sum t.balance ≤ total_limit) where
  -- a cell of a position that is handed back has a balance
  weighed : (n : ℕ) → (cell_class n ≡ 6 → ⊥) → is_present t (form_cell n) ≡ true → 0 < balance_at t (position_with n)
  unfolding is_present form_cell
  weighed n other p = by (eqb n total_cell) (eqb (balance_at t (position_with n)) 0) refl refl p
    where
      by : (x z : Bool) → eqb n total_cell ≡ x → eqb (balance_at t (position_with n)) 0 ≡ z → (x || not z) ≡ true → 0 < balance_at t (position_with n)
      by true z e f q = absurd (other (ap cell_class (eqb-true n total_cell e) ∙ total-class))
      by false true e f q = absurd (true≢false (sym q))
      by false false e f q = let some = eqb-false (balance_at t (position_with n)) 0 f in omega arith

  -- its value is within the limit of its class
  module _ (n : ℕ) (p : is_present t (form_cell n) ≡ true) where
    balance-low : cell_class n ≡ 1 → value_of t (form_cell n) ≤ class_limit (cell_class n)
    unfolding value_of form_cell class_limit balance_at
    balance-low e = rw e (b.balance-le (position_with n))

    coupon-low : cell_class n ≡ 2 → value_of t (form_cell n) ≤ class_limit (cell_class n)
    unfolding value_of form_cell class_limit balance_at coupon_at
    coupon-low e =
        rw e (mean-le (get_or t.coupon (position_with n) 0) (balance_at t (position_with n)) filed_coupon_limit
        (weighed n (λ q. let z : ◌≡◌ {A = ℕ} 2 6 = sym e ∙ q in omega arith) p) (b.coupon-le (position_with n)))

    months-low : cell_class n ≡ 3 → value_of t (form_cell n) ≤ class_limit (cell_class n)
    unfolding value_of form_cell class_limit balance_at months_at
    months-low e =
        rw e (mean-le (get_or t.months (position_with n) 0) (balance_at t (position_with n)) months_limit
        (weighed n (λ q. let z : ◌≡◌ {A = ℕ} 3 6 = sym e ∙ q in omega arith) p) (b.months-le (position_with n)))

    total-low : cell_class n ≡ 6 → value_of t (form_cell n) ≤ class_limit (cell_class n)
    unfolding value_of form_cell class_limit
    total-low e = rw e total

    one_of : 1 ≤ cell_class n → cell_class n ≤ 3 → value_of t (form_cell n) ≤ class_limit (cell_class n)
    one_of l u =
        ⊎_elim (λ q. balance-low (sym q))
        (λ m. ⊎_elim (λ q. coupon-low (sym q)) (λ h. months-low (omega arith)) (eq-or-lt_of_le m)) (eq-or-lt_of_le l)

    pub entry-limit : is_filled n ≡ true → value_of t (form_cell n) ≤ class_limit (cell_class n)
    unfolding is_filled
    entry-limit f =
        ⊎_elim (λ w. let h = within_both 1 3 (cell_class n) w in one_of h.0 h.1) (λ q. total-low (eqb-true (cell_class n) 6 q))
        (either_true (within 1 3 (cell_class n)) (eqb (cell_class n) 6) f)

  -- the cells of the table from number i on: one that is filled and present comes first, above those before it, listed and within its limit, and
  -- those behind it are above i; any other is left out
  from-listed : (i n m : ℕ) → m < i → i + n ≤ suc total_cell
      → Fileable m (map (cell_value t) (those (is_present t) (map form_cell (those is_filled (table_from i n (λ (k : ℕ). k))))))
  unfolding those table_from cell_value form_cell
  from-listed i zero m l u = tt
  from-listed i (suc n) m l u =
      by (is_filled i) (is_present t (form_cell i)) refl refl (from-listed (suc i) n i (omega arith) (omega arith))
      (from-listed (suc i) n m (omega arith) (omega arith))
    where
      by : (x y : Bool) → is_filled i ≡ x → is_present t (form_cell i) ≡ y
          → Fileable i (map (cell_value t) (those (is_present t) (map form_cell (those is_filled (table_from (suc i) n (λ (k : ℕ). k))))))
          → Fileable m (map (cell_value t) (those (is_present t) (map form_cell (those is_filled (table_from (suc i) n (λ (k : ℕ). k))))))
          → Fileable m (map (cell_value t) (those (is_present t) (map form_cell (cond x (i ∷ those is_filled (table_from (suc i) n (λ (k : ℕ). k))) (those is_filled (table_from (suc i) n (λ (k : ℕ). k)))))))
      by false y e f next same = same
      by true false e f next same = rw f same
      by true true e f next same =
          rw f (record { above = l; to-total = omega arith; listed = filled-listed i e; limit = entry-limit i f e }, next)

  pub cells-fileable : Fileable 0 (cells_of t)
  unfolding cells_of form_cells
  cells-fileable = from-listed first_cell form_count 0 (omega arith) (omega arith)
