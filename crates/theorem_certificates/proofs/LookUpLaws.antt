-- What the filled cells say of each cell of Schedule CMR, an absent one being 0 (01:11). Assumes nothing.
use Prim.Native.Nat.{ℕ, zero, suc, ◌+◌, ◌≤◌, ◌<◌}
use native.Mathlib.Nat.{eq-or-lt_of_le}
use native.Mathlib.Omega.{arith}
use mathlib.Core.Path.{◌≡◌, refl, sym, subst, ◌∙◌}
use mathlib.Core.Logic.{⊎_elim}
use mathlib.Core.Bool.{Bool, true, false, cond}
use mathlib.Core.List.{List, [], ◌∷◌, map}
use borrow.Author.Tests.{eq-eqb, ne_eqb}
use lib.Dec.{eqb}
use Rattle.lists.specs.Tables.{table_from, those}
use Rattle.form.specs.Cells.{first_cell, total_cell}
use Rattle.certificate_cells.specs.declared.filled_cells.Totals.{Totals}
use Rattle.certificate_cells.specs.Cells.{is_filled, form_cell, form_cells, is_present, value_of, cell_value, cells_of, form_count}
use Rattle.theorem_certificates.specs.Fit.{value_in}

module _ (t : Totals) where
  -- what the cells among some numbers say of cell m
  saying : ℕ → List ℕ → ℕ
  saying m ns = value_in (map (cell_value t) (those (is_present t) (map form_cell ns))) m

  -- one number more, where it is a cell
  saying-one : (m i : ℕ) (ns : List ℕ) (b : Bool)
      → saying m (cond b (i ∷ ns) ns)
      ≡ cond b (cond (is_present t (form_cell i)) (cond (eqb i m) (value_of t (form_cell i)) (saying m ns)) (saying m ns)) (saying m ns)
  unfolding saying value_in those form_cell cell_value
  saying-one m i ns false = refl
  saying-one m i ns true = by (is_present t (form_cell i))
    where
      by : (p : Bool)
          → value_in (map (cell_value t) (cond p (form_cell i ∷ those (is_present t) (map form_cell ns)) (those (is_present t) (map form_cell ns)))) m
          ≡ cond p (cond (eqb i m) (value_of t (form_cell i)) (saying m ns)) (saying m ns)
      by true = refl
      by false = refl

  same-sides : (b p : Bool) (x : ℕ) → cond b (cond p x x) x ≡ x
  same-sides true true x = refl
  same-sides true false x = refl
  same-sides false p x = refl

  saying-other : (m i : ℕ) (ns : List ℕ) (b : Bool) → (i ≡ m → ⊥) → saying m (cond b (i ∷ ns) ns) ≡ saying m ns
  saying-other m i ns b h = saying-one m i ns b ∙ rw (ne_eqb i m h) (same-sides b (is_present t (form_cell i)) (saying m ns))

  -- a cell below the numbers of a table is not among them
  saying-none : (m : ℕ) → saying m [] ≡ 0
  unfolding saying value_in those
  saying-none m = refl

  saying-below : (m i n : ℕ) → m < i → saying m (those is_filled (table_from i n (λ (k : ℕ). k))) ≡ 0
  unfolding those table_from
  saying-below m i zero h = saying-none m
  saying-below m i (suc n) h =
      saying-other m i (those is_filled (table_from (suc i) n (λ (k : ℕ). k))) (is_filled i) (λ e. omega arith)
      ∙ saying-below m (suc i) n (omega arith)

  -- the first of them holds its value where it is handed back, else 0
  saying-here : (i n : ℕ) → is_filled i ≡ true
      → saying i (those is_filled (table_from i (suc n) (λ (k : ℕ). k))) ≡ cond (is_present t (form_cell i)) (value_of t (form_cell i)) 0
  unfolding those table_from
  saying-here i n f =
      saying-one i i (those is_filled (table_from (suc i) n (λ (k : ℕ). k))) (is_filled i)
      ∙ rw (f, eq-eqb i i refl, saying-below i (suc i) n (omega arith))

  -- and so each: the cell is the first of those left, and said there, or the first is another and says nothing of it
  saying-among : (m i n : ℕ) → i ≤ m → m < i + n → is_filled m ≡ true
      → saying m (those is_filled (table_from i n (λ (k : ℕ). k))) ≡ cond (is_present t (form_cell m)) (value_of t (form_cell m)) 0
  unfolding those table_from
  saying-among m i zero l u f = absurd (omega arith)
  saying-among m i (suc n) l u f =
      ⊎_elim first
      (λ h. saying-other m i (those is_filled (table_from (suc i) n (λ (k : ℕ). k))) (is_filled i) (λ e. omega arith)
      ∙ saying-among m (suc i) n h (omega arith) f) (eq-or-lt_of_le l)
    where
      first : i ≡ m
          → saying m (those is_filled (table_from i (suc n) (λ (k : ℕ). k))) ≡ cond (is_present t (form_cell m)) (value_of t (form_cell m)) 0
      first e =
          subst (λ (k : ℕ). saying k (those is_filled (table_from i (suc n) (λ (j : ℕ). j))) ≡ cond (is_present t (form_cell k)) (value_of t (form_cell k)) 0) e
          (saying-here i n (subst (λ (k : ℕ). is_filled k ≡ true) (sym e) f))

  -- what the filled cells say of a cell that certificates can fill
  pub value-filled : (m : ℕ) → first_cell ≤ m → m ≤ total_cell → is_filled m ≡ true → value_in (cells_of t) m ≡ cond (is_present t (form_cell m)) (value_of t (form_cell m)) 0
  unfolding cells_of form_cells saying
  value-filled m l u f = saying-among m first_cell form_count l (omega arith) f

  -- a cell past the table is absent
  saying-above : (m i n : ℕ) → i + n ≤ m → saying m (those is_filled (table_from i n (λ (k : ℕ). k))) ≡ 0
  unfolding those table_from
  saying-above m i zero h = saying-none m
  saying-above m i (suc n) h =
      saying-other m i (those is_filled (table_from (suc i) n (λ (k : ℕ). k))) (is_filled i) (λ e. omega arith)
      ∙ saying-above m (suc i) n (omega arith)

  pub value-past : (m : ℕ) → total_cell < m → value_in (cells_of t) m ≡ 0
  unfolding cells_of form_cells saying
  value-past m h = saying-above m first_cell form_count h
