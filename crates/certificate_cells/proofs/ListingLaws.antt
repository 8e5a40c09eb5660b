-- The cells of some sums: what each class holds, and the list that grows cell by cell. Assumes nothing.
use Prim.Native.Nat.{ℕ, suc, ◌+◌, ◌-◌, ◌≤◌, ◌<◌}
use native.Mathlib.Numerals.{add-one}
use native.Mathlib.Omega.{arith}
use mathlib.Core.Path.{◌≡◌, refl, sym, ap, ◌∙◌}
use mathlib.Core.Bool.{Bool, true, false, cond, ◌&&◌}
use mathlib.Core.List.{List, [], ◌∷◌, map, ◌++◌, append-nil}
use lib.ListN.{length, set, replicate, take, length-append, length-map}
use lib.Seq.{set_at, append_snoc, take_at}
use Rattle.lists.specs.Tables.{table_from, those, padded, contains}
use Rattle.form.specs.Cells.{first_cell, total_cell, position, positions, position_at, brokered_cell, penalty_balance_cell, penalty_months_cell, unused_cells}
use Rattle.form.specs.Borrowings.{borrowing, borrowing_at, coupon_cell, term_cell}
use Rattle.form.specs.Classes.{cell_class}
use Rattle.certificate_cells.specs.declared.filled_cells.Totals.{Totals}
use Rattle.certificate_cells.specs.declared.filled_cells.CellValue.{CellValue}
use Rattle.certificate_cells.specs.Cells.{FormCell, is_filled, form_count, is_of_position, position_with, form_cell, form_cells, is_present, value_of, cell_value, cells_of, no_cell, cell_array}
use Rattle.certificate_cells.specs.Inner.Listing.{listed, value_filled}
use Rattle.std.specs.Prelude.{None, Some}
use Rattle.lists.specs.Ranges.{within, first_from}

-- there are 28 cells
form-length : length form_cells ≡ 28
unfolding cell_class contains first_from position positions position_at those table_from brokered_cell penalty_balance_cell penalty_months_cell unused_cells within is_filled is_of_position position_with form_cell form_cells borrowing borrowing_at coupon_cell term_cell
form-length = refl

-- as many as pass a test, at most all
those-le : (test : FormCell → Bool) (es : List FormCell) → length (those test es) ≤ length es
unfolding those
those-le test [] = omega arith
those-le test (e ∷ es) = by (test e) (those-le test es)
  where
    by : (b : Bool) → length (those test es) ≤ length es → length (cond b (e ∷ those test es) (those test es)) ≤ suc (length es)
    by true h = omega arith
    by false h = omega arith

-- there are at most 28 cells
pub cells_count : (t : Totals) → length (cells_of t) ≤ 28
unfolding cells_of
cells_count t = rw length-map (omega (arith, those-le (is_present t) form_cells, form-length))

-- a test that gave a value holds, and one that gave none does not
given : (b : Bool) (x v : ℕ) → cond b (Some x) None ≡ Some v → (b ≡ true) × (v ≡ x)
given true x v e = (refl, cc)
given false x v e = cc

not-given : (b : Bool) (x : ℕ) → cond b (Some x) None ≡ None → b ≡ false
not-given true x e = cc
not-given false x e = refl

module _ (t : Totals) where
  -- what a cell is filled with says whether it is listed
  pub listed-some : (cell v : ℕ) → value_filled t cell ≡ Some v → (listed t cell ≡ true) × (v ≡ value_of t (form_cell cell))
  unfolding value_filled
  listed-some cell v e = given (listed t cell) (value_of t (form_cell cell)) v e

  pub listed-none : (cell : ℕ) → value_filled t cell ≡ None → listed t cell ≡ false
  unfolding value_filled
  listed-none cell e = not-given (listed t cell) (value_of t (form_cell cell)) e

  -- the cells of the sums among n numbers from one on
  unfoldable pub cells_from : ℕ → ℕ → List CellValue
  cells_from cell n = map (cell_value t) (those (is_present t) (map form_cell (those is_filled (table_from cell n (λ (m : ℕ). m)))))

  -- a cell that is filled and present is handed back in front of those behind it; one that is not filled is dropped from the
  -- numbers, one that is filled and not present from the cells
  from_suc : (cell n : ℕ) → cells_from cell (suc n) ≡ cond (listed t cell) (cell_value t (form_cell cell) ∷ cells_from (suc cell) n) (cells_from (suc cell) n)
  unfolding cells_from those table_from
  from_suc cell n = by (is_filled cell) (is_present t (form_cell cell)) refl
    where
      rest : List ℕ
      rest = those is_filled (table_from (suc cell) n (λ (m : ℕ). m))

      by : (x y : Bool) → is_present t (form_cell cell) ≡ y
          → map (cell_value t) (those (is_present t) (map form_cell (cond x (cell ∷ rest) rest)))
          ≡ cond (x && y) (cell_value t (form_cell cell) ∷ map (cell_value t) (those (is_present t) (map form_cell rest)))
          (map (cell_value t) (those (is_present t) (map form_cell rest)))
      by true true e = rw e
      by true false e = rw e
      by false y e = refl

  -- the cells before a number are listed, the rest of 28 entries is empty
  pub record Listing (cells : List CellValue) (count cell : ℕ) : Type 0 where
    pub sofar : List CellValue
    pub left : ℕ
    pub long : length sofar ≡ count
    pub through : cell + left ≡ first_cell + form_count
    pub stored : cells ≡ sofar ++ replicate (28 - count) no_cell
    pub rest : sofar ++ cells_from cell left ≡ cells_of t

  -- before the first
  pub listing_start : Listing (replicate 28 no_cell) 0 first_cell
  unfolding cells_from cells_of form_cells
  listing_start = record { sofar = []; left = form_count; long = refl; through = refl; stored = refl; rest = refl }

  module _ (cells : List CellValue) (count cell : ℕ) (at : Listing cells count cell) (h : cell < suc total_cell) where
    -- one number less is left
    abbrev fewer : ℕ
    fewer = at.left - 1

    more : at.left ≡ suc fewer
    more = omega (arith, at.through)

    next : cells_from cell at.left ≡ cond (listed t cell) (cell_value t (form_cell cell) ∷ cells_from (cell + 1) fewer) (cells_from (cell + 1) fewer)
    next = ap (cells_from cell) more ∙ rw add-one (from_suc cell fewer)

    -- a cell that is listed has room: no more than 28 are
    pub listing-room : listed t cell ≡ true → count < 28
    listing-room p =
        let counted : length (at.sofar ++ cells_from cell at.left) ≡ length (cells_of t) = ap length at.rest in
        omega (arith, cells_count t, at.long, rw (next, p, length-append) at counted)

    -- the cell is the first of those left, and goes to the first empty entry: it joins those so far, one entry fewer is empty, one cell fewer
    -- is left, and all together are the same list
    pub listing-present : (x : CellValue) → x ≡ cell_value t (form_cell cell) → listed t cell ≡ true → Listing (set cells count x) (count + 1) (cell + 1)
    listing-present x e p =
        let room = listing-room p in
        let behind : 28 - count ≡ suc (28 - (count + 1)) = omega (arith, room) in
        let here : cells_from cell at.left ≡ x ∷ cells_from (cell + 1) fewer = next ∙ rw (p, e) in
        let empty : List CellValue = replicate (28 - (count + 1)) no_cell in
        record {
          sofar = at.sofar ++ (x ∷ []);
          left = fewer;
          long = length-append at.sofar (x ∷ []) ∙ ap (λ (n : ℕ). n + 1) at.long;
          through = omega (arith, at.through, more);
          stored = rw (at.stored, behind) (set_at at.sofar no_cell empty x count at.long ∙ sym (append_snoc at.sofar x empty));
          rest = append_snoc at.sofar x (cells_from (cell + 1) fewer) ∙ rw (sym here) at.rest;
        }

    -- a cell that stays absent: those left without it are those left with it, and nothing is stored
    pub listing-absent : listed t cell ≡ false → Listing cells count (cell + 1)
    listing-absent p =
        let same : cells_from cell at.left ≡ cells_from (cell + 1) fewer = next ∙ rw p in
        record {
          sofar = at.sofar;
          left = fewer;
          long = at.long;
          through = omega (arith, at.through, more);
          stored = at.stored;
          rest = rw (sym same) at.rest;
        }

  -- all cells
  pub listing-done : (cells : List CellValue) (count cell : ℕ) → Listing cells count cell → total_cell < cell
      → (count ≡ length (cells_of t)) × (cells ≡ cell_array (cells_of t))
  unfolding padded cells_from those table_from
  listing-done cells count cell at h =
      let none : at.left ≡ 0 = omega (arith, at.through) in
      let all : at.sofar ≡ cells_of t = sym (append-nil at.sofar) ∙ rw none at at.rest in
      let counted : count ≡ length (cells_of t) = sym at.long ∙ ap length all in
      (counted, at.stored ∙ rw (all, counted))

-- cells in an array, counted, are themselves
pub counted-items : (l : List CellValue) (count : ℕ) (cells : List CellValue) → count ≡ length l → cells ≡ cell_array l → take count cells ≡ l
unfolding padded
counted-items l count cells n e = rw (n, e) (take_at l (replicate (28 - length l) no_cell) (length l) refl)
