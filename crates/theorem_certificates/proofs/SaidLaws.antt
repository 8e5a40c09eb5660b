-- What a made filing says: its sheets are there, and its cells say what the list says. Assumes nothing.
use Rattle.std.specs.Prelude.{Option, Some}
use Prim.Native.Nat.{ℕ, zero, suc, ◌+◌, ◌-◌, ◌≤◌, ◌<◌}
use native.Mathlib.Nat.{not-suc-le-zero, le_of_suc-le-suc, eq-or-lt_of_le}
use native.Mathlib.Omega.{arith}
use mathlib.Core.Path.{◌≡◌, refl, sym, subst}
use mathlib.Core.Logic.{⊎_elim}
use mathlib.Core.Bool.{Bool, true, false, cond}
use mathlib.Core.List.{List, [], ◌∷◌}
use borrow.Author.Tests.{le-ltb, lt-ltb, lt-leb, le-leb, eqb-true, ne_eqb}
use lib.Dec.{eqb}
use lib.ListN.{length, get_or}
use Rattle.lists.specs.Ranges.{first_from}
use Rattle.lists.specs.Tables.{table_from}
use Rattle.lists.proofs.OrderLaws.{lt-or-le}
use Rattle.lists.proofs.RangeLaws.{least-passes, least-fails}
use Rattle.lists.proofs.TableLaws.{table_from-get_or}
use Rattle.form.specs.Limits.{coupon_class, rate_limit}
use Rattle.form.specs.Classes.{cell_class}
use Rattle.form.proofs.CellLaws.{CellOf}
use Rattle.form.specs.Cells.{first_cell, last_cell, cell_count}
use Rattle.record_kinds.specs.Kinds.{flat_rates_kind, gives_cell, due_length, sheet_length, sheet_kind, sheet_kinds, sheet_of}
use Rattle.record_kinds.specs.declared.items.Item.{Item}
use Rattle.record_kinds.specs.declared.items.Item.TheVariants.{Sheet}
use Rattle.record_kinds.specs.Items.{same_item, record_item, first_with}
use Rattle.record_offsets.specs.Counting.{item_rank, rank}
use Rattle.record_fields.proofs.ByteLaws.{number_past}
use Rattle.filing_cells.specs.Balances.{cell_in}
use Rattle.filing_contents.specs.Amounts.{filed_value, amount_at}
use Rattle.filing_decode.specs.Contents.{cell_offset, cell_value, sheet_offset}
use Rattle.filing.specs.RequiredSheets.{sheet_missing}
use Rattle.certificate_cells.specs.declared.filled_cells.CellValue.{CellValue}
use Rattle.certificate_cells.specs.Cells.{no_cell}
use Rattle.theorem_certificates.specs.Fit.{value_in}
use Rattle.theorem_certificates.specs.Filed.{run, filed_bodies}
use Rattle.theorem_certificates.proofs.RecordRunLaws.{offset, offset-last, offset-lt, search-hit}
use Rattle.theorem_certificates.proofs.CountLaws.{counting-none, counting-hit}
use Rattle.theorem_certificates.proofs.FileableLaws.{Fileable, fileable-rising}
use Rattle.theorem_certificates.proofs.FiledLaws.{filed-length, sized, cell-record, item-cell, item-yields, item-rates, cell-no-sheet, before-rates}

-- what a list says of a cell that stands first at index i, and of one that does not stand there
value_found : (cells : List CellValue) (n i : ℕ) → i < length cells → eqb (get_or cells i no_cell).cell n ≡ true
    → ((j : ℕ) → j < i → eqb (get_or cells j no_cell).cell n ≡ false)
    → value_in cells n ≡ (get_or cells i no_cell).value
unfolding value_in
value_found [] n i h e f = absurd (not-suc-le-zero h)
value_found (c ∷ cs) n zero h e f = rw e
value_found (c ∷ cs) n (suc i) h e f =
    rw (f 0 (omega arith)) (value_found cs n i (le_of_suc-le-suc h) e (λ j l. f (suc j) (omega arith)))

value_none : (cells : List CellValue) (n : ℕ) → ((j : ℕ) → j < length cells → eqb (get_or cells j no_cell).cell n ≡ false) → value_in cells n ≡ 0
unfolding value_in
value_none [] n f = refl
value_none (c ∷ cs) n f = rw (f 0 (omega arith)) (value_none cs n (λ j l. f (suc j) (omega arith)))

module _ (cells : List CellValue) (yields rates : ℕ → ℕ) (fileable : Fileable 0 cells)
    (ys : (t : ℕ) → yields t ≤ rate_limit) (rs : (j : ℕ) → rates j ≤ rate_limit) where
  abbrev bodies : List (List ℕ)
  bodies = filed_bodies cells yields rates

  abbrev made : List ℕ
  made = run bodies

  -- where an item stands first, and where it does not stand
  item-first : (item : Option Item) (i : ℕ) → i < length cells + 2 → same_item (record_item made (offset bodies i)) item ≡ true
      → ((m : ℕ) → m < i → same_item (record_item made (offset bodies m)) item ≡ false) → first_with made item (length made) ≡ offset bodies i
  unfolding first_with
  item-first item i h e f =
      let all = filed-length cells yields rates in
      rw (sym (offset-last bodies))
      (search-hit bodies (sized cells yields rates) (λ (at : ℕ). same_item (record_item made at) item) (length bodies) (omega arith) i (rw all h) e f)

  before-end : (i : ℕ) → i < length cells + 2 → offset bodies i < length made
  before-end i h =
      let l : i < length bodies = rw (filed-length cells yields rates) h in
      omega (arith, offset-lt bodies i (length bodies) l (omega arith), offset-last bodies)

  -- both sheets are there
  yields-there : sheet_offset made 2 ≡ offset bodies (length cells)
  unfolding sheet_offset same_item
  yields-there =
      item-first (Some (Sheet 2)) (length cells) (omega arith) (rw (item-yields cells yields rates fileable ys rs)) (λ m l. cell-no-sheet cells yields rates fileable ys rs m 2 l)

  rates-there : sheet_offset made flat_rates_kind ≡ offset bodies (suc (length cells))
  unfolding sheet_offset same_item
  rates-there =
      item-first (Some (Sheet 3)) (suc (length cells)) (omega arith) (rw (item-rates cells yields rates fileable ys rs)) (λ m l. before-rates cells yields rates fileable ys rs m 3 l refl)

  pub sheets-there : sheet_missing made ≡ false
  unfolding sheet_missing
  sheets-there =
      rw (
        yields-there,
        rates-there,
        lt-leb (length made) (offset bodies (length cells)) (before-end (length cells) (omega arith)),
        lt-leb (length made) (offset bodies (suc (length cells))) (before-end (suc (length cells)) (omega arith)),
      )

  -- a cell says what the list says of it, unless it is a coupon, which counts tenfold
  abbrev is_cell : ℕ → ℕ → Bool
  is_cell n i = eqb (get_or cells i no_cell).cell n

  -- how a record ranks for a cell: the cell's own as number 0, a sheet not at all, and nothing at the end
  rank-cell : (n i : ℕ) (b : Bool) → i < length cells → is_cell n i ≡ b → rank made n (offset bodies i) ≡ cond b 1 0
  unfolding item_rank
  rank-cell n i b h e = rw (item-cell cells yields rates fileable ys rs i h, e)

  rank-sheet : (n i : ℕ) → length cells ≤ i → i < length cells + 2 → rank made n (offset bodies i) ≡ 0
  unfolding item_rank
  rank-sheet n i l h =
      ⊎_elim (λ e. subst (λ (m : ℕ). rank made n (offset bodies m) ≡ 0) e (rw (item-yields cells yields rates fileable ys rs)))
      (λ m. let e : suc (length cells) ≡ i = omega arith in
      subst (λ (k : ℕ). rank made n (offset bodies k) ≡ 0) e (rw (item-rates cells yields rates fileable ys rs))) (eq-or-lt_of_le l)

  rank-end : (n : ℕ) → rank made n (length made) ≡ 0
  unfolding item_rank record_item gives_cell due_length sheet_length sheet_kind sheet_kinds sheet_of
  rank-end n = simp (number_past made (length made + 2) 2 (omega arith))

  -- a cell that stands at index i stands nowhere else
  only : (n i : ℕ) → i < length cells → is_cell n i ≡ true → (m : ℕ) → m < length cells → (m ≡ i → ⊥) → is_cell n m ≡ false
  only n i h e m l other =
      let is = eqb-true (get_or cells i no_cell).cell n e in
      ne_eqb (get_or cells m no_cell).cell n
      (λ q. ⊎_elim (λ a. omega (arith, fileable-rising no_cell 0 cells fileable m i a h))
      (λ a. ⊎_elim (λ b. other (sym b)) (λ b. omega (arith, fileable-rising no_cell 0 cells fileable i m b l)) (eq-or-lt_of_le a)) (lt-or-le m i))

  none-else : (n i : ℕ) → i < length cells → is_cell n i ≡ true → (m : ℕ) → m < length bodies → (m ≡ i → ⊥) → rank made n (offset bodies m) ≡ 0
  none-else n i h e m l other =
      let k : m < length cells + 2 = rw (filed-length cells yields rates) at l in
      ⊎_elim (λ g. rank-cell n m false g (only n i h e m g other)) (λ g. rank-sheet n m g k) (lt-or-le m (length cells))

  amount-is : (n i : ℕ) → i < length cells → is_cell n i ≡ true → eqb (cell_class n) coupon_class ≡ false → amount_at made (offset bodies i) ≡ (get_or cells i no_cell).value
  unfolding amount_at filed_value
  amount-is n i h e other =
      let r = cell-record cells yields rates fileable i h in
      rw (r.kind-is, r.cell-is, eqb-true (get_or cells i no_cell).cell n e, other, r.value-is)

  found : (n i : ℕ) → i < length cells → is_cell n i ≡ true → ((j : ℕ) → j < i → is_cell n j ≡ false) → eqb (cell_class n) coupon_class ≡ false
      → cell_value made n ≡ value_in cells n
  unfolding cell_value cell_offset
  found n i h e f other =
      let all = filed-length cells yields rates in
      let at = counting-hit bodies (sized cells yields rates) n i (omega (arith, all)) (rank-cell n i true h e) (none-else n i h e) (rank-end n) in
      rw (at, lt-ltb (offset bodies i) (length made) (before-end i (omega arith)), amount-is n i h e other) (sym (value_found cells n i h e f))

  absent : (n : ℕ) → ((j : ℕ) → j < length cells → is_cell n j ≡ false) → cell_value made n ≡ value_in cells n
  unfolding cell_value cell_offset
  absent n f =
      let all = filed-length cells yields rates in
      let at = counting-none bodies (sized cells yields rates) n
      (λ m l. ⊎_elim (λ g. rank-cell n m false g (f m g)) (λ g. rank-sheet n m g (rw all at l)) (lt-or-le m (length cells))) in
      rw (at, le-ltb (length made) (length made) (omega arith)) (sym (value_none cells n f))

  cell-said : (n : ℕ) → eqb (cell_class n) coupon_class ≡ false → cell_value made n ≡ value_in cells n
  cell-said n other =
      let i : ℕ = first_from 0 (length cells) (is_cell n) in
      ⊎_elim (λ h. found n i h (least-passes (is_cell n) 0 (length cells) (omega arith)) (λ j l. least-fails (is_cell n) 0 (length cells) j (omega arith) l) other)
      (λ h. absent n (λ j l. least-fails (is_cell n) 0 (length cells) j (omega arith) (omega arith))) (lt-or-le i (length cells))

  abbrev pub said_cells : List ℕ
  said_cells = table_from first_cell cell_count (cell_value made)

  pub said : (n class : ℕ) → CellOf n class → eqb class coupon_class ≡ false → cell_in said_cells n ≡ value_in cells n
  unfolding cell_in
  said n class c other =
      let index : first_cell + (n - first_cell) ≡ n = omega (arith, c.from_first) in
      rw (le-leb first_cell n c.from_first, le-leb n last_cell c.to_last, table_from-get_or first_cell cell_count (cell_value made) (n - first_cell) 0 (omega (arith, c.to_last, c.from_first)), index)
      (cell-said n (rw c.in-class other))
