-- What one record more adds to what is noted.
-- Assumes nothing.
use Rattle.std.specs.Prelude.{Option, Some, None}
use Prim.Native.Nat.{ℕ, ◌+◌, ◌-◌, ◌≤◌, ◌<◌}
use native.Mathlib.Nat.{zero-add, le_refl}
use native.Mathlib.Omega.{arith}
use mathlib.Core.Path.{◌≡◌, refl, sym, ◌∙◌}
use mathlib.Core.Bool.{Bool, true, false, cond}
use mathlib.Core.List.{List}
use borrow.Author.Tests.{ltb-true, lt-ltb, le-ltb, eq-eqb, ne_eqb}
use lib.Dec.{ltb}
use lib.ListN.{length, set}
use Rattle.lists.specs.Tables.{table_from}
use Rattle.lists.proofs.TableLaws.{table_from-ext, table-set}
use Rattle.form.specs.Cells.{first_cell, cell_count}
use Rattle.record_kinds.specs.declared.items.Item.{Item}
use Rattle.record_kinds.specs.declared.items.Item.TheVariants.{Cell, Sheet, Amendment}
use Rattle.record_fields.specs.Records.{next_record, search_records, first_record}
use Rattle.record_kinds.specs.Kinds.{kind_count}
use Rattle.record_kinds.specs.Items.{same_item, record_item, first_with}
use Rattle.record_offsets.specs.Counting.{item_rank, counts_from, counting_before}
use Rattle.record_offsets.specs.Inner.Notes.{Noted, offset_before, block_count, block_of, amends_in, falls_as, falls, falls_before, noted_before, nothing_noted, note_counting, note_falling, note_item}
use Rattle.record_kinds.proofs.ItemLaws.{record-of-cell, record-of-sheet, record-of-amendment}
use Rattle.record_offsets.proofs.NoteLaws.{block-lt, noted-counting, noted-falling}
use Rattle.record_shape.specs.Faults.{stands_before, repeated}
use Rattle.record_shape.proofs.RepetitionLaws.{single-stands}
use Rattle.record_fields.proofs.SearchLaws.{Reached, next-lt, first_next}
use Rattle.record_offsets.proofs.CountingLaws.{counting-next, counting-stays, falls-next, falls-stays}

one_more : (f at next size : ℕ) (a b : Bool) → ltb f at ≡ a → at < next
    → cond (ltb (cond a f (cond b at next)) next) (cond a f (cond b at next)) size ≡ cond a f (cond b at size)
one_more f at next size true b e h = simp (lt-ltb f next (omega (arith, ltb-true f at e)))
one_more f at next size false true e h = simp (lt-ltb at next h)
one_more f at next size false false e h = simp (le-ltb next next (le_refl next))

-- what is noted is equal where its parts are
noted-eq : {a a' b b' c c' : List ℕ} {d d' : List Bool} → a ≡ a' → b ≡ b' → c ≡ c' → d ≡ d'
    → ◌≡◌ {A = Noted} (record { sheets = a; cells = b; counting = c; falling = d }) (record { sheets = a'; cells = b'; counting = c'; falling = d' })
noted-eq p q r f = rw (p, q, r, f)

module _ (s : List ℕ) (at : ℕ) (reached : Reached s 0 at) where
  -- the offset noted for an item once one record more is read
  offset-next : (item : Option Item)
      → offset_before s (next_record s at) item
      ≡ cond (ltb (first_with s item at) at) (first_with s item at) (cond (same_item (record_item s at) item) at (length s))
  unfolding offset_before first_with
  offset-next item =
      rw (first_next s (λ (i : ℕ). same_item (record_item s i) item) reached)
      (one_more (first_record s (λ (i : ℕ). same_item (record_item s i) item) at) at (next_record s at) (length s)
      (ltb (first_record s (λ (i : ℕ). same_item (record_item s i) item) at) at) (same_item (record_item s at) item) refl (omega (arith, next-lt s at)))

  -- what is noted for another item stays
  noted-stays : (item : Option Item) → same_item (record_item s at) item ≡ false → offset_before s at item ≡ offset_before s (next_record s at) item
  unfolding offset_before
  noted-stays item other = sym (offset-next item ∙ simp other)

  -- a record whose item stands nowhere before is the first of it, so its own offset is noted
  noted_here : (item : Option Item) → record_item s at ≡ item → same_item item item ≡ true → stands_before s at ≡ false
      → at ≡ offset_before s (next_record s at) item
  unfolding stands_before
  noted_here item is same single = sym (offset-next item ∙ simp (is, same, rw is at single))

  -- the sheets and the cells stay where the record is of none, and so do those that count and those that fall
  sheets-stay : ((kind : ℕ) → same_item (record_item s at) (Some (Sheet kind)) ≡ false) → (noted_before s at).sheets ≡ (noted_before s (next_record s at)).sheets
  unfolding noted_before
  sheets-stay other = table_from-ext 0 kind_count _ _ (λ k l u. noted-stays (Some (Sheet k)) (other k))

  cells_stay : ((cell : ℕ) → same_item (record_item s at) (Some (Cell cell)) ≡ false) → (noted_before s at).cells ≡ (noted_before s (next_record s at)).cells
  unfolding noted_before
  cells_stay other = table_from-ext first_cell cell_count _ _ (λ n l u. noted-stays (Some (Cell n)) (other n))

  counting-stay : ((cell : ℕ) → item_rank cell (record_item s at) ≡ 0) → (noted_before s at).counting ≡ (noted_before s (next_record s at)).counting
  unfolding noted_before
  counting-stay none = table_from-ext first_cell cell_count _ _ (λ n l u. counting-stays s n reached (none n))

  falling-stay : ((block : ℕ) → amends_in block (record_item s at) ≡ false) → (noted_before s at).falling ≡ (noted_before s (next_record s at)).falling
  unfolding noted_before
  falling-stay none = table_from-ext 0 block_count _ _ (λ n l u. falls-stays s n reached (none n))

  -- a record of a cell is noted among those that count
  counting-set : (cell : ℕ) → first_cell ≤ cell → cell < first_cell + cell_count → ((n : ℕ) → (cell ≡ n → ⊥) → item_rank n (record_item s at) ≡ 0)
      → note_counting s (noted_before s at).counting cell at ≡ (noted_before s (next_record s at)).counting
  unfolding note_counting noted_before
  counting-set cell l u other =
      let i : first_cell + (cell - first_cell) ≡ cell = omega arith in
      table-set first_cell cell_count _ _ (cell - first_cell) _ (omega arith)
      (rw (i, noted-counting s at cell l u) (sym (counting-next s cell reached)))
      (λ n q. counting-stays s n reached (other n (λ p. q (i ∙ p))))

  falling-set : (cell number : ℕ) → first_cell ≤ cell → cell < first_cell + cell_count → record_item s at ≡ Some (Amendment cell number)
      → note_falling s (noted_before s at) cell number at ≡ (noted_before s (next_record s at)).falling
  unfolding note_falling noted_before falls falls_as amends_in
  falling-set cell number l u e =
      table-set 0 block_count _ _ (block_of number) _ (block-lt number)
      (rw (zero-add, noted-counting s at cell l u, noted-falling s at (block_of number) (block-lt number))
      (sym (falls-next s (block_of number) reached ∙ rw e (simp (eq-eqb (block_of number) (block_of number) refl)))))
      (λ n q. falls-stays s n reached (rw e (ne_eqb (block_of number) n (λ p. q (zero-add (block_of number) ∙ p)))))

  cell_set : (cell : ℕ) → record_item s at ≡ Some (Cell cell) → stands_before s at ≡ false
      → set (noted_before s at).cells (cell - first_cell) at ≡ (noted_before s (next_record s at)).cells
  unfolding noted_before same_item
  cell_set cell e single =
      let r = record-of-cell s at cell e in
      let i : first_cell + (cell - first_cell) ≡ cell = omega (arith, r.from_first) in
      table-set first_cell cell_count _ _ (cell - first_cell) at (omega (arith, r.from_first, r.to_last))
      (rw i (noted_here (Some (Cell cell)) e (eq-eqb cell cell refl) single))
      (λ n q. noted-stays (Some (Cell n)) (rw e (ne_eqb cell n (λ p. q (i ∙ p)))))

  sheet-set : (kind : ℕ) → record_item s at ≡ Some (Sheet kind) → stands_before s at ≡ false
      → set (noted_before s at).sheets kind at ≡ (noted_before s (next_record s at)).sheets
  unfolding noted_before same_item
  sheet-set kind e single =
      table-set 0 kind_count _ _ kind at (record-of-sheet s at kind e).known
      (rw zero-add (noted_here (Some (Sheet kind)) e (eq-eqb kind kind refl) single))
      (λ k q. noted-stays (Some (Sheet k)) (rw e (ne_eqb kind k (λ p. q (zero-add kind ∙ p)))))

  -- one record more, by what it is: a cell sets its own offset and may come to count, a sheet sets that of its kind, an amendment may come to
  -- count and may make its block fall; everything else that is noted stays
  pub noted-next : repeated s at ≡ false → note_item s (noted_before s at) (record_item s at) at ≡ noted_before s (next_record s at)
  unfolding note_item same_item item_rank amends_in
  noted-next single = by (record_item s at) refl
    where
      by : (item : Option Item) → record_item s at ≡ item → note_item s (noted_before s at) item at ≡ noted_before s (next_record s at)
      by (Some (Cell cell)) e =
          let r = record-of-cell s at cell e in
          noted-eq (sheets-stay (λ k. rw e)) (cell_set cell e (single-stands s at (Some (Cell cell)) e refl single))
          (counting-set cell r.from_first r.to_last (λ n q. rw e (simp (ne_eqb cell n q))))
          (falling-stay (λ n. rw e))
      by (Some (Sheet kind)) e =
          noted-eq (sheet-set kind e (single-stands s at (Some (Sheet kind)) e refl single)) (cells_stay (λ n. rw e)) (counting-stay (λ n. rw e)) (falling-stay (λ n. rw e))
      by (Some (Amendment cell number)) e =
          let r = record-of-amendment s at cell number e in
          noted-eq (sheets-stay (λ k. rw e)) (cells_stay (λ n. rw e))
          (counting-set cell r.from_first r.to_last (λ n q. rw e (simp (ne_eqb cell n q))))
          (falling-set cell number r.from_first r.to_last e)
      by None e = noted-eq (sheets-stay (λ k. rw e)) (cells_stay (λ n. rw e)) (counting-stay (λ n. rw e)) (falling-stay (λ n. rw e))

-- no record read: nothing is noted
pub noted-start : (s : List ℕ) → nothing_noted (length s) ≡ noted_before s 0
unfolding noted_before offset_before counting_before counts_from falls_before first_with first_record search_records table_from
noted-start s = refl
