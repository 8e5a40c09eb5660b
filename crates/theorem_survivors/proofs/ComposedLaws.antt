-- For every accepted filing there is one with only its surviving cells: the one that is composed of its surviving records. Assumes nothing.
use Rattle.std.specs.Prelude.{Option, Some, None}
use Prim.Native.Nat.{ℕ, suc, ◌+◌, ◌*◌, ◌-◌, ◌≤◌, ◌<◌}
use native.Mathlib.Nat.{le_refl}
use native.Mathlib.Omega.{arith}
use mathlib.Core.Path.{◌≡◌, refl, sym, ap, subst, ◌∙◌}
use mathlib.Core.Bool.{Bool, true, false, cond, not, true≢false}
use mathlib.Core.List.{List}
use borrow.Author.Tests.{ltb-true, ltb-false, lt-ltb, le-ltb, eqb-true, eq-eqb}
use lib.Dec.{ltb, eqb}
use lib.ListN.{length}
use Rattle.lists.proofs.TestLaws.{and-true}
use Rattle.record_fields.specs.Records.{record_length, record_kind, sheet_number, tier_count}
use Rattle.record_fields.proofs.SearchLaws.{Reached}
use Rattle.record_fields.proofs.FirstLaws.{first-reached}
use Rattle.record_kinds.specs.Kinds.{sheet_kind, amendment_kind, tiers_kind}
use Rattle.record_kinds.specs.declared.items.Item.{Item}
use Rattle.record_kinds.specs.declared.items.Item.TheVariants.{Cell, Sheet, Amendment}
use Rattle.record_kinds.specs.Items.{same_item, record_item, first_with}
use Rattle.record_kinds.proofs.ItemLaws.{with-passes, record-of-cell, record-of-sheet, record-of-amendment}
use Rattle.record_offsets.specs.Counting.{item_rank, rank}
use Rattle.record_offsets.proofs.CountingLaws.{ranked-cell, counting_holds}
use Rattle.filing_contents.specs.Amounts.{filed_value, amount_at}
use Rattle.record_verdicts.specs.RecordVerdicts.{first_faulty}
use Rattle.filing_decode.specs.Contents.{cell_offset, sheet_offset}
use Rattle.filing.proofs.VerdictLaws.{accepted-passed}
use Rattle.theorem_survivors.specs.Survivors.{withdraws, survives, own_offset, has_sheet, numbers_of, Surviving}
use Rattle.theorem_survivors.specs.Composed.{keeps, offset_of, only_survivors}
use Rattle.theorem_survivors.specs.Alike.{SurvivorsAlike, OnlySurvivorsAlike}
use Rattle.theorem_survivors.proofs.AlikeLaws.{survivors-alike}
use Rattle.theorem_survivors.proofs.CopyLaws.{kind-copied, cell-copied, number-copied, tiers-length, cell-length, sheet-length}
use Rattle.theorem_survivors.proofs.WalkLaws.{kept_is, place, numbered, offset-reached, kept-within}
use Rattle.theorem_survivors.proofs.KeptLaws.{shape_of, four-long}
use Rattle.theorem_survivors.proofs.StandLaws.{kept_item, home, amended, cell-copy, sheet-copy, item-made, sheet-once, home-made, place-lt, first-is, first-lost}
use Rattle.theorem_survivors.proofs.SizeLaws.{made_bytes, not-longer}
use Rattle.theorem_survivors.proofs.PassedLaws.{kept-sheet, valued, made-sound, made-unamended}

-- a record that is no amendment withdraws no cell
kept-plain : (s : List ℕ) (at : ℕ) → eqb (record_kind s at) amendment_kind ≡ false → not (withdraws s at) ≡ true
unfolding withdraws
kept-plain s at e = rw e

module _ (s : List ℕ) (none : first_faulty s ≡ length s) where
  abbrev made : List ℕ
  made = only_survivors s

  -- the record that counts for a cell is reached, and of the cell
  counted : (n : ℕ) → cell_offset s n < length s → Reached s 0 (cell_offset s n) × (0 < rank s n (cell_offset s n))
  unfolding cell_offset
  counted n =
      counting_holds s n (λ (at : ℕ). at < length s → Reached s 0 at × (0 < rank s n at)) (length s) (λ l. absurd (omega arith))
      (λ at r l of h. (r, of))

  -- a cell that survives: the number of its record, which is kept as the cell
  record Survivor (n : ℕ) : Type 0 where
    index : ℕ
    kept : kept_is s index ≡ true
    is : offset_of s index ≡ cell_offset s n
    as-cell : kept_item (record_item s (offset_of s index)) ≡ Some (Cell n)

  -- The record that counts is reached, so it has a number; it ranks, so it is of the cell or amends it; it does not withdraw it, so it is kept
  survivor : (n : ℕ) → survives s n ≡ true → Survivor n
  unfolding survives item_rank keeps
  survivor n h =
      let parts = and-true (ltb (cell_offset s n) (length s)) (not (withdraws s (cell_offset s n))) h in
      let of = counted n (ltb-true (cell_offset s n) (length s) parts.0) in
      by of.0 parts.1 (record_item s (cell_offset s n)) refl of.1
    where
      at : ℕ
      at = cell_offset s n

      from : Reached s 0 at → keeps s at (record_item s at) ≡ true → kept_item (record_item s at) ≡ Some (Cell n) → Survivor n
      from r k e =
          let number = numbered s r in
          record {
            index = number.index;
            kept = subst (λ (x : ℕ). keeps s x (record_item s x) ≡ true) (sym number.is) k;
            is = number.is;
            as-cell = subst (λ (x : ℕ). kept_item (record_item s x) ≡ Some (Cell n)) (sym number.is) e;
          }

      by : Reached s 0 at → not (withdraws s at) ≡ true → (item : Option Item) → record_item s at ≡ item → 0 < item_rank n item → Survivor n
      by r w (Some (Cell m)) e p =
          let same = ranked-cell m n 1 p in
          from r (rw (e, same) (eq-eqb at at refl)) (rw (e, same) refl)
      by r w (Some (Sheet kind)) e p = absurd (omega arith)
      by r w (Some (Amendment m number)) e p =
          let same = ranked-cell m n (number + 1) p in
          from r (rw (e, same, w, eq-eqb at at refl) refl) (rw (e, same) refl)
      by r w None e p = absurd (omega arith)

  -- it is the cell's own record there
  own-place : (n m : ℕ) → kept_is s m ≡ true → kept_item (record_item s (offset_of s m)) ≡ Some (Cell n) → own_offset made n ≡ place s m
  unfolding same_item
  own-place n m k e = first-is s none m (Some (Cell n)) k (item-made s none m k ∙ e) (eq-eqb n n refl)

  -- a record that is kept as a cell counts for it in s, and does not withdraw it: the cell survives
  kept-survives : (n m : ℕ) → kept_is s m ≡ true → kept_item (record_item s (offset_of s m)) ≡ Some (Cell n) → survives s n ≡ true
  unfolding survives keeps
  kept-survives n m k e =
      let is : cell_offset s n ≡ offset_of s m = sym (ap (home s) (item-made s none m k ∙ e)) ∙ home-made s none m k in
      rw (is, lt-ltb (offset_of s m) (length s) (kept-within s m k)) (by (record_item s (offset_of s m)) refl k e)
    where
      stays : eqb (record_kind s (offset_of s m)) amendment_kind ≡ false → not (withdraws s (offset_of s m)) ≡ true
      stays = kept-plain s (offset_of s m)

      by : (item : Option Item) → record_item s (offset_of s m) ≡ item → keeps s (offset_of s m) item ≡ true → kept_item item ≡ Some (Cell n)
          → not (withdraws s (offset_of s m)) ≡ true
      by (Some (Cell c)) i h e = stays (cell-copy s none m c k i).plain
      by (Some (Sheet kind)) i h e = stays (sheet-copy s none m kind k i).plain
      by (Some (Amendment c number)) i h e = (and-true (eqb (cell_offset s c) (offset_of s m)) (not (withdraws s (offset_of s m))) h).1
      by None i h e = absurd (true≢false (sym h))

  -- The amount that it gives is that of its record in s: a copy has the same kind, cell and value; an amendment's value is in kind 1's unit, and counts
  -- tenfold for a coupon in both
  amount-made : (m n : ℕ) → kept_is s m ≡ true → kept_item (record_item s (offset_of s m)) ≡ Some (Cell n) → amount_at made (place s m) ≡ amount_at s (offset_of s m)
  unfolding amount_at filed_value keeps
  amount-made m n k e = by (record_item s (offset_of s m)) refl k e
    where
      by : (item : Option Item) → record_item s (offset_of s m) ≡ item → keeps s (offset_of s m) item ≡ true → kept_item item ≡ Some (Cell n)
          → amount_at made (place s m) ≡ amount_at s (offset_of s m)
      by (Some (Cell c)) i h e =
          let of = cell-copy s none m c k i in
          let shaped = shape_of s none m k in
          let four = four-long s none m k in
          let twelve = cell-length s made (offset_of s m) (place s m) of.copy shaped four of.plain (record-of-cell s (offset_of s m) c i).gives in
          rw (
            kind-copied s made (offset_of s m) (place s m) of.copy shaped four,
            cell-copied s made (offset_of s m) (place s m) of.copy shaped four,
            of.copy.numbers 6 8 (omega arith),
            of.plain,
          )
      by (Some (Sheet kind)) i h e = let z : ◌≡◌ {A = ℕ} 0 1 = cc in absurd (omega arith)
      by (Some (Amendment c number)) i h e =
          let kind = (record-of-amendment s (offset_of s m) c number i).kind-is in
          let r = amended s none m c number k i in
          let valid = valued s (offset_of s m) kind (and-true (eqb (cell_offset s c) (offset_of s m)) (not (withdraws s (offset_of s m))) h).1 in
          rw (r.kind-is, r.cell-is, r.value-is, kind, valid)
      by None i h e = absurd (true≢false (sym h))

  -- a sheet of s: the number of its record, which is copied
  record SheetAt (kind : ℕ) : Type 0 where
    index : ℕ
    kept : kept_is s index ≡ true
    is : offset_of s index ≡ sheet_offset s kind
    as-sheet : record_item s (offset_of s index) ≡ Some (Sheet kind)
    stands : sheet_offset made kind ≡ place s index

  -- the sheet's offset in s is reached, so its record has a number, and it is a sheet, so that it is kept; in the composed filing its copy
  -- is the first record of that sheet, so that the sheet stands there
  sheet-at : (kind : ℕ) → has_sheet s kind ≡ true → SheetAt kind
  unfolding keeps sheet_offset first_with same_item
  sheet-at kind h =
      let l = ltb-true (sheet_offset s kind) (length s) h in
      let number = numbered s (first-reached s (λ (at : ℕ). same_item (record_item s at) (Some (Sheet kind))) (length s) l) in
      let item = subst (λ (x : ℕ). record_item s x ≡ Some (Sheet kind)) (sym number.is) (with-passes s (Some (Sheet kind)) (length s) l) in
      let k : kept_is s number.index ≡ true = rw item in
      record {
        index = number.index;
        kept = k;
        is = number.is;
        as-sheet = item;
        stands = first-is s none number.index (Some (Sheet kind)) k (item-made s none number.index k ∙ ap kept_item item) (eq-eqb kind kind refl);
      }

  sheet-absent : (kind : ℕ) → has_sheet s kind ≡ false → sheet_offset made kind ≡ length made
  unfolding sheet_offset
  sheet-absent kind h =
      first-lost s none (Some (Sheet kind))
      (λ m k e. let is = sheet-once s none (offset_of s m) kind (offset-reached s m) (kept-within s m k) (kept-sheet (record_item s (offset_of s m)) kind e) in
      omega (arith, kept-within s m k, ltb-false (sheet_offset s kind) (length s) h))

  sheets-same : (kind : ℕ) → has_sheet made kind ≡ has_sheet s kind
  sheets-same kind = by (has_sheet s kind) refl
    where
      by : (b : Bool) → has_sheet s kind ≡ b → has_sheet made kind ≡ b
      by true h = let at = sheet-at kind h in rw at.stands (lt-ltb (place s at.index) (length made) (place-lt s none at.index at.kept))
      by false h = rw (sheet-absent kind h) (le-ltb (length made) (length made) (le_refl (length made)))

  -- each number up to the sheet's last lies within the copy: tiers have 1 + 2 × count numbers in 4 + 4 × count bytes, another sheet n in 2 + 2 n,
  -- so that number i, at 2 i to 2 i + 2, ends within the length
  numbers-same : (kind i : ℕ) → has_sheet s kind ≡ true → 1 ≤ i → i ≤ numbers_of s kind
      → sheet_number made (sheet_offset made kind) i ≡ sheet_number s (sheet_offset s kind) i
  unfolding numbers_of
  numbers-same kind i h l u =
      let at = sheet-at kind h in
      let of = sheet-copy s none at.index kind at.kept at.as-sheet in
      let is = record-of-sheet s (offset_of s at.index) kind at.as-sheet in
      let shaped = shape_of s none at.index at.kept in
      let four = four-long s none at.index at.kept in
      rw (at.stands, ← at.is)
      (number-copied s made (offset_of s at.index) (place s at.index) of.copy i
      (by (offset_of s at.index) at.is is.kind-is
      (tiers-length s made (offset_of s at.index) (place s at.index) of.copy shaped four)
      (sheet-length s made (offset_of s at.index) (place s at.index) of.copy shaped four of.plain (rw is.kind-is is.gives_no_cell) (i - 1))
      (eqb kind tiers_kind) refl u))
    where
      by : (at : ℕ) → at ≡ sheet_offset s kind → record_kind s at ≡ kind
          → (record_kind s at ≡ tiers_kind → record_length s at ≡ 4 + 4 * tier_count s at)
          → (i - 1 < (sheet_kind (record_kind s at)).numbers → 2 + 2 * suc (i - 1) ≤ record_length s at)
          → (b : Bool) → eqb kind tiers_kind ≡ b → i ≤ cond b (1 + 2 * tier_count s (sheet_offset s kind)) (sheet_kind kind).numbers
          → 2 + 2 * i ≤ record_length s at
      by at e k tiers sheet true b u = omega (arith, tiers (k ∙ eqb-true kind tiers_kind b), ap (tier_count s) e)
      by at e k tiers sheet false b u = omega (arith, sheet (rw k (omega arith)))

  -- Field by field: the records of the composed filing are sound and no amendments; a cell that survives is kept with its amount, and one that is kept
  -- survives; a sheet is copied
  composed : Surviving s made
  composed =
      record {
        sound = made-sound s none;
        unamended = made-unamended s none;
        stands = λ n l u h. let v = survivor n h in rw (own-place n v.index v.kept v.as-cell) (place-lt s none v.index v.kept);
        gives =
            λ n l u h.
            let v = survivor n h in
            rw (own-place n v.index v.kept v.as-cell, ← v.is) (amount-made v.index n v.kept v.as-cell);
        absent = λ n l u h. first-lost s none (Some (Cell n)) (λ m k e. true≢false (sym (kept-survives n m k e) ∙ h));
        same-sheets = λ kind l. sheets-same kind;
        same_numbers = λ kind i l. numbers-same kind i;
      }

-- every accepted filing is treated as the one that is composed of its surviving records
pub only-survivors-alike : OnlySurvivorsAlike
unfolding SurvivorsAlike OnlySurvivorsAlike
only-survivors-alike s a =
    let none = (accepted-passed s a).none-faulty in
    let u = composed s none in
    record { surviving = u; alike = survivors-alike s (only_survivors s) a u; not-longer = not-longer s none; of-bytes = made_bytes s }
