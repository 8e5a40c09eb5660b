-- In the filing that is composed of the surviving records, each stands as a cell or a sheet, and nothing stands twice. Assumes nothing.
use Rattle.std.specs.Prelude.{Option, Some, None}
use Prim.Native.Nat.{ℕ, ◌+◌, ◌≤◌, ◌<◌}
use native.Mathlib.Nat.{add-zero}
use native.Mathlib.Omega.{arith}
use mathlib.Core.Path.{◌≡◌, refl, sym, ap, subst, ◌∙◌}
use mathlib.Core.Logic.{⊎_elim}
use mathlib.Core.Bool.{Bool, true, false, not, true≢false}
use mathlib.Core.List.{List}
use borrow.Author.Tests.{le-ltb, ltb-false, eqb-true, eq-eqb, ne_eqb}
use lib.Dec.{eqb}
use lib.ListN.{length}
use Rattle.lists.proofs.TestLaws.{and-true}
use Rattle.lists.proofs.OrderLaws.{lt-or-le}
use Rattle.form.specs.Classes.{cell_class}
use Rattle.record_fields.specs.Bytes.{number_at}
use Rattle.record_fields.specs.Records.{record_kind, record_cell, amendment_value}
use Rattle.record_fields.proofs.SearchLaws.{Reached}
use Rattle.record_fields.proofs.FirstLaws.{first-none, first_found, first-earlier}
use Rattle.record_kinds.specs.Kinds.{gives_cell, names_cell, amendment_kind}
use Rattle.record_kinds.specs.declared.items.Item.{Item}
use Rattle.record_kinds.specs.declared.items.Item.TheVariants.{Cell, Sheet, Amendment}
use Rattle.record_kinds.specs.Items.{same_item, record_class, record_item, first_with}
use Rattle.record_kinds.proofs.ItemLaws.{same_item_lem, record-of-cell, record-of-sheet, record-of-amendment}
use Rattle.record_shape.specs.Faults.{stands_before}
use Rattle.record_shape.proofs.RepetitionLaws.{gives-plain, single-stands}
use Rattle.record_verdicts.specs.RecordVerdicts.{first_faulty}
use Rattle.filing_decode.specs.Contents.{cell_offset, sheet_offset}
use Rattle.certificate_cells.specs.declared.filled_cells.CellValue.{CellValue}
use Rattle.theorem_certificates.proofs.PassLaws.{CellRecord, cell-item}
use Rattle.theorem_survivors.specs.Survivors.{withdraws}
use Rattle.theorem_survivors.specs.Composed.{amended_cell, keeps, kept_as, offset_of, only_survivors}
use Rattle.theorem_survivors.proofs.OwnLaws.{faultless-at}
use Rattle.theorem_survivors.proofs.PieceLaws.{amended-length, amended-size, amended-kind, amended-cell, amended-value}
use Rattle.theorem_survivors.proofs.CopyLaws.{Copied, item-copied}
use Rattle.theorem_survivors.proofs.WalkLaws.{kept_is, piece, place, offset-lt, offset-reached, kept-within, place_mono, number-made, Source}
use Rattle.theorem_survivors.proofs.KeptLaws.{fault-free, shape_of, four-long, amendment-ends, framed, within, place-ends, reached-place, comes-from, copied}

-- what a record that is kept stands as
abbrev pub kept_item : Option Item → Option Item
kept_item (Some (Cell n)) = Some (Cell n)
kept_item (Some (Sheet kind)) = Some (Sheet kind)
kept_item (Some (Amendment n number)) = Some (Cell n)
kept_item None = None

-- the offset of the record in s that an item is kept from
abbrev pub home : List ℕ → Option Item → ℕ
home s (Some (Cell n)) = cell_offset s n
home s (Some (Sheet kind)) = sheet_offset s kind
home s (Some (Amendment n number)) = 0
home s None = 0

module _ (s : List ℕ) (none : first_faulty s ≡ length s) where
  abbrev made : List ℕ
  made = only_survivors s

  -- An amendment that is kept is a record of kind 1: its four numbers are read off the bytes that it is kept as
  abbrev pub amended_to : ℕ → CellValue
  amended_to m = record { cell = record_cell s (offset_of s m); value = amendment_value s (offset_of s m) }

  -- what is kept are the 14 bytes made of the amendment, and a number read at its place is the number read off them: length 12, kind 1, the
  -- amendment's cell and its value
  pub amended : (m n number : ℕ) → kept_is s m ≡ true → record_item s (offset_of s m) ≡ Some (Amendment n number) → CellRecord made (place s m) (amended_to m)
  unfolding kept_as
  amended m n number k e =
      let at : ℕ = offset_of s m in
      let ends = amendment-ends s none m n number k e in
      let is : piece s m ≡ amended_cell s at = ap (kept_as s at) e in
      let said : (i w : ℕ) → i + w ≤ 14 → number_at made (place s m + i) w ≡ number_at (amended_cell s at) i w =
      λ i w h. number-made s m (within s none m k) k i w (omega (arith, ap length is, amended-length s at ends))
      ∙ ap (λ (l : List ℕ). number_at l i w) is in
      record {
        length-is = rw (add-zero (place s m)) at (said 0 2 (omega arith) ∙ amended-size s at);
        kind-is = said 2 2 (omega arith) ∙ amended-kind s at;
        cell-is = said 4 2 (omega arith) ∙ amended-cell s at ends;
        value-is = said 6 8 (omega arith) ∙ amended-value s at ends;
      }

  pub amended-listed : (m n number : ℕ) → kept_is s m ≡ true → record_item s (offset_of s m) ≡ Some (Amendment n number) → eqb (cell_class (amended_to m).cell) 0 ≡ false
  unfolding names_cell gives_cell record_class
  amended-listed m n number k e = rw (record-of-amendment s (offset_of s m) n number e).kind-is at (fault-free s none m k).listed

  -- a record of a cell or of a sheet is copied: its kind is no amendment's
  pub record CopyOf (m : ℕ) : Type 0 where
    pub plain : eqb (record_kind s (offset_of s m)) amendment_kind ≡ false
    pub copy : Copied s made (offset_of s m) (place s m)

  pub cell-copy : (m n : ℕ) → kept_is s m ≡ true → record_item s (offset_of s m) ≡ Some (Cell n) → CopyOf m
  unfolding kept_as
  cell-copy m n k e =
      record {
        plain = gives-plain (record_kind s (offset_of s m)) (record-of-cell s (offset_of s m) n e).gives;
        copy = copied s none m k (ap (kept_as s (offset_of s m)) e);
      }

  pub sheet-copy : (m kind : ℕ) → kept_is s m ≡ true → record_item s (offset_of s m) ≡ Some (Sheet kind) → CopyOf m
  unfolding kept_as
  sheet-copy m kind k e =
      let of = record-of-sheet s (offset_of s m) kind e in
      record {
        plain = ne_eqb (record_kind s (offset_of s m)) amendment_kind (λ q. of.no-amendment (sym of.kind-is ∙ q));
        copy = copied s none m k (ap (kept_as s (offset_of s m)) e);
      }

  -- Each record stands as what it is, an amendment as its cell: a copy has the item of its record, and a record of kind 1 that of its cell
  pub item-made : (m : ℕ) → kept_is s m ≡ true → record_item made (place s m) ≡ kept_item (record_item s (offset_of s m))
  unfolding keeps
  item-made m k = by (record_item s (offset_of s m)) refl k
    where
      same : CopyOf m → record_item made (place s m) ≡ record_item s (offset_of s m)
      same c = item-copied s made (offset_of s m) (place s m) c.copy (shape_of s none m k) (four-long s none m k) c.plain

      by : (item : Option Item) → record_item s (offset_of s m) ≡ item → keeps s (offset_of s m) item ≡ true → record_item made (place s m) ≡ kept_item item
      by (Some (Cell n)) e h = same (cell-copy m n k e) ∙ e
      by (Some (Sheet kind)) e h = same (sheet-copy m kind k e) ∙ e
      by (Some (Amendment n number)) e h =
          cell-item made (place s m) (amended_to m) (amended m n number k e) (amended-listed m n number k e)
          ∙ ap (λ (c : ℕ). Some (Cell c)) (record-of-amendment s (offset_of s m) n number e).cell-is
      by None e h = absurd (true≢false (sym h))

  -- a sheet of s stands there once, or the later one would be a 4
  pub sheet-once : (at kind : ℕ) → Reached s 0 at → at < length s → record_item s at ≡ Some (Sheet kind) → sheet_offset s kind ≡ at
  unfolding sheet_offset first_with stands_before same_item
  sheet-once at kind r l e =
      let once = single-stands s at (Some (Sheet kind)) e refl (faultless-at s none at r l).single in
      let before = rw e at (ltb-false (first_with s (record_item s at) at) at once) in
      first_found s (λ (j : ℕ). same_item (record_item s j) (Some (Sheet kind))) (length s) at r l (rw e (eq-eqb kind kind refl))
      (λ j p u. first-earlier s (λ (i : ℕ). same_item (record_item s i) (Some (Sheet kind))) at j p (omega arith))

  -- the item that a record is kept as tells where the record stands in s
  home-is : (m : ℕ) → kept_is s m ≡ true → home s (kept_item (record_item s (offset_of s m))) ≡ offset_of s m
  unfolding keeps
  home-is m k = by (record_item s (offset_of s m)) refl k
    where
      by : (item : Option Item) → record_item s (offset_of s m) ≡ item → keeps s (offset_of s m) item ≡ true → home s (kept_item item) ≡ offset_of s m
      by (Some (Cell n)) e h = eqb-true (cell_offset s n) (offset_of s m) h
      by (Some (Sheet kind)) e h = sheet-once (offset_of s m) kind (offset-reached s m) (kept-within s m k) e
      by (Some (Amendment n number)) e h = eqb-true (cell_offset s n) (offset_of s m) (and-true (eqb (cell_offset s n) (offset_of s m)) (not (withdraws s (offset_of s m))) h).0
      by None e h = absurd (true≢false (sym h))

  pub home-made : (m : ℕ) → kept_is s m ≡ true → home s (record_item made (place s m)) ≡ offset_of s m
  home-made m k = ap (home s) (item-made m k) ∙ home-is m k

  -- a record that stands before another comes from one before it
  pub earlier : (i m : ℕ) → place s i < place s m → offset_of s i < offset_of s m
  earlier i m h = ⊎_elim (λ l. offset-lt s i m l) (λ l. absurd (omega (arith, place_mono s m i l))) (lt-or-le i m)

  -- No record before it stands as the same item. That item tells one offset in s, so both would come from one record; but the earlier one comes from an
  -- earlier record
  pub earlier-other : (m : ℕ) → kept_is s m ≡ true → (j : ℕ) → Reached made 0 j → j < place s m
      → same_item (record_item made j) (record_item made (place s m)) ≡ false
  earlier-other m k j r l = by (comes-from s none r (omega (arith, place-ends s none m k))) (same_item (record_item made j) (record_item made (place s m))) refl
    where
      by : Source s (framed s none) j → (b : Bool) → same_item (record_item made j) (record_item made (place s m)) ≡ b → b ≡ false
      by src true e =
          let same = same_item_lem (record_item made j) (record_item made (place s m)) e in
          let at_j : home s (record_item made j) ≡ offset_of s src.index =
          subst (λ (x : ℕ). home s (record_item made x) ≡ offset_of s src.index) src.is (home-made src.index src.kept) in
          absurd (omega (arith, at_j, ap (home s) same, home-made m k, earlier src.index m (omega (arith, src.is))))
      by src false e = refl

  -- so it repeats no item, and a search for its item finds it
  pub once : (m : ℕ) → kept_is s m ≡ true → stands_before made (place s m) ≡ false
  unfolding stands_before first_with
  once m k =
      rw (first-none made (λ (at : ℕ). same_item (record_item made at) (record_item made (place s m))) (place s m) (earlier-other m k))
      (le-ltb (place s m) (place s m) (omega arith))

  pub place-lt : (m : ℕ) → kept_is s m ≡ true → place s m < length made
  place-lt m k = omega (arith, place-ends s none m k, framed s none m k)

  pub first-is : (m : ℕ) (item : Option Item) → kept_is s m ≡ true → record_item made (place s m) ≡ item → same_item item item ≡ true
      → first_with made item (length made) ≡ place s m
  unfolding first_with
  first-is m item k e self =
      first_found made (λ (at : ℕ). same_item (record_item made at) item) (length made) (place s m) (reached-place s none m k) (place-lt m k)
      (rw e self) (λ j r l. rw e at (earlier-other m k j r l))

  -- an item that no record is kept as stands nowhere
  pub first-lost : (item : Option Item) → ((m : ℕ) → kept_is s m ≡ true → kept_item (record_item s (offset_of s m)) ≡ item → ⊥) → first_with made item (length made) ≡ length made
  unfolding first_with
  first-lost item never = first-none made (λ (at : ℕ). same_item (record_item made at) item) (length made) (λ j r l. by j (comes-from s none r l) (same_item (record_item made j) item) refl)
    where
      by : (j : ℕ) → Source s (framed s none) j → (b : Bool) → same_item (record_item made j) item ≡ b → b ≡ false
      by j src true e =
          let same = same_item_lem (record_item made j) item e in
          absurd (never src.index src.kept (sym (item-made src.index src.kept) ∙ ap (record_item made) src.is ∙ same))
      by j src false e = refl
