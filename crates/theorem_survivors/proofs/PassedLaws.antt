-- The filing that is composed of the surviving records of a sound filing is sound and without amendments. Assumes nothing.
use Rattle.std.specs.Prelude.{Option, Some, None}
use Prim.Native.Nat.{ℕ, ◌<◌}
use native.Mathlib.Omega.{arith}
use mathlib.Core.Path.{◌≡◌, refl, sym, ap, subst, ◌∙◌}
use mathlib.Core.Bool.{Bool, true, false, cond, not, true≢false}
use mathlib.Core.List.{List}
use borrow.Author.Tests.{le-ltb, ltb-false, eqb-true, eq-eqb}
use lib.Dec.{eqb}
use lib.ListN.{length}
use Rattle.lists.proofs.TestLaws.{and-true}
use Rattle.answers.specs.Verdict.{accepted}
use Rattle.record_fields.specs.Records.{record_length, record_kind, amendment_state, next_record, first_record}
use Rattle.record_fields.proofs.SearchLaws.{Reached}
use Rattle.record_fields.proofs.FirstLaws.{first-none, first-earlier}
use Rattle.record_kinds.specs.Kinds.{amendment_kind, flat_rates_kind, rate_path_kind}
use Rattle.record_kinds.specs.declared.items.Item.{Item}
use Rattle.record_kinds.specs.declared.items.Item.TheVariants.{Cell, Sheet, Amendment}
use Rattle.record_kinds.specs.Items.{same_item, record_item, first_with}
use Rattle.record_kinds.proofs.ItemLaws.{same_item_lem, record-of-amendment}
use Rattle.record_limits.proofs.BodyLaws.{amendment-within, amendment-fits}
use Rattle.record_shape.specs.Faults.{sheet_before, path_beside_flat}
use Rattle.record_verdicts.specs.RecordVerdicts.{first_refused, first_faulty, record_verdict}
use Rattle.theorem_certificates.proofs.PassLaws.{passes, complete, cell-passes}
use Rattle.filing_decode.specs.Contents.{cell_offset}
use Rattle.theorem_survivors.specs.Survivors.{withdraws}
use Rattle.theorem_survivors.specs.Composed.{keeps, kept_as, offset_of, only_survivors}
use Rattle.theorem_survivors.proofs.PieceLaws.{amended-length}
use Rattle.theorem_survivors.proofs.CopyLaws.{length-copied, kind-copied, shape-copied, listed-copied, limit-copied, tiers-copied}
use Rattle.theorem_survivors.proofs.WalkLaws.{kept_is, piece, place, offset-reached, Source}
use Rattle.theorem_survivors.proofs.KeptLaws.{fault-free, shape_of, four-long, amendment-ends, framed, place-ends, comes-from}
use Rattle.theorem_survivors.proofs.StandLaws.{kept_item, amended_to, amended, amended-listed, CopyOf, cell-copy, sheet-copy, item-made, earlier, once}

-- an item that is kept as a sheet is that sheet
pub kept-sheet : (item : Option Item) (kind : ℕ) → kept_item item ≡ Some (Sheet kind) → item ≡ Some (Sheet kind)
kept-sheet (Some (Cell n)) kind e = let z : ◌≡◌ {A = ℕ} 0 1 = cc in absurd (omega arith)
kept-sheet (Some (Sheet k)) kind e = e
kept-sheet (Some (Amendment n number)) kind e = let z : ◌≡◌ {A = ℕ} 0 1 = cc in absurd (omega arith)
kept-sheet None kind e = let z : ◌≡◌ {A = ℕ} 0 1 = cc in absurd (omega arith)

-- an amendment that is kept does not withdraw its cell
pub valued : (s : List ℕ) (at : ℕ) → record_kind s at ≡ amendment_kind → not (withdraws s at) ≡ true → eqb (amendment_state s at) 0 ≡ true
unfolding withdraws
valued s at e h = by (eqb (amendment_state s at) 0) (rw e at h)
  where
    by : (b : Bool) → not (not b) ≡ true → b ≡ true
    by true h = refl
    by false h = h

module _ (s : List ℕ) (none : first_faulty s ≡ length s) where
  abbrev made : List ℕ
  made = only_survivors s

  -- A kind of sheet that no record of s before this one is stands in none before it here: one that did would come from an earlier record of s, which the
  -- search in s has passed
  beside : (m kind : ℕ) → kept_is s m ≡ true → sheet_before s (offset_of s m) kind ≡ false → sheet_before made (place s m) kind ≡ false
  unfolding sheet_before first_with same_item
  beside m kind k h =
      rw (first-none made (λ (at : ℕ). same_item (record_item made at) (Some (Sheet kind))) (place s m)
      (λ j r l. by j l (comes-from s none r (omega (arith, place-ends s none m k))) (same_item (record_item made j) (Some (Sheet kind))) refl))
      (le-ltb (place s m) (place s m) (omega arith))
    where
      by : (j : ℕ) → j < place s m → Source s (framed s none) j → (b : Bool) → same_item (record_item made j) (Some (Sheet kind)) ≡ b → b ≡ false
      by j l src true e =
          let i : ℕ = src.index in
          let stands : record_item made (place s i) ≡ Some (Sheet kind) = ap (record_item made) src.is ∙ same_item_lem (record_item made j) (Some (Sheet kind)) e in
          let is = kept-sheet (record_item s (offset_of s i)) kind (sym (item-made s none i src.kept) ∙ stands) in
          let first = ltb-false (first_with s (Some (Sheet kind)) (offset_of s m)) (offset_of s m) h in
          let before = earlier s none i m (omega (arith, src.is)) in
          let not_there = first-earlier s (λ (at : ℕ). same_item (record_item s at) (Some (Sheet kind))) (offset_of s m) (offset_of s i) (offset-reached s i) (omega arith) in
          absurd (true≢false (sym (rw is (eq-eqb kind kind refl)) ∙ not_there))
      by j l src false e = refl

  module _ (m : ℕ) (k : kept_is s m ≡ true) where
    abbrev at : ℕ
    at = offset_of s m

    abbrev here : ℕ
    here = place s m

    -- 12: flat rates beside a path would stand so in s
    alone : record_kind made here ≡ record_kind s at → path_beside_flat made here ≡ false
    unfolding path_beside_flat
    alone e = rw e (by (eqb (record_kind s at) flat_rates_kind) (eqb (record_kind s at) rate_path_kind) (fault-free s none m k).alone)
      where
        by : (flat path : Bool) → cond flat (sheet_before s at rate_path_kind) (cond path (sheet_before s at flat_rates_kind) false) ≡ false
            → cond flat (sheet_before made here rate_path_kind) (cond path (sheet_before made here flat_rates_kind) false) ≡ false
        by true path h = beside m rate_path_kind k h
        by false true h = beside m flat_rates_kind k h
        by false false h = refl

    -- A copy has no fault: it ends within the bytes, repeats no item, stands beside no other rates, and its other tests are those of its record in s
    copy-passes : CopyOf s none m → record_verdict made here ≡ accepted
    unfolding next_record
    copy-passes c =
        let shaped = shape_of s none m k in
        let four = four-long s none m k in
        let free = fault-free s none m k in
        let size = length-copied s made at here c.copy in
        passes made here
        (complete made here (record_length s at) size (omega arith) (omega (arith, size, c.copy.ends)))
        (shape-copied s made at here c.copy shaped four ∙ free.shaped)
        (listed-copied s made at here c.copy shaped four ∙ free.listed)
        (once s none m k)
        (alone (kind-copied s made at here c.copy shaped four))
        (limit-copied s made at here c.copy shaped four c.plain ∙ free.limited)
        (tiers-copied s made at here c.copy shaped four ∙ free.loaded)

    -- an amendment is kept in 14 bytes
    amended-whole : (n number : ℕ) → record_item s at ≡ Some (Amendment n number) → length (piece s m) ≡ 14
    unfolding kept_as
    amended-whole n number e = ap (λ (item : Option Item). length (kept_as s at item)) e ∙ amended-length s at (amendment-ends s none m n number k e)

    -- An amendment has none as a record of kind 1: its cell is listed, and its value is within that cell's limit
    amended-passes : (n number : ℕ) → record_item s at ≡ Some (Amendment n number) → not (withdraws s at) ≡ true → record_verdict made here ≡ accepted
    unfolding next_record
    amended-passes n number e h =
        let kind = (record-of-amendment s at n number e).kind-is in
        let fit = amendment-fits s at (amendment-within s at (fault-free s none m k).limited kind) in
        let r = amended s none m n number k e in
        cell-passes made here (amended_to s none m) r (amended-listed s none m n number k e)
        (fit.limited (eqb-true (amendment_state s at) 0 (valued s at kind h)))
        (omega (arith, r.length-is, place-ends s none m k, amended-whole n number e))
        (once s none m k)

    -- a record that is kept has no fault, and is no amendment
    record Passed : Type 0 where
      no-fault : record_verdict made here ≡ accepted
      no-amendment : eqb (record_kind made here) amendment_kind ≡ false

    -- a cell or a sheet is kept as a copy, which has no fault and the kind that it had; an amendment is kept only where it does not withdraw,
    -- and then as a record of kind 1 without fault
    passed : Passed
    unfolding keeps
    passed = by (record_item s at) refl k
      where
        copy : CopyOf s none m → Passed
        copy c =
            record {
              no-fault = copy-passes c;
              no-amendment = rw (kind-copied s made at here c.copy (shape_of s none m k) (four-long s none m k)) c.plain;
            }

        by : (item : Option Item) → record_item s at ≡ item → keeps s at item ≡ true → Passed
        by (Some (Cell n)) e h = copy (cell-copy s none m n k e)
        by (Some (Sheet kind)) e h = copy (sheet-copy s none m kind k e)
        by (Some (Amendment n number)) e h =
            record {
              no-fault = amended-passes n number e (and-true (eqb (cell_offset s n) at) (not (withdraws s at)) h).1;
              no-amendment = rw (amended s none m n number k e).kind-is;
            }
        by None e h = absurd (true≢false (sym h))

  -- each record that is reached comes from one that is kept
  each : {j : ℕ} → Reached made 0 j → j < length made → (P : ℕ → Type 0) → ((m : ℕ) → kept_is s m ≡ true → P (place s m)) → P j
  each r l P h = let src = comes-from s none r l in subst P src.is (h src.index src.kept)

  pub made-sound : first_faulty made ≡ length made
  unfolding first_refused accepted
  made-sound =
      first-none made (λ (at : ℕ). not (eqb (record_verdict made at).number 0)) (length made)
      (λ j r l. each r l (λ (x : ℕ). not (eqb (record_verdict made x).number 0) ≡ false) (λ m k. rw (passed m k).no-fault))

  pub made-unamended : first_record made (λ (at : ℕ). eqb (record_kind made at) amendment_kind) (length made) ≡ length made
  made-unamended =
      first-none made (λ (at : ℕ). eqb (record_kind made at) amendment_kind) (length made)
      (λ j r l. each r l (λ (x : ℕ). eqb (record_kind made x) amendment_kind ≡ false) (λ m k. (passed m k).no-amendment))
