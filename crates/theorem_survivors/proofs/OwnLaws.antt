-- In a sound filing without amendments the record that counts for a cell is the cell's own, of kind 1 or 6.
-- Assumes nothing.
use Rattle.std.specs.Prelude.{Option, Some, None}
use Prim.Native.Nat.{ℕ, ◌≤◌, ◌<◌}
use native.Mathlib.Nat.{le_refl, le_antisymm}
use native.Mathlib.Omega.{arith}
use mathlib.Core.Path.{◌≡◌, refl, sym, ap, ◌∙◌}
use mathlib.Core.Bool.{Bool, true, false, not, true≢false}
use mathlib.Core.List.{List}
use borrow.Author.Tests.{ltb-true, ltb-false, lt-ltb, eqb-true, eq-eqb, not-false}
use lib.Dec.{ltb, eqb}
use lib.ListN.{length}
use Rattle.record_kinds.specs.declared.items.Item.{Item}
use Rattle.record_kinds.specs.declared.items.Item.TheVariants.{Cell, Sheet, Amendment}
use Rattle.record_fields.specs.Records.{record_kind, first_record}
use Rattle.record_kinds.specs.Kinds.{amendment_kind}
use Rattle.record_kinds.specs.Items.{same_item, record_item, first_with}
use Rattle.record_offsets.specs.Counting.{item_rank, rank, counting_before}
use Rattle.record_fields.proofs.RecordLaws.{first-le, first_passes}
use Rattle.record_kinds.proofs.ItemLaws.{same_item_lem, item-past, record-of-amendment}
use Rattle.record_shape.specs.Faults.{stands_before}
use Rattle.record_verdicts.specs.RecordVerdicts.{first_refused, first_faulty, record_verdict}
use Rattle.record_verdicts.proofs.FaultLaws.{Faultless, record-plain, faultless}
use Rattle.record_shape.proofs.RepetitionLaws.{single-stands}
use Rattle.record_fields.proofs.SearchLaws.{Reached}
use Rattle.record_fields.proofs.FirstLaws.{first_found, first-earlier, first-reached}
use Rattle.record_offsets.proofs.CountingLaws.{ranked-cell, counting-most, counting_holds}

-- where no record is faulty, each that is reached is without a fault
pub faultless-at : (t : List ℕ) → first_faulty t ≡ length t → (at : ℕ) → Reached t 0 at → at < length t → Faultless t at
unfolding first_refused
faultless-at t sound at r l =
    faultless t at
    (record-plain t at
    (eqb-true (record_verdict t at).number 0
    (not-false (eqb (record_verdict t at).number 0)
    (first-earlier t (λ (i : ℕ). not (eqb (record_verdict t i).number 0)) (length t) at r (omega (arith, sound))))))

module _ (t : List ℕ) (sound : first_faulty t ≡ length t)
    (unamended : first_record t (λ (at : ℕ). eqb (record_kind t at) amendment_kind) (length t) ≡ length t) (n : ℕ) where
  abbrev first : ℕ
  first = first_with t (Some (Cell n)) (length t)

  abbrev counted : ℕ
  counted = counting_before t n (length t)

  abbrev of_cell : ℕ → Bool
  of_cell at = same_item (record_item t at) (Some (Cell n))

  -- a record of the cell, without amendments, is of kind 1 or 6: a sheet and nothing rank 0, and an amendment before the end would have been
  -- found by the search for one
  item-is : (at : ℕ) → Reached t 0 at → at < length t → 0 < rank t n at → record_item t at ≡ Some (Cell n)
  unfolding item_rank
  item-is at r l h = by (record_item t at) refl h
    where
      by : (item : Option Item) → record_item t at ≡ item → 0 < item_rank n item → record_item t at ≡ Some (Cell n)
      by (Some (Cell m)) e p = e ∙ ap (λ (c : ℕ). Some (Cell c)) (ranked-cell m n 1 p)
      by (Some (Sheet kind)) e p = absurd (omega arith)
      by (Some (Amendment m number)) e p =
          absurd (true≢false (sym (eq-eqb (record_kind t at) amendment_kind (record-of-amendment t at m number e).kind-is)
          ∙ first-earlier t (λ (i : ℕ). eqb (record_kind t i) amendment_kind) (length t) at r (omega (arith, unamended))))
      by None e p = absurd (omega arith)

  -- the record that counts is one of the cell
  record Counted (at : ℕ) : Type 0 where
    within : at ≤ length t
    is-cell : at < length t → Reached t 0 at × (record_item t at ≡ Some (Cell n))

  counted_is : Counted counted
  counted_is =
      counting_holds t n Counted (length t) (record { within = le_refl (length t); is-cell = λ l. absurd (omega arith) })
      (λ at r l h. record { within = omega arith; is-cell = λ u. (r, item-is at r l h) })

  same-cell : (at : ℕ) → record_item t at ≡ Some (Cell n) → of_cell at ≡ true
  unfolding same_item
  same-cell at e = rw e (eq-eqb n n refl)

  -- No record of the cell stands before another: were the first one before `at`, the search that ends at `at` would find it, and the record at `at` would
  -- be a 4
  single : (at : ℕ) → Reached t 0 at → at < length t → record_item t at ≡ Some (Cell n) → at ≤ first
  unfolding first_with stands_before
  single at r l e = by (ltb first at) refl
    where
      fine : ltb (first_record t of_cell at) at ≡ false
      fine = rw e at (single-stands t at (Some (Cell n)) e refl (faultless-at t sound at r l).single)

      by : (b : Bool) → ltb first at ≡ b → at ≤ first
      by true b =
          let u = ltb-true first at b in
          let within : first < length t = omega arith in
          let found : first_record t of_cell at ≡ first =
          first_found t of_cell at first (first-reached t of_cell (length t) within) u (first_passes t of_cell (length t) within)
          (λ j p q. first-earlier t of_cell (length t) j p q) in
          absurd (true≢false (sym (lt-ltb first at u) ∙ ap (λ (x : ℕ). ltb x at) (sym found) ∙ fine))
      by false b = ltb-false first at b

  -- a cell that stands ranks, and nothing does at the end
  ranked : first < length t → 0 < rank t n first
  unfolding item_rank first_with
  ranked l =
      let is = same_item_lem (record_item t first) (Some (Cell n)) (first_passes t of_cell (length t) l) in
      rw (is, eq-eqb n n refl) (omega arith)

  first_counted : first < length t → counted < length t
  unfolding item_rank first_with
  first_counted l = by (ltb counted (length t)) refl
    where
      by : (b : Bool) → ltb counted (length t) ≡ b → counted < length t
      by true e = ltb-true counted (length t) e
      by false e =
          let none : rank t n counted ≡ 0 = ap (item_rank n) (item-past t counted (ltb-false counted (length t) e)) in
          absurd (omega (arith, ranked l, none, counting-most t n (length t) first (first-reached t of_cell (length t) l) l))

  -- Without amendments the record that counts for a cell is the cell's own. Where one counts it is of the cell, so neither before the first one, by the
  -- search, nor behind it, by 4; where none counts none stands, since one that stands ranks above nothing
  pub own-counts : counted ≡ first
  unfolding first_with
  own-counts = by (ltb counted (length t)) refl
    where
      by : (b : Bool) → ltb counted (length t) ≡ b → counted ≡ first
      by true e =
          let l = ltb-true counted (length t) e in
          let is = counted_is.is-cell l in
          le_antisymm (single counted is.0 l is.1) (from (ltb counted first) refl is.0 is.1)
        where
          from : (b : Bool) → ltb counted first ≡ b → Reached t 0 counted → record_item t counted ≡ Some (Cell n) → first ≤ counted
          from true c r i = absurd (true≢false (sym (same-cell counted i) ∙ first-earlier t of_cell (length t) counted r (ltb-true counted first c)))
          from false c r i = ltb-false counted first c
      by false e =
          let past = ltb-false counted (length t) e in
          let whole : counted ≡ length t = le_antisymm counted_is.within past in
          whole ∙ sym (le_antisymm (first-le t of_cell (length t)) (none (ltb first (length t)) refl))
        where
          none : (b : Bool) → ltb first (length t) ≡ b → length t ≤ first
          none true c = absurd (omega (arith, first_counted (ltb-true first (length t) c), ltb-false counted (length t) e))
          none false c = ltb-false first (length t) c
