-- The verdict on one record, and what holds of a record that has none of the faults but perhaps 16.
-- Assumes nothing.
use Prim.Native.Nat.{ℕ, ◌+◌, ◌≤◌}
use mathlib.Core.Path.{◌≡◌, ap, ◌∙◌}
use mathlib.Core.Bool.{true, false, ◌||◌}
use mathlib.Core.List.{List}
use borrow.Author.Tests.{ltb-false, eqb-true, not-false}
use lib.Dec.{ltb, eqb}
use lib.ListN.{length}
use Rattle.answers.specs.Verdict.{Verdict, first_of}
use Rattle.answers.proofs.VerdictLaws.{LocatedAt, located-accepted, located-row, located-first, first-passed, first-none, condition-fails}
use Rattle.record_fields.specs.Records.{record_length, record_kind, record_value, sheet_number, next_record}
use Rattle.record_kinds.specs.Kinds.{gives_cell, amendment_kind, sheet_kind, tiers_kind, due_length}
use Rattle.record_limits.specs.Bodies.{value_limit, over_limit}
use Rattle.record_limits.specs.TierFaults.{unsound_tiers}
use Rattle.record_limits.proofs.BodyLaws.{FitAmendment, value-within, numbers-within, amendment-within, amendment-fits}
use Rattle.record_limits.proofs.TierLaws.{SoundTiers, tiers-load}
use Rattle.lists.proofs.TestLaws.{neither}
use Rattle.record_shape.specs.Faults.{incomplete, misshapen, unlisted, repeated, path_beside_flat}
use Rattle.record_verdicts.specs.RecordVerdicts.{shape_verdict, body_verdict, record_verdict}
use Rattle.record_verdicts.specs.Inner.PlainVerdicts.{plain_verdict}

-- each of the tests but 16 fails
pub record Faultless (s : List ℕ) (at : ℕ) : Type 0 where
  pub complete : incomplete s at ≡ false
  pub shaped : misshapen s at ≡ false
  pub listed : unlisted s at ≡ false
  pub single : repeated s at ≡ false
  pub alone : path_beside_flat s at ≡ false
  pub limited : over_limit s at ≡ false
  pub loaded : unsound_tiers s at ≡ false

-- a record without a fault: it ends within the bytes, its length is its kind's, a cell's value and a sheet's numbers are within their limits, and
-- tiers load
pub record Sound (s : List ℕ) (at : ℕ) : Type 0 where
  pub complete : next_record s at ≤ length s
  pub shaped : record_length s at ≡ due_length s at
  pub value-limit : gives_cell (record_kind s at) ≡ true → record_value s at ≤ value_limit s at
  pub number-limit : (i : ℕ) → 1 ≤ i → i ≤ (sheet_kind (record_kind s at)).numbers → sheet_number s at i ≤ (sheet_kind (record_kind s at)).limit
  pub amendment : record_kind s at ≡ amendment_kind → FitAmendment s at
  pub tiers : record_kind s at ≡ tiers_kind → SoundTiers s at

module _ (s : List ℕ) (at : ℕ) where
  -- a faulty record is refused at its offset
  pub record-located : LocatedAt at (record_verdict s at)
  unfolding record_verdict shape_verdict body_verdict first_of
  record-located =
      located-first at _ _
      (located-first at _ _ (located-row _ 1 at)
      (located-first at _ _ (located-row _ 2 at)
      (located-first at _ _ (located-row _ 3 at)
      (located-first at _ _ (located-row _ 4 at)
      (located-first at _ _ (located-row _ 12 at) (located-accepted at))))))
      (located-first at _ _ (located-row _ 16 at)
      (located-first at _ _ (located-row _ 5 at)
      (located-first at _ _ (located-row _ 11 at) (located-accepted at))))

  -- 1 does not hold: the record ends within the bytes
  pub complete-ends : incomplete s at ≡ false → next_record s at ≤ length s
  unfolding incomplete
  complete-ends h =
      let rest = (neither (ltb (length s) (at + 2)) (ltb (record_length s at) 2 || ltb (length s) (next_record s at)) h).1 in
      ltb-false (length s) (next_record s at) (neither (ltb (record_length s at) 2) (ltb (length s) (next_record s at)) rest).1

  -- 2 does not hold: the length is the kind's
  pub shaped-length : misshapen s at ≡ false → record_length s at ≡ due_length s at
  shaped-length h = eqb-true (record_length s at) (due_length s at) (not-false (eqb (record_length s at) (due_length s at)) h)

  -- a record that is not refused by them: no test passed. The first refusal of the seven rows is none, so that, row by row, neither the row nor
  -- those behind it refuse, and a row that does not refuse has a test that fails
  pub faultless : (plain_verdict s at).number ≡ 0 → Faultless s at
  unfolding plain_verdict shape_verdict body_verdict first_of
  faultless h =
      let parts = first-none _ _ h in
      let h1 = first-none _ _ parts.0 in
      let h2 = first-none _ _ h1.1 in
      let h3 = first-none _ _ h2.1 in
      let h4 = first-none _ _ h3.1 in
      let h5 = first-none _ _ h4.1 in
      let h6 = first-none _ _ parts.1 in
      let h7 = first-none _ _ h6.1 in
      record {
        complete = condition-fails (incomplete s at) 0 at h1.0;
        shaped = condition-fails (misshapen s at) 1 at h2.0;
        listed = condition-fails (unlisted s at) 2 at h3.0;
        single = condition-fails (repeated s at) 3 at h4.0;
        alone = condition-fails (path_beside_flat s at) 11 at h5.0;
        limited = condition-fails (over_limit s at) 4 at h6.0;
        loaded = condition-fails (unsound_tiers s at) 10 at h7.0;
      }

  -- a record that is not refused at all is not refused by them
  pub record-plain : (record_verdict s at).number ≡ 0 → (plain_verdict s at).number ≡ 0
  unfolding record_verdict plain_verdict
  record-plain h =
      let h1 = first-none (shape_verdict s at) _ h in
      let h2 = first-none _ _ h1.1 in
      ap (λ (v : Verdict). v.number) (first-passed (shape_verdict s at) (body_verdict s at) h1.0) ∙ h2.1

  -- no test but perhaps 16 holds: 1 leaves an end within the bytes, 2 the length of the kind, 5 a value, numbers and an amendment within their
  -- limits, 11 tiers that load
  pub faultless-sound : (plain_verdict s at).number ≡ 0 → Sound s at
  faultless-sound h =
      let f = faultless h in
      record {
        complete = complete-ends f.complete;
        shaped = shaped-length f.shaped;
        value-limit = value-within s at f.limited;
        number-limit = numbers-within s at f.limited;
        amendment = λ e. amendment-fits s at (amendment-within s at f.limited e);
        tiers = tiers-load s at f.loaded;
      }
