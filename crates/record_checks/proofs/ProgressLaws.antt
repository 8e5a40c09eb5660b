-- The scan over the records: its state before each of them, what a record makes of it, and what it answers at the end.
-- Assumes nothing.
use Prim.Native.Nat.{ℕ, ◌≤◌, ◌<◌}
use native.Mathlib.Nat.{le_refl, le_antisymm}
use native.Mathlib.Omega.{arith}
use mathlib.Core.Path.{◌≡◌, refl, sym, ap, ◌∙◌}
use mathlib.Core.Bool.{Bool, true, false, cond, not}
use mathlib.Core.List.{List}
use borrow.Author.Tests.{ltb-true, ltb-false, lt-ltb, le-ltb, eqb-false, eq-eqb, ne_eqb, not-true}
use lib.Dec.{ltb, eqb}
use lib.ListN.{length}
use Rattle.std.specs.Prelude.{Result, Ok, is_err}
use Rattle.answers.specs.declared.Refusal.{Refusal}
use Rattle.answers.specs.Verdict.{Verdict, accepted}
use Rattle.answers.specs.Answers.{verdict_of}
use Rattle.answers.proofs.AnswerLaws.{refused-number, accepted-number}
use Rattle.record_fields.specs.Records.{next_record}
use Rattle.record_kinds.specs.Items.{record_item}
use Rattle.record_verdicts.specs.RecordVerdicts.{first_refused, verdict_by, first_faulty, record_verdict, records_verdict}
use Rattle.record_verdicts.specs.Inner.PlainVerdicts.{plain_verdict, first_plain, plains_verdict}
use Rattle.record_verdicts.specs.Inner.SoundRecords.{sound_named}
use Rattle.record_verdicts.proofs.NamedLaws.{passes, sound-told}
use Rattle.record_offsets.specs.Inner.Notes.{Noted, noted_before, nothing_noted, note_item}
use Rattle.record_checks.specs.Inner.Scans.{Visited}
use Rattle.record_verdicts.proofs.FaultLaws.{faultless, complete-ends}
use Rattle.record_fields.proofs.RecordLaws.{first-le, first_passes}
use Rattle.record_fields.proofs.SearchLaws.{Reached, here, reached-next, Ahead, ahead-start, ahead-here, ahead-next, ahead-done}
use Rattle.record_checks.proofs.NotingLaws.{noted-start, noted-next}

abbrev faulty : List ℕ → ℕ → Bool
faulty s at = not (eqb (plain_verdict s at).number 0)

-- all records before `at` are faultless, and noted
pub record Scanning (s : List ℕ) (noted : Noted) (at : ℕ) : Type 0 where
  pub within : at ≤ length s
  pub reached : Reached s 0 at
  pub ahead : Ahead s (faulty s) (length s) at
  pub noted-is : noted ≡ noted_before s at

-- what the scan ends with: the verdict on the records by all tests but 16, what is noted of those before the first faulty one, and where that stands
pub record Scanned (s : List ℕ) (noted : Noted) (end : ℕ) (verdict : Verdict) : Type 0 where
  pub verdict-is : verdict ≡ plains_verdict s
  pub noted-is : noted ≡ noted_before s (first_plain s)
  pub end_is : end ≡ first_plain s

-- start: nothing is read
pub scanning-start : (s : List ℕ) → Scanning s (nothing_noted (length s)) 0
scanning-start s =
    record {
      within = omega arith;
      reached = here;
      ahead = ahead-start s (faulty s) (length s);
      noted-is = noted-start s;
    }

module _ (s : List ℕ) (noted : Noted) (at : ℕ) (state : Scanning s noted at) where
  -- next: a faultless record is read, and noted
  pub scanning-next : at < length s → (plain_verdict s at).number ≡ 0 → Scanning s (note_item s noted (record_item s at) at) (next_record s at)
  scanning-next l n =
      let f = faultless s at n in
      record {
        within = complete-ends s at f.complete;
        reached = reached-next s state.reached;
        ahead = ahead-next s (faulty s) (length s) at state.ahead l (simp (eq-eqb (plain_verdict s at).number 0 n));
        noted-is = rw state.noted-is (noted-next s at state.reached f.single);
      }

  -- here: a faulty record ends the scan with its verdict
  pub scanning-faulty : at < length s → ((plain_verdict s at).number ≡ 0 → ⊥) → Scanned s noted at (plain_verdict s at)
  unfolding first_refused verdict_by
  scanning-faulty l h =
      let found : first_plain s ≡ at =
      ahead-here s (faulty s) (length s) at state.ahead l (simp (ne_eqb (plain_verdict s at).number 0 h)) in
      record {
        verdict-is = rw (found, lt-ltb at (length s) l);
        noted-is = rw found state.noted-is;
        end_is = sym found;
      }

  -- done: all records are read, and none is faulty
  pub scanning-done : length s ≤ at → Scanned s noted at accepted
  unfolding first_refused verdict_by
  scanning-done l =
      let found : first_plain s ≡ length s = ahead-done s (faulty s) (length s) at state.ahead l in
      let e : at ≡ length s = omega (arith, state.within) in
      record {
        verdict-is = rw (found, le-ltb (length s) (length s) (le_refl (length s)));
        noted-is = rw (found, ← e) state.noted-is;
        end_is = e ∙ sym found;
      }

  -- the record at hand is visited: a faulty one ends the scan, and after a sound one it goes on
  module _ {A : Type 0} (within : at < length s) (answer : Result A Refusal) (after : Noted) (visited : Visited s at answer after) where
    pub visited-ends : is_err answer ≡ true → Scanned s after at (verdict_of answer)
    visited-ends h =
        let faulty : (plain_verdict s at).number ≡ 0 → ⊥ = λ e. refused-number answer h (ap (λ (v : Verdict). v.number) visited.verdict-is ∙ e) in
        rw (visited.verdict-is, visited.faulty-left faulty, ← state.noted-is) (scanning-faulty within faulty)

    pub visited-next : is_err answer ≡ false → Scanning s after (next_record s at)
    visited-next h =
        let sound = sym (ap (λ (v : Verdict). v.number) visited.verdict-is) ∙ accepted-number answer h in
        rw (visited.sound-noted sound, ← state.noted-is) (scanning-next within sound)

module _ (s : List ℕ) (at : ℕ) where
  module _ {A : Type 0} (answer : Result A Refusal) (noted : Noted) (verdict : verdict_of answer ≡ plain_verdict s at) (before : noted ≡ noted_before s at) where
    -- a record without a fault is noted, and one with a fault is not
    pub visited-sound : (after : Noted) → (plain_verdict s at).number ≡ 0 → after ≡ note_item s noted (record_item s at) at → Visited s at answer after
    visited-sound after h e = record { verdict-is = verdict; sound-noted = λ z. rw (e, before); faulty-left = λ f. absurd (f h) }

    pub visited-faulty : ((plain_verdict s at).number ≡ 0 → ⊥) → Visited s at answer noted
    visited-faulty h = record { verdict-is = verdict; sound-noted = λ z. absurd (h z); faulty-left = λ f. before }

  -- a record that is told to be sound is noted
  pub visited-named : (noted after : Noted) → sound_named s at ≡ true → noted ≡ noted_before s at → after ≡ note_item s noted (record_item s at) at
      → Visited {A = Unit {0}} s at (Ok tt) after
  unfolding accepted
  visited-named noted after h before e =
      let sound = passes s at (sound-told s at h).fault-free in
      visited-sound (Ok tt) noted (sym sound) before after (ap (λ (v : Verdict). v.number) sound) e

-- no refusal of the records: none of them is faulty
module _ (s : List ℕ) (verdict : ℕ → Verdict) where
  -- the first faulty record has a fault
  faulty-number : ltb (first_refused s verdict) (length s) ≡ true → (verdict (first_refused s verdict)).number ≡ 0 → ⊥
  unfolding first_refused
  faulty-number e =
      let at = first_refused s verdict in
      let found = first_passes s (λ (i : ℕ). not (eqb (verdict i).number 0)) (length s) (ltb-true at (length s) e) in
      eqb-false (verdict at).number 0 (not-true (eqb (verdict at).number 0) found)

  none-faulty : (b : Bool) → ltb (first_refused s verdict) (length s) ≡ b → (cond b (verdict (first_refused s verdict)) accepted).number ≡ 0
      → length s ≤ first_refused s verdict
  none-faulty true e h = absurd (faulty-number e h)
  none-faulty false e h = ltb-false (first_refused s verdict) (length s) e

  -- the search for a faulty record ends at the end
  pub verdict-passed : (verdict_by s verdict).number ≡ 0 → first_refused s verdict ≡ length s
  unfolding verdict_by first_refused
  verdict-passed h = le_antisymm (first-le s _ (length s)) (none-faulty (ltb (first_refused s verdict) (length s)) refl h)

-- the records of a filing have no fault
pub records-passed : (s : List ℕ) → (records_verdict s).number ≡ 0 → first_faulty s ≡ length s
records-passed s = verdict-passed s (record_verdict s)
