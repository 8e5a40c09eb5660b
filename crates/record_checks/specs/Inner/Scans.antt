-- The scan over the records, one record at a time (01:11, 01:41): what a record makes of what is noted. Definitions only.
use Rattle.std.specs.Prelude.{ℕ, ◌≡◌, Result, Ok, Err, List, length}
use Rattle.answers.specs.declared.Refusal.{Refusal}
use Rattle.answers.specs.Answers.{location_of, verdict_of}
use Rattle.record_kinds.specs.Items.{record_item}
use Rattle.record_offsets.specs.Inner.Notes.{Noted, noted_before, note_item}
use Rattle.record_verdicts.specs.Inner.PlainVerdicts.{plain_verdict}

-- What the record at offset `at` is answered, and what is noted after it: a sound record is noted, and a faulty one is not
pub record Visited {A : Type 0} (s : List ℕ) (at : ℕ) (answer : Result A Refusal) (after : Noted) : Type 0 where
  pub verdict-is : verdict_of answer ≡ plain_verdict s at
  pub sound-noted : (plain_verdict s at).number ≡ 0 → after ≡ note_item s (noted_before s at) (record_item s at) at
  pub faulty-left : ((plain_verdict s at).number ≡ 0 → ⊥) → after ≡ noted_before s at

-- where the records of a filing end by an answer on them: at the refused record, or at the input's length
abbrev pub end_of : {A : Type 0} → List ℕ → Result A Refusal → ℕ
end_of s (Ok x) = length s
end_of s (Err r) = location_of r
