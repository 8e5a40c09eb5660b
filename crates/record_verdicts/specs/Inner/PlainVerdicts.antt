-- The verdict on a record by all tests but 16, which one pass over the records settles beside them. Definitions only.
use Rattle.std.specs.Prelude.{ℕ, List}
use Rattle.answers.specs.Verdict.{Verdict, first_refusal}
use Rattle.record_verdicts.specs.RecordVerdicts.{shape_verdict, body_verdict, first_refused, verdict_by}

unfoldable pub plain_verdict : List ℕ → ℕ → Verdict
plain_verdict s at = first_refusal (shape_verdict s at) (body_verdict s at)

-- the first record that is faulty by them, and the verdict on it
abbrev pub first_plain : List ℕ → ℕ
first_plain s = first_refused s (plain_verdict s)

abbrev pub plains_verdict : List ℕ → Verdict
plains_verdict s = verdict_by s (plain_verdict s)
