-- The verdict on the records of a filing (01:31-35, 01:41; 02:CR 1, CR 3, CR 6): each by 1 to 4, 12, 16, 5 and 11, front to back. Definitions only.
use Rattle.std.specs.Prelude.{ℕ, cond, not, List, [], ◌∷◌, length, ltb, eqb}
use Rattle.answers.specs.Verdict.{Verdict, accepted, refused_if, first_refusal, first_of}
use Rattle.record_fields.specs.Records.{first_record}
use Rattle.record_limits.specs.Bodies.{over_limit}
use Rattle.record_limits.specs.TierFaults.{unsound_tiers}
use Rattle.record_shape.specs.Faults.{incomplete, misshapen, unlisted, repeated, path_beside_flat, amendment_repeated}

-- the verdict on one record, at its offset: before 16, by it, and after it
unfoldable pub shape_verdict : List ℕ → ℕ → Verdict
shape_verdict s at =
    first_of
    (refused_if (incomplete s at) 1 at
    ∷ refused_if (misshapen s at) 2 at
    ∷ refused_if (unlisted s at) 3 at
    ∷ refused_if (repeated s at) 4 at
    ∷ refused_if (path_beside_flat s at) 12 at
    ∷ [])

unfoldable pub body_verdict : List ℕ → ℕ → Verdict
body_verdict s at =
    first_of
    (refused_if (over_limit s at) 5 at
    ∷ refused_if (unsound_tiers s at) 11 at
    ∷ [])

unfoldable pub record_verdict : List ℕ → ℕ → Verdict
record_verdict s at = first_refusal (shape_verdict s at) (first_refusal (refused_if (amendment_repeated s at) 16 at) (body_verdict s at))

-- the offset of the first record that has a verdict, or the input's length, and that verdict
unfoldable pub first_refused : List ℕ → (ℕ → Verdict) → ℕ
first_refused s verdict = first_record s (λ (at : ℕ). not (eqb (verdict at).number 0)) (length s)

unfoldable pub verdict_by : List ℕ → (ℕ → Verdict) → Verdict
verdict_by s verdict = cond (ltb (first_refused s verdict) (length s)) (verdict (first_refused s verdict)) accepted

-- the offset of the first faulty record, or the input's length
abbrev pub first_faulty : List ℕ → ℕ
first_faulty s = first_refused s (record_verdict s)

-- the verdict on the records, front to back
abbrev pub records_verdict : List ℕ → Verdict
records_verdict s = verdict_by s (record_verdict s)
