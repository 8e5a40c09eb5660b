-- The verdict on the records by all tests, from the first record that is faulty but for 16 and the first repeated amendment before it.
-- Assumes nothing.
use Prim.Native.Nat.{ℕ, ◌≤◌, ◌<◌}
use native.Mathlib.Nat.{le_antisymm}
use native.Mathlib.Omega.{arith}
use mathlib.Core.Path.{◌≡◌, refl, sym, ap, ◌∙◌}
use mathlib.Core.Bool.{Bool, true, false, cond, not, or-true, or-false, ◌||◌}
use mathlib.Core.List.{List}
use borrow.Author.Tests.{eqb-true, eqb-false, not-false, lt-ltb, le-ltb}
use lib.Dec.{eqb}
use lib.ListN.{length}
use Rattle.record_offsets.specs.Inner.Notes.{block_count}
use Rattle.record_fields.proofs.RecordLaws.{first-le, first_passes}
use Rattle.std.specs.Prelude.{Result, Ok, Err}
use Rattle.answers.specs.declared.Refusal.{Refusal}
use Rattle.answers.specs.Answers.{verdict_of}
use Rattle.record_verdicts.proofs.FaultLaws.{record-located}
use Rattle.record_checks.specs.Inner.Scans.{end_of}
use Rattle.answers.specs.Verdict.{Verdict, accepted, refused, refused_if, first_refusal}
use Rattle.answers.proofs.VerdictLaws.{number-of, first-passed, first-refused, first-none, condition-holds, condition-refuses, condition-none}
use Rattle.record_shape.specs.Faults.{amendment_repeated}
use Rattle.record_verdicts.specs.RecordVerdicts.{shape_verdict, body_verdict, record_verdict, first_refused, verdict_by, first_faulty, records_verdict}
use Rattle.record_verdicts.specs.Inner.PlainVerdicts.{plain_verdict, first_plain}
use Rattle.record_checks.proofs.ProgressLaws.{records-passed}
use Rattle.record_fields.proofs.FirstLaws.{first-earlier, first-reached, first-same, first-or}
use Rattle.record_checks.specs.Inner.Repetitions.{repetitions_below}
use Rattle.record_checks.proofs.RepetitionLaws.{repetitions-first, repetitions-le}

-- a refusal between two others: one of the three
module _ (before after : Verdict) (at : ℕ) where
  abbrev all : Bool → Verdict
  all b = first_refusal before (first_refusal (refused_if b 16 at) after)

  -- nothing before it: it decides, or what comes after it
  between : (b : Bool) → before.number ≡ 0 → all b ≡ cond b (refused 16 at) after
  between true h = first-passed before _ h ∙ first-refused (refused_if true 16 at) _ (condition-refuses true 15 at refl) ∙ sym (condition-holds true 16 at refl)
  between false h = first-passed before _ h ∙ first-passed (refused_if false 16 at) _ (condition-none false 16 at refl)

  -- there is a refusal just where there is one without it, or it holds: a refusal before it answers in both; without one it answers where it
  -- holds, and otherwise what is behind it answers in both
  fault-or : (b : Bool) → not (eqb (all b).number 0) ≡ (not (eqb (first_refusal before after).number 0) || b)
  unfolding refused
  fault-or b = by (eqb before.number 0) refl b
    where
      by : (z : Bool) → eqb before.number 0 ≡ z → (b : Bool) → not (eqb (all b).number 0) ≡ (not (eqb (first_refusal before after).number 0) || b)
      by true e true = rw (between true (eqb-true before.number 0 e)) (sym (or-true (not (eqb (first_refusal before after).number 0))))
      by true e false =
          let zero = eqb-true before.number 0 e in
          rw (between false zero, first-passed before after zero) (sym (or-false (not (eqb after.number 0))))
      by false e b =
          let some = eqb-false before.number 0 e in
          rw (first-refused before (first_refusal (refused_if b 16 at) after) some, first-refused before after some, e)

module _ (s : List ℕ) where
  -- the first faulty record is the first repeated amendment before the first that is faulty otherwise, or that one
  pub faulty-first : first_faulty s ≡ repetitions_below s block_count (first_plain s)
  unfolding first_refused record_verdict plain_verdict
  faulty-first =
      first-same s _ _ (length s) (λ at. fault-or (shape_verdict s at) (body_verdict s at) at (amendment_repeated s at))
      ∙ first-or s (λ (at : ℕ). not (eqb (plain_verdict s at).number 0)) (amendment_repeated s) (length s)
      ∙ sym (repetitions-first s (first_plain s))

  -- the first record that is faulty but for 16, and the first faulty one
  abbrev pub found : ℕ
  found = repetitions_below s block_count (first_plain s)

  pub plain-le : first_plain s ≤ length s
  unfolding first_refused
  plain-le = first-le s _ (length s)

  -- a repeated amendment before the first record that is faulty otherwise
  module _ (l : found < first_plain s) where
    repeated-there : amendment_repeated s found ≡ true
    repeated-there =
        let e = repetitions-first s (first_plain s) in
        ap (amendment_repeated s) e ∙ first_passes s (amendment_repeated s) (first_plain s) (rw e at l)

    plain-there : (plain_verdict s found).number ≡ 0
    unfolding first_refused
    plain-there =
        let e = repetitions-first s (first_plain s) in
        let reached = rw (← e) at (first-reached s (amendment_repeated s) (first_plain s) (rw e at l)) in
        eqb-true (plain_verdict s found).number 0
        (not-false (eqb (plain_verdict s found).number 0) (first-earlier s (λ (at : ℕ). not (eqb (plain_verdict s at).number 0)) (length s) found reached l))

    shape-there : (shape_verdict s found).number ≡ 0
    unfolding plain_verdict
    shape-there = (first-none (shape_verdict s found) (body_verdict s found) plain-there).0

    -- 16 at it
    pub again-verdict : records_verdict s ≡ refused 16 found
    unfolding verdict_by record_verdict
    again-verdict =
        rw (faulty-first, lt-ltb found (length s) (omega (arith, plain-le)), repeated-there)
        (between (shape_verdict s found) (body_verdict s found) found true shape-there)

  -- none before it
  pub here-first : first_plain s ≤ found → first_faulty s ≡ first_plain s
  here-first h = faulty-first ∙ le_antisymm (repetitions-le s block_count (first_plain s)) h

  -- no record is faulty
  pub none-verdict : first_plain s ≤ found → length s ≤ first_plain s → records_verdict s ≡ accepted
  unfolding verdict_by
  none-verdict h l = rw (faulty-first, le-ltb found (length s) (omega arith))

  -- a record that is faulty otherwise, and no repeated amendment before it: its own verdict
  pub here-verdict : first_plain s ≤ found → first_plain s < length s → records_verdict s ≡ record_verdict s (first_plain s)
  unfolding verdict_by
  here-verdict h l = rw (here-first h, lt-ltb (first_plain s) (length s) l)

  there-faulty : first_plain s ≤ found → first_plain s < length s → (record_verdict s (first_plain s)).number ≡ 0 → ⊥
  there-faulty h l z =
      let passed = records-passed s (ap number-of (here-verdict h l) ∙ z) in
      absurd (omega (arith, here-first h, passed))

  -- that record is refused, at its offset: the records end there
  pub refused-end : {A : Type 0} → first_plain s ≤ found → first_plain s < length s → (r : Result A Refusal) → verdict_of r ≡ record_verdict s (first_plain s)
      → end_of s r ≡ first_faulty s
  unfolding accepted refused
  refused-end h l (Ok x) e = absurd (there-faulty h l (ap number-of (sym e)))
  refused-end h l (Err r) e = ap (λ (v : Verdict). v.location) e ∙ record-located s (first_plain s) (there-faulty h l) ∙ sym (here-first h)

  -- no record is faulty: none is faulty but for 16 either
  pub plain-passed : (records_verdict s).number ≡ 0 → first_plain s ≡ length s
  plain-passed h =
      le_antisymm plain-le (omega (arith, records-passed s h, faulty-first, repetitions-le s block_count (first_plain s)))
