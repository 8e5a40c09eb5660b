-- The verdict on a filing: which part of it answers, and what reading leaves besides it.
-- Assumes nothing.
use Prim.Native.Nat.{ℕ}
use mathlib.Core.Path.{◌≡◌, sym, ap, ◌∙◌}
use mathlib.Core.List.{List}
use borrow.Author.Tests.{eq-eqb, ne_eqb}
use lib.ListN.{replicate}
use Rattle.form.specs.Cells.{cell_count}
use Rattle.form.specs.Limits.{sheet_number_count}
use Rattle.answers.specs.declared.Refusal.{Refusal}
use Rattle.answers.specs.Verdict.{Verdict, refused, first_refusal}
use Rattle.answers.specs.Answers.{number_of, location_of}
use Rattle.answers.proofs.AnswerLaws.{refusal-refuses}
use Rattle.answers.proofs.VerdictLaws.{first-passed, first-refused}
use Rattle.record_verdicts.specs.RecordVerdicts.{records_verdict}
use Rattle.filing_contents.specs.Contents.{Contents}
use Rattle.filing_decode.specs.Contents.{contents_of}
use Rattle.filing.specs.RequiredSheets.{sheet_verdict, libor_verdict}
use Rattle.filing.specs.Verdict.{contents_verdict, filing_verdict}
use Rattle.filing.specs.EmptyContents.{empty_contents}
use Rattle.filing.proofs.EmptyLaws.{zeros-said}
use Rattle.filing.specs.Readings.{read_over, lent, read_contents}

module _ (s : List ℕ) where
  -- a faulty record: its verdict is the filing's
  pub records-refuse : ((records_verdict s).number ≡ 0 → ⊥) → records_verdict s ≡ filing_verdict s
  unfolding filing_verdict
  records-refuse h = sym (first-refused (records_verdict s) _ h)

  module _ (passed : (records_verdict s).number ≡ 0) where
    filing-then : filing_verdict s ≡ first_refusal (sheet_verdict s) (first_refusal (libor_verdict s) (contents_verdict (contents_of s)))
    unfolding filing_verdict
    filing-then = first-passed (records_verdict s) _ passed

    -- then a missing sheet
    pub sheets-refuse : ((sheet_verdict s).number ≡ 0 → ⊥) → sheet_verdict s ≡ filing_verdict s
    sheets-refuse h = sym (filing-then ∙ first-refused (sheet_verdict s) _ h)

    -- then 18, and the verdict on the contents
    pub contents-decide : (sheet_verdict s).number ≡ 0 → first_refusal (libor_verdict s) (contents_verdict (contents_of s)) ≡ filing_verdict s
    contents-decide h = sym (filing-then ∙ first-passed (sheet_verdict s) _ h)

  -- an accepted filing leaves what it says, whatever stood there, and a refused one what stood there
  pub accepted-over : (before : Contents) → (filing_verdict s).number ≡ 0 → contents_of s ≡ read_over s before
  unfolding read_over
  accepted-over before h = sym (simp (eq-eqb (filing_verdict s).number 0 h))

  refused_over : (before : Contents) → ((filing_verdict s).number ≡ 0 → ⊥) → before ≡ read_over s before
  unfolding read_over
  refused_over before h = sym (simp (ne_eqb (filing_verdict s).number 0 h))

  pub accepted-contents : (filing_verdict s).number ≡ 0 → contents_of s ≡ read_contents s
  unfolding read_contents
  accepted-contents h = accepted-over empty_contents h

  refused-contents : ((filing_verdict s).number ≡ 0 → ⊥) → empty_contents ≡ read_contents s
  unfolding read_contents
  refused-contents h = refused_over empty_contents h

  -- read into zeros
  pub over_zeros : read_over s (lent (replicate cell_count 0) (replicate sheet_number_count 0)) ≡ read_contents s
  unfolding read_contents
  over_zeros = ap (read_over s) zeros-said

  -- a refusal with the filing's verdict leaves what is lent
  pub refused-reading : (r : Refusal) (before : Contents) → refused (number_of r) (location_of r) ≡ filing_verdict s → before ≡ read_over s before
  refused-reading r before v = refused_over before (λ z. refusal-refuses r (ap (λ (u : Verdict). u.number) v ∙ z))
