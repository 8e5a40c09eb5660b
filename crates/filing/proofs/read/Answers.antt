-- `read` meets its contract: at each return the tests that led there say which part of the verdict's chain answers.
-- Assumes nothing.
use Prim.Native.Nat.{ℕ}
use mathlib.Core.Path.{◌≡◌, sym, ap, ◌∙◌}
use mathlib.Core.List.{List}
use lib.ListN.{length}
use Rattle.std.proofs.lemmas.Result.{err_from_is_err_and}
use Rattle.answers.specs.Verdict.{Verdict, accepted}
use Rattle.answers.proofs.AnswerLaws.{refusal-first}
use Rattle.answers.proofs.VerdictLaws.{accepted-first}
use Rattle.record_offsets.specs.Inner.Notes.{Noted, noted_before}
use Rattle.record_verdicts.specs.RecordVerdicts.{records_verdict}
use Rattle.record_checks.proofs.VerdictLaws.{plain-passed}
use Rattle.record_verdicts.specs.Inner.PlainVerdicts.{first_plain}
use Rattle.filing.specs.Verdict.{filing_verdict}
use Rattle.filing.proofs.ReadLaws.{refused-reading}
use Rattle.filing.proofs.read.Goals as goal

pub returns-in_err-check_records : goal.returns-in_err-check_records
unfolding filing_verdict
returns-in_err-check_records c =
    let p = err_from_is_err_and c.from_residual.result c.from_residual.ensures.1 in
    let answered = refusal-first _ _ c.in_err-check_records.ensures.verdict in
    record {
      answered = rw (p.1, p.2) answered;
      said = rw p.1 (refused-reading _ _ _ answered);
      summed = rw p.1 tt;
    }

pub check_sheets-requires : goal.check_sheets-requires
unfolding accepted
check_sheets-requires c =
    let bytes : List ℕ = c.args.filing.now in
    let none : (records_verdict bytes).number ≡ 0 = ap (λ (v : Verdict). v.number) (sym c.in_ok-check_records.ensures.verdict) in
    let all_noted : noted_before bytes (first_plain bytes) ≡ noted_before bytes (length bytes) = ap (noted_before bytes) (plain-passed _ none) in
    ap (λ (n : Noted). n.sheets) (c.in_ok-check_records.ensures.noted ∙ all_noted)

pub returns-in_err-check_sheets : goal.returns-in_err-check_sheets
unfolding filing_verdict
returns-in_err-check_sheets c =
    let p = err_from_is_err_and c.from_residual-in_err-check_sheets.result c.from_residual-in_err-check_sheets.ensures.1 in
    let answered = accepted-first _ c.in_ok-check_records.ensures.verdict (refusal-first _ _ c.in_err-check_sheets.ensures) in
    record {
      answered = rw (p.1, p.2) answered;
      said = rw p.1 (refused-reading _ _ _ answered);
      summed = rw p.1 tt;
    }

pub read_contents-requires : goal.read_contents-requires
unfolding accepted
read_contents-requires c =
    let bytes : List ℕ = c.args.filing.now in
    let none : (records_verdict bytes).number ≡ 0 = ap (λ (v : Verdict). v.number) (sym c.in_ok-check_records.ensures.verdict) in
    let all_noted : noted_before bytes (first_plain bytes) ≡ noted_before bytes (length bytes) = ap (noted_before bytes) (plain-passed _ none) in
    let noted = c.in_ok-check_records.ensures.noted ∙ all_noted in
    record {
      filing_value = (none, ap (λ (v : Verdict). v.number) (sym c.in_ok-check_sheets.ensures));
      sheets_value = (ap (λ (n : Noted). n.sheets) noted, ap (λ (n : Noted). n.counting) noted);
    }
