-- `visit` meets its contract: each of its ways is a law of the visited record.
-- Assumes nothing.
use native.Mathlib.Nat.{le_of_lt}
use mathlib.Core.Path.{sym, ap, ◌∙◌}
use Rattle.record_offsets.specs.Inner.Notes.{Noted}
use Rattle.std.specs.Prelude.{Err}
use Rattle.std.proofs.lemmas.Result.{err_from_is_err_and}
use Rattle.answers.specs.Verdict.{Verdict, accepted}
use Rattle.answers.proofs.AnswerLaws.{refusal-refuses}
use Rattle.record_verdicts.proofs.NamedLaws.{sound-told, told-listed, told-within}
use Rattle.record_checks.proofs.ProgressLaws.{visited-named, visited-sound, visited-faulty}
use Rattle.record_checks.proofs.scan.visit.Goals as goal

pub sound_record-requires : goal.sound_record-requires
sound_record-requires c = ap (λ (n : Noted). n.cells) c.requires.1

pub note_named-requires : goal.note_named-requires
note_named-requires c =
    let t = sound-told _ _ (sym c.sound_record.ensures ∙ c.if-sound_record.true) in
    (told-within _ _ t, t.named, told-listed _ _ t)

pub returns-then-sound_record : goal.returns-then-sound_record
returns-then-sound_record c =
    visited-named _ _ _ _ (sym c.sound_record.ensures ∙ c.if-sound_record.true) c.requires.1 (c.note_named.ensures c.args.sheets.now)

pub check_record-requires : goal.check_record-requires
check_record-requires c =
    let pre = c.requires in
    (le_of_lt pre.0, ap (λ (n : Noted). n.sheets) pre.1, ap (λ (n : Noted). n.cells) pre.1)

-- a fault is answered, and nothing is noted
pub returns-in_err-check_record : goal.returns-in_err-check_record
returns-in_err-check_record c =
    let p = err_from_is_err_and c.from_residual.result c.from_residual.ensures.1 in
    rw (p.1, p.2)
    (visited-faulty _ _ (Err c.in_err-check_record.field-0.0) _ c.in_err-check_record.ensures c.requires.1
    (λ e. refusal-refuses c.in_err-check_record.field-0.0 (ap (λ (v : Verdict). v.number) c.in_err-check_record.ensures ∙ e)))

pub returns : goal.returns
unfolding accepted
returns c =
    visited-sound _ _ _ _ c.in_ok-check_record.ensures c.requires.1 _ (ap (λ (v : Verdict). v.number) (sym c.in_ok-check_record.ensures)) c.note.ensures
