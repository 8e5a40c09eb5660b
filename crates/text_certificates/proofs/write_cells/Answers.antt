-- `write_cells` meets its contract: an input that is too long, one with an unreadable line, and the answer on the certificates. Assumes nothing.
use native.Mathlib.Omega.{arith}
use mathlib.Core.Path.{sym, ◌∙◌}
use Rattle.text_certificates.proofs.ReadLaws.{text_valued, text_unreadable}
use Rattle.text_certificates.proofs.PrintingLaws.{text-too-long, text-unreadable, text-readable}
use Rattle.text_certificates.proofs.write_cells.Goals as goal

pub returns-then-input-gt-INPUT_LIMIT : goal.returns-then-input-gt-INPUT_LIMIT
returns-then-input-gt-INPUT_LIMIT c =
    record { printed = c.append_too_long.ensures ∙ rw c.new-text.ensures (text-too-long c.args.input.now (omega arith)) }

pub returns-in-Ok : goal.returns-in-Ok
returns-in-Ok c =
    let s = c.args.input.now in
    let told = text_valued s _ _ (rw c.new-certificates.ensures at c.read_text.ensures) c.in-Ok.valuation c.in-Ok.is in
    record {
      printed = c.answer_text.ensures ∙ rw c.as_slice.ensures.value (text-readable s c.in-Ok.valuation _ c.if-input-gt-INPUT_LIMIT.false told.0 told.1.0 told.1.1);
    }

pub returns-in-Err : goal.returns-in-Err
returns-in-Err c =
    let s = c.args.input.now in
    let told = text_unreadable s _ _ (rw c.new-certificates.ensures at c.read_text.ensures) c.in-Err.unreadable c.in-Err.is in
    record {
      printed = c.append_unreadable.ensures
          ∙ rw c.new-text.ensures (text-unreadable s c.in-Err.unreadable.line c.if-input-gt-INPUT_LIMIT.false told.1 (λ z. told.0 (sym told.1 ∙ z)));
    }
