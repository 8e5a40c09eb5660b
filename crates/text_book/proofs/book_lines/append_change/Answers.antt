-- `append_change` meets its contract: `ok`, or the refusal. Assumes nothing.
use mathlib.Core.Path.{refl, sym}
use Rattle.answers.specs.Answers.{verdict_of}
use Rattle.text.proofs.AnswerLaws.{printed-refused, printed-accepted}
use Rattle.text_book.specs.BookLines.{ok_line, answer_line}
use Rattle.text_book.proofs.book_lines.append_change.Goals as goal

pub returns-in-Ok : goal.returns-in-Ok
unfolding ok_line answer_line
returns-in-Ok g c = rw (sym (printed-accepted (verdict_of c.args.answer) ok_line (rw c.in-Ok.is refl))) c.append.ensures

pub returns-in-Err : goal.returns-in-Err
unfolding answer_line
returns-in-Err g c = rw (sym (printed-refused c.in-Err.refusal (verdict_of c.args.answer) ok_line (rw c.in-Err.is refl))) c.append_refused.ensures.line
