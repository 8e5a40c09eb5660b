-- `write_answer` meets its contract: the line of the refusal, or of the reply. Assumes nothing.
use mathlib.Core.Path.{◌∙◌}
use Rattle.text_quote.specs.Printed.{answer_text}
use Rattle.text_quote.proofs.PrintedLaws.{line-refused, line-replied}
use Rattle.text_quote.proofs.write_answer.Goals as goal

pub returns-in-Ok : goal.returns-in-Ok
unfolding answer_text
returns-in-Ok c = record { printed = c.append_reply.ensures ∙ rw c.new-text.ensures (line-replied _ _ _ c.in-Ok.reply c.in-Ok.ensures) }

pub returns-in-Err : goal.returns-in-Err
unfolding answer_text
returns-in-Err c = record { printed = c.append_refused.ensures.line ∙ rw c.new-text.ensures (line-refused _ _ _ c.in-Err.refusal c.in-Err.ensures) }
