-- `answer_text` meets its contract: the line of the refusal, or the lines of the cells. Assumes nothing.
use native.Mathlib.Omega.{arith}
use mathlib.Core.Path.{ap, ◌∙◌}
use lib.ListN.{length}
use Rattle.std.proofs.Common.{rules}
use Rattle.text_certificates.proofs.PrintingLaws.{answer-refused, answer-accepted}
use Rattle.text_certificates.proofs.answer_text.Goals as goal

pub append_cells-requires : goal.append_cells-requires
append_cells-requires c = (search rules, omega (arith, ap length c.new-text.ensures, c.as_slice.ensures.fits))

pub returns-in-Ok : goal.returns-in-Ok
returns-in-Ok c =
    c.append_cells.ensures ∙ rw (c.new-text.ensures, c.as_slice.ensures.value) (answer-accepted _ _ c.in-Ok.cells c.in-Ok.ensures.converted)

pub returns-in-Err : goal.returns-in-Err
returns-in-Err c = c.append_refused.ensures.line ∙ rw c.new-text.ensures (answer-refused _ _ c.in-Err.refusal c.in-Err.ensures.converted)
