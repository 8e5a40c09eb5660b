-- `next_line` meets its contract where a step ends the line. Assumes nothing.
use Rattle.text_input.proofs.LineLaws.{line_ended}
use Rattle.text_input.proofs.next_line.Goals as goal

pub returns-in-Ended : goal.returns-in-Ended
returns-in-Ended g c = line_ended _ _ _ _ _ _ c.loop.invariant _ _ _ c.next_byte-next.ensures c.in-Ended.ensures
