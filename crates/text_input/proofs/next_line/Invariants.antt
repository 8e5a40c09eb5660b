-- `next_line` holds the line of the bytes read before each byte. Assumes nothing.
use Rattle.text_input.proofs.LineLaws.{Unended}
use Rattle.text_input.proofs.next_line.Given as goal

abbrev pub invariant-loop : goal.invariant-loop
invariant-loop g l = Unended (g.R.Read.remaining l.initial.input) (g.R.Read.remaining l.input) l.initial.line l.kept l.line
