-- `next_of` meets its contract: a record stands at the offset, so a reader there says the next one's. Assumes nothing.
use mathlib.Core.Path.{◌∙◌}
use borrow.Author.Tests.{lt-leb}
use Rattle.record_reader.specs.Inner.Steps.{step_at}
use Rattle.record_reader.proofs.next_of.Goals as goal

pub returns : goal.returns
unfolding step_at
returns c = c.unwrap_or.ensures ∙ rw c.step_at.ensures (simp (lt-leb _ _ c.requires))
