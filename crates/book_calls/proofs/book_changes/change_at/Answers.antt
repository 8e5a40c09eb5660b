-- `book_calls::book_changes::change_at` meets its contract: the six numbers of change k are read. Assumes nothing.
use Rattle.book_calls.specs.Changing.{change_at}
use Rattle.book_calls.proofs.book_changes.change_at.Goals as goal

pub returns : goal.returns
unfolding change_at
returns c = c.change.ensures
