-- `book_calls::book_changes::change_all` meets its contract. The loop's invariant: none of the changes made is refused, and those still to be made give the book of all.
-- Assumes nothing.
use Rattle.book_calls.proofs.ChangingLaws.{Changing}
use Rattle.book_calls.proofs.book_changes.change_all.Given as goal

abbrev pub invariant-loop-k : goal.invariant-loop-k
invariant-loop-k l = Changing l.initial.book l.changes l.k l.book
