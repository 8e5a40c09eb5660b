-- `book_calls::book_changes::change_all` meets its contract. The loop's invariant: none of the changes made is refused, and those still to be made give the book of all.
-- Assumes nothing.
use native.Mathlib.Omega.{arith}
use Rattle.book_calls.proofs.ChangingLaws.{changing-start, changing-all, changing-refused, changing-next}
use Rattle.book_calls.proofs.book_changes.change_all.Goals as goal

pub loop-k-init : goal.loop-k-init
loop-k-init c = changing-start _ _

pub returns-in-Err : goal.returns-in-Err
returns-in-Err c = changing-refused _ _ _ _ c.loop-k.invariant c.loop-k-test.true _ c.in-Err.ensures

pub loop-k-preserved : goal.loop-k-preserved
loop-k-preserved c = changing-next _ _ _ _ c.loop-k.invariant c.loop-k-test.true _ c.in_default.ensures

pub returns : goal.returns
returns c = changing-all _ _ _ _ c.loop-k.invariant (omega arith)
