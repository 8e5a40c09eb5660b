-- `clear` meets its contract. Assumes nothing.
use mathlib.Core.Path.{refl}
use borrow.Author.Tests.{lt-ltb, le-ltb}
use Rattle.book_promise.specs.Changes.{clear_place, changed_place, fits_change, held_after}
use Rattle.book_promise.proofs.ChangeLaws.{change-refused, change-taken}
use Rattle.book_calls.proofs.clear.Goals as goal

pub returns-then-place-ge-SUB_BALANCES : goal.returns-then-place-ge-SUB_BALANCES
unfolding fits_change changed_place held_after
returns-then-place-ge-SUB_BALANCES c =
    record { changed = change-refused c.args.book.now (clear_place c.args.place) (le-ltb _ _ c.if-place-ge-SUB_BALANCES.true) _ refl }

pub returns : goal.returns
unfolding fits_change changed_place held_after
returns c =
    record { changed = change-taken c.args.book.now (clear_place c.args.place) (lt-ltb _ _ c.if-place-ge-SUB_BALANCES.false) _ c.put_place.ensures }
