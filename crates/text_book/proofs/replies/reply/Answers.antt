-- `reply` meets its contract. Assumes nothing.
use mathlib.Core.Path.{refl}
use Rattle.text_book.specs.Replies.{totals_text}
use Rattle.text_book.proofs.ObeyLaws.{set-changes, clear-changes, place-leaves, totals-leaves, unreadable-leaves, obeyed-change, obeyed-same}
use Rattle.text_book.proofs.replies.reply.Goals as goal

pub returns-in_default : goal.returns-in_default
returns-in_default c =
    obeyed-same c.args.book.now c.args.command _ _ _ (unreadable-leaves _ _ c.in_default.is) (rw c.new-text.ensures at c.append_unreadable.ensures) refl

pub returns-in-Set : goal.returns-in-Set
returns-in-Set c =
    obeyed-change c.args.book.now c.args.command _ _ _ c.set-changed.result (set-changes _ _ _ c.in-Some.is _ _ _ _ _ c.in-Set.is)
    c.set-changed.ensures.changed (rw c.new-text.ensures at c.append_change.ensures)

pub returns-in-Clear : goal.returns-in-Clear
returns-in-Clear c =
    obeyed-change c.args.book.now c.args.command _ _ _ c.clear.result (clear-changes _ _ _ c.in-Some.is _ c.in-Clear.is)
    c.clear.ensures.changed (rw c.new-text.ensures at c.append_change-in-Clear.ensures)

pub returns-in-Place : goal.returns-in-Place
returns-in-Place c =
    obeyed-same c.args.book.now c.args.command _ _ _ (place-leaves _ _ _ c.in-Some.is _ c.in-Place.is) (rw c.new-text.ensures at c.append_place.ensures) refl

pub returns-in-Totals : goal.returns-in-Totals
unfolding totals_text
returns-in-Totals c =
    obeyed-same c.args.book.now c.args.command _ _ _ (totals-leaves _ _ _ c.in-Some.is c.in-Totals.is) (rw c.new-text.ensures at c.append_totals.ensures) refl
