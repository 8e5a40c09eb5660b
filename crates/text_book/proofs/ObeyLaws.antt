-- What a command does, case by case: its reply, and the book after it. Assumes nothing.
use Prim.Native.Nat.{ℕ}
use mathlib.Core.Path.{◌≡◌, refl, sym, ◌∙◌}
use mathlib.Core.List.{List}
use Rattle.std.specs.Prelude.{Option, None, Some, Result}
use Rattle.answers.specs.declared.Refusal.{Refusal}
use Rattle.answers.specs.Answers.{verdict_of}
use Rattle.book_state.specs.declared.Book.{Book}
use Rattle.book_promise.specs.Changes.{Change, set_place, clear_place, change_verdict, book_after}
use Rattle.book_promise.specs.Promise.{ChangedOf}
use Rattle.text_book.specs.declared.book_commands.Command.{Command}
use Rattle.text_book.specs.declared.book_commands.Command.TheVariants.{Set, Clear, Place, Totals}
use Rattle.text.specs.Lines.{unreadable_line}
use Rattle.text_book.specs.BookLines.{ok_line, answer_line}
use Rattle.text_book.specs.Replies.{place_text, totals_text, reply_to, book_after_command, ObeyedAs}

-- the reply and the book after, of a command that changes the book by `change`, and of one that leaves it
abbrev pub Changes : Book → Option Command → Change → Type 0
Changes b c change = (reply_to b c ≡ answer_line ok_line (change_verdict change)) × (book_after_command b c ≡ book_after b change)

abbrev pub Leaves : Book → Option Command → List ℕ → Type 0
Leaves b c text = (reply_to b c ≡ text) × (book_after_command b c ≡ b)

module _ (b : Book) (c : Option Command) where
  module _ (x : Command) (some : c ≡ Some x) where
    pub set-changes : (place balance coupon months penalty : ℕ) → x ≡ Set place balance coupon months penalty
        → Changes b c (set_place place balance coupon months penalty)
    unfolding reply_to book_after_command
    set-changes place balance coupon months penalty e = rw (some, e) (refl, refl)

    pub clear-changes : (place : ℕ) → x ≡ Clear place → Changes b c (clear_place place)
    unfolding reply_to book_after_command
    clear-changes place e = rw (some, e) (refl, refl)

    pub place-leaves : (place : ℕ) → x ≡ Place place → Leaves b c (place_text b place)
    unfolding reply_to book_after_command
    place-leaves place e = rw (some, e) (refl, refl)

    pub totals-leaves : x ≡ Totals → Leaves b c (totals_text b)
    unfolding reply_to book_after_command
    totals-leaves e = rw (some, e) (refl, refl)

  pub unreadable-leaves : c ≡ None → Leaves b c unreadable_line
  unfolding reply_to book_after_command
  unreadable-leaves e = rw e (refl, refl)

  module _ (text : List ℕ) (after : Book) where
    -- the reply is the line of the answer on the change, and the book after is that of the change, which is kept where the book before was
    pub obeyed-change : {A : Type 0} (change : Change) (answer : Result A Refusal) → Changes b c change → ChangedOf b change answer after
        → text ≡ answer_line ok_line (verdict_of answer) → ObeyedAs b c text after
    obeyed-change change answer is of text-is =
        record {
          text-is = text-is ∙ rw of.answer-is (sym is.0);
          book-is = of.book-is ∙ sym is.1;
          kept = of.kept;
        }

    pub obeyed-same : (t : List ℕ) → Leaves b c t → text ≡ t → after ≡ b → ObeyedAs b c text after
    obeyed-same t is text-is book-is = record { text-is = text-is ∙ sym is.0; book-is = book-is ∙ sym is.1; kept = λ s k. rw book-is k }
