-- The text of a place of the book, and of one above 35. Assumes nothing.
use Prim.Native.Nat.{ℕ, ◌≤◌, ◌<◌}
use mathlib.Core.Path.{◌≡◌}
use borrow.Author.Tests.{lt-ltb, le-ltb}
use Rattle.form.specs.PlaceOrder.{sub_balance_count}
use Rattle.book_state.specs.declared.Book.{Book}
use Rattle.book_state.specs.BookPlaces.{held_in}
use Rattle.text.specs.Lines.{refusal_line}
use Rattle.text_book.specs.BookLines.{held_line}
use Rattle.text_book.specs.Replies.{place_text}

-- a place of the book, and one above 35
module _ (b : Book) (place : ℕ) where
  pub place_held : place < sub_balance_count → held_line (held_in b place) ≡ place_text b place
  unfolding place_text
  place_held h = rw (lt-ltb place sub_balance_count h)

  pub place_none : sub_balance_count ≤ place → refusal_line 17 place ≡ place_text b place
  unfolding place_text
  place_none h = rw (le-ltb place sub_balance_count h)
