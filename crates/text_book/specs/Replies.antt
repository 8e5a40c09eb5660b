-- What a book prints at its opening and to each command, as ASCII bytes, and the book after a command (02:CR 7). Balances in thousands of dollars,
-- coupons in thousandths of a percent a year, penalties in hundredths of a month, values and totals in dollars. Definitions only.
use Rattle.std.specs.Prelude.{ℕ, ◌≡◌, Bool, cond, ◌&&◌, List, [], ◌∷◌, ◌++◌, Option, None, Some, eqb, leb, ltb, length}
use Rattle.filing.specs.Verdict.{filing_verdict}
use Rattle.form.specs.PlaceOrder.{sub_balance_count}
use Rattle.book_state.specs.declared.Book.{Book}
use Rattle.book_state.specs.BookPlaces.{held_in}
use Rattle.book_promise.specs.Books.{opened_book}
use Rattle.book_promise.specs.Changes.{set_place, clear_place, change_verdict, book_after}
use Rattle.book_promise.specs.Promise.{Kept}
use Rattle.text.specs.Decimal.{decimal}
use Rattle.text.specs.Lines.{filing_limit, refusal_line, unreadable_line, too_long}
use Rattle.text_listing.specs.TotalLines.{lines_in}
use Rattle.text_book.specs.BookLines.{opened_line, ok_line, answer_line, held_line}
use Rattle.text_book.specs.declared.book_commands.Command.{Command}
use Rattle.text_book.specs.declared.book_commands.Command.TheVariants.{Set, Clear, Place, Totals}

-- the opening of a book from a filing's bytes: its line, and whether the book is open
unfoldable pub opening_text : List ℕ → List ℕ
opening_text s = cond (ltb filing_limit (length s)) too_long (answer_line opened_line (filing_verdict s))

unfoldable pub opens : List ℕ → Bool
opens s = leb (length s) filing_limit && eqb (filing_verdict s).number 0

-- the place asked for; 17 above 35
unfoldable pub place_text : Book → ℕ → List ℕ
place_text b place = cond (ltb place sub_balance_count) (held_line (held_in b place)) (refusal_line 17 place)

-- the balance total, and the lines of the seven scenarios
unfoldable pub totals_text : Book → List ℕ
totals_text b = (decimal b.balance ++ (10 ∷ [])) ++ lines_in b.totals 0 4

-- what is printed to a command, and to a line that says none
unfoldable pub reply_to : Book → Option Command → List ℕ
reply_to b (Some (Set place balance coupon months penalty)) = answer_line ok_line (change_verdict (set_place place balance coupon months penalty))
reply_to b (Some (Clear place)) = answer_line ok_line (change_verdict (clear_place place))
reply_to b (Some (Place place)) = place_text b place
reply_to b (Some Totals) = totals_text b
reply_to b None = unreadable_line

-- the book after a command
unfoldable pub book_after_command : Book → Option Command → Book
book_after_command b (Some (Set place balance coupon months penalty)) = book_after b (set_place place balance coupon months penalty)
book_after_command b (Some (Clear place)) = book_after b (clear_place place)
book_after_command b (Some (Place place)) = b
book_after_command b (Some Totals) = b
book_after_command b None = b

-- what the call promises that opens a book: the book, where it is open, and the text
pub record OpenedAs (s : List ℕ) (book : Option Book) (text : List ℕ) : Type 0 where
  pub text-is : text ≡ opening_text s
  pub book-is : book ≡ cond (opens s) (Some (opened_book s)) None
  pub kept : (b : Book) → book ≡ Some b → Kept s b

-- what the call promises that obeys a command: the text, and the book after
pub record ObeyedAs (before : Book) (c : Option Command) (text : List ℕ) (after : Book) : Type 0 where
  pub text-is : text ≡ reply_to before c
  pub book-is : after ≡ book_after_command before c
  pub kept : (s : List ℕ) → Kept s before → Kept s after
