-- What the book's call from C promises: that of `book_of`, with the totals as plain numbers (02:CR 7). Definitions only.
use Rattle.std.specs.Prelude.{ℕ, ◌≡◌, cond, List, ◌∷◌, eqb}
use Rattle.book_state.specs.declared.Book.{Book}
use Rattle.book_promise.specs.Books.{opened_book}
use Rattle.book_promise.specs.Changes.{book_after_all}
use Rattle.book_promise.specs.Promise.{Kept}
use Rattle.book_calls.specs.Changing.{changes_of, book_verdict, made_of}

-- what is shown of a book: the balance total in thousands of dollars; short lower, short upper, long lower and long upper total by scenario in dollars
unfoldable pub shown_of : Book → List ℕ
shown_of b = b.balance ∷ b.totals

-- the book of an accepted filing s after the changes of the list l
abbrev pub book_of : List ℕ → List ℕ → Book
book_of s l = book_after_all (opened_book s) (changes_of l)

-- before and after are the totals' list at the call and at the return; number and location are 0 for acceptance; changed is the count of changes made
pub record BookForC (s l before : List ℕ) (number location changed : ℕ) (after : List ℕ) : Type 0 where
  pub number_is : number ≡ (book_verdict s l).number
  pub location-is : location ≡ (book_verdict s l).location
  -- those before the first refused one, all on acceptance, none where the filing is refused
  pub changed-is : changed ≡ made_of s l
  -- a refusal leaves the list
  pub list-is : after ≡ cond (eqb (book_verdict s l).number 0) (shown_of (book_of s l)) before
  pub kept : number ≡ 0 → Kept s (book_of s l)
