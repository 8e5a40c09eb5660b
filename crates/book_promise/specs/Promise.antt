-- What a book promises at every moment (02:CR 7): the record that opening establishes and every change keeps, and so any sequence of changes.
-- Balances in thousands of dollars, values and totals in dollars. Definitions only.
use Rattle.std.specs.Prelude.{ℕ, ◌+◌, ◌*◌, ◌<◌, ◌≡◌, Result, IfOk, List, get_or}
use Rattle.lists.specs.Sums.{sum_where, everywhere}
use Rattle.fraction.specs.Fraction.{Fraction}
use Rattle.answers.specs.declared.Refusal.{Refusal}
use Rattle.answers.specs.Answers.{verdict_of}
use Rattle.answers.specs.Verdict.{accepted}
use Rattle.filing_decode.specs.Contents.{contents_of}
use Rattle.filing.specs.Verdict.{filing_verdict}
use Rattle.form.specs.PlaceOrder.{sub_balance_count, is_short, is_long}
use Rattle.form.specs.Shift.{scenario_count}
use Rattle.pricing.specs.EnclosedValues.{EnclosedValues, EnclosedTotal}
use Rattle.value_places.specs.HeldValues.{exact_held}
use Rattle.book_state.specs.declared.Book.{Book}
use Rattle.book_state.specs.BookPlaces.{held_in}
use Rattle.book_promise.specs.Books.{opened_book}
use Rattle.book_promise.specs.Changes.{Change, change_verdict, book_after, book_after_all}
use Rattle.book_promise.specs.Standing.{Standing}

-- read off a book: balance, lower and upper value of a place, and number r of a scenario's four totals, short lower, short upper, long lower, long upper
unfoldable pub balance_in : Book → ℕ → ℕ
balance_in b place = (held_in b place).balance

unfoldable pub lower_in : Book → ℕ → ℕ → ℕ
lower_in b scenario place = get_or (held_in b place).values (2 * scenario) 0

unfoldable pub upper_in : Book → ℕ → ℕ → ℕ
upper_in b scenario place = get_or (held_in b place).values (2 * scenario + 1) 0

unfoldable pub total_in : Book → ℕ → ℕ → ℕ
total_in b r scenario = get_or b.totals (4 * scenario + r) 0

-- the exact value of a place, from its balance, coupon, months and penalty under the filing's sheets and tiers
unfoldable pub exact_in : List ℕ → Book → ℕ → ℕ → Fraction
exact_in s b scenario place = exact_held (contents_of s) scenario place (held_in b place)

-- what holds of a book that was opened from the accepted filing s
pub record Kept (s : List ℕ) (b : Book) : Type 0 where
  -- it stands under that filing, and each place holds a deposit within the place's limits, with its values, or nothing
  pub standing : Standing (contents_of s) b
  -- the totals equal fresh sums over the places
  pub balance-total : b.balance ≡ sum_where everywhere (balance_in b) sub_balance_count
  pub short-lower : (scenario : ℕ) → scenario < scenario_count → total_in b 0 scenario ≡ sum_where is_short (lower_in b scenario) sub_balance_count
  pub short-upper : (scenario : ℕ) → scenario < scenario_count → total_in b 1 scenario ≡ sum_where is_short (upper_in b scenario) sub_balance_count
  pub long-lower : (scenario : ℕ) → scenario < scenario_count → total_in b 2 scenario ≡ sum_where is_long (lower_in b scenario) sub_balance_count
  pub long-upper : (scenario : ℕ) → scenario < scenario_count → total_in b 3 scenario ≡ sum_where is_long (upper_in b scenario) sub_balance_count
  -- lower never above and upper never below the exact value of each place, the width of each, and the width over all thirty-six against the balance total
  pub values-enclosed : EnclosedValues sub_balance_count (balance_in b) (lower_in b) (upper_in b) (exact_in s b) b.balance 18000
  -- the short and the long total enclose theirs
  pub short-encloses : EnclosedTotal is_short sub_balance_count (exact_in s b) (total_in b 0) (total_in b 1)
  pub long-encloses : EnclosedTotal is_long sub_balance_count (exact_in s b) (total_in b 2) (total_in b 3)

-- opening: the answer is that on the filing, and the book of an accepted one is the one that its bytes open, and kept
pub record OpenedOf (s : List ℕ) (r : Result Book Refusal) : Type 0 where
  pub answer-is : verdict_of r ≡ filing_verdict s
  pub book-is : IfOk r (λ b. b ≡ opened_book s)
  pub kept : IfOk r (Kept s)

-- a change: the answer, the whole book after it, and that it stays kept
pub record ChangedOf {A : Type 0} (before : Book) (c : Change) (answer : Result A Refusal) (after : Book) : Type 0 where
  pub answer-is : verdict_of answer ≡ change_verdict c
  pub book-is : after ≡ book_after before c
  pub kept : (s : List ℕ) → Kept s before → Kept s after

-- the promise over any sequence of changes from the opening
unfoldable pub BookPromise : Type 0
BookPromise = (s : List ℕ) → filing_verdict s ≡ accepted → (changes : List Change) → Kept s (book_after_all (opened_book s) changes)
