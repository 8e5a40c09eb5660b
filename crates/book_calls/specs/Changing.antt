-- A list of changes made in turn on the book that a filing opens (02:CR 7). Definitions only.
use Rattle.std.specs.Prelude.{ℕ, ◌+◌, ◌*◌, ◌/◌, ◌≡◌, Bool, cond, not, ◌&&◌, None, Some, Result, Ok, Err, IfOk, IfErr, List, eqb, length, get_or}
use Rattle.lists.specs.Ranges.{first_from}
use Rattle.lists.specs.Tables.{table}
use Rattle.answers.specs.declared.Refusal.{Refusal}
use Rattle.answers.specs.Answers.{verdict_of}
use Rattle.answers.specs.Verdict.{Verdict, first_refusal, first_of}
use Rattle.filing.specs.Verdict.{filing_verdict}
use Rattle.book_state.specs.declared.Book.{Book}
use Rattle.book_promise.specs.Books.{opened_book}
use Rattle.book_promise.specs.Changes.{Change, set_place, clear_place, neither_at, change_verdict, book_after_all}
use Rattle.book_promise.specs.Promise.{Kept}
use Rattle.book_calls.specs.declared.book_changes.Changed.{Changed}
use Rattle.book_calls.specs.declared.book_changes.NotChanged.{NotChanged}

-- nothing is given for a place: balance, coupon, months and penalty are 0
unfoldable pub leaves_nothing : ℕ → ℕ → ℕ → ℕ → Bool
leaves_nothing balance coupon months penalty = eqb balance 0 && (eqb coupon 0 && (eqb months 0 && eqb penalty 0))

-- a change whose first number is 1 clears its place, with 0 for the other four
unfoldable pub clears : ℕ → ℕ → ℕ → ℕ → ℕ → Bool
clears action balance coupon months penalty = eqb action 1 && leaves_nothing balance coupon months penalty

-- the change that six numbers mean: 0 to set or 1 to clear, the place, balance (thousands of dollars), coupon (thousandths of a percent a year), months,
-- penalty (hundredths of a month)
unfoldable pub change_of : ℕ → ℕ → ℕ → ℕ → ℕ → ℕ → Change
change_of action place balance coupon months penalty =
    cond (clears action balance coupon months penalty) (clear_place place)
    (cond (eqb action 0) (set_place place balance coupon months penalty) (neither_at place))

-- how many whole changes a list of numbers has, and the k-th
abbrev pub change_count : List ℕ → ℕ
change_count l = length l / 6

unfoldable pub change_at : List ℕ → ℕ → Change
change_at l k =
    change_of (get_or l (6 * k) 0) (get_or l (6 * k + 1) 0) (get_or l (6 * k + 2) 0) (get_or l (6 * k + 3) 0) (get_or l (6 * k + 4) 0) (get_or l (6 * k + 5) 0)

-- the changes of a list, and the first refusal among them: 17, at the place given
unfoldable pub changes_of : List ℕ → List Change
changes_of l = table (change_count l) (change_at l)

unfoldable pub changes_verdict : List ℕ → Verdict
changes_verdict l = first_of (table (change_count l) (λ (k : ℕ). change_verdict (change_at l k)))

-- the k-th change is refused
unfoldable pub refused_change : List ℕ → ℕ → Bool
refused_change l k = not (eqb (change_verdict (change_at l k)).number 0)

-- how many changes are made: those before the first refused one, or all
unfoldable pub changes_made : List ℕ → ℕ
changes_made l = first_from 0 (change_count l) (refused_change l)

-- what is answered on a list of changes, without the count of those made; and that count
abbrev pub answer_on : {A : Type 0} → Result A NotChanged → Result A Refusal
answer_on (Ok x) = Ok x
answer_on (Err n) = Err n.refusal

abbrev pub made_by : {A : Type 0} → (A → ℕ) → Result A NotChanged → ℕ
made_by made (Ok x) = made x
made_by made (Err n) = n.made

-- what a list of changes does to a book: the answer, how many are made, and where none is refused the book after them all, which stays kept; with one of
-- them refused the book is as it was, and answered so
pub record ChangedAll (before : Book) (l : List ℕ) (r : Result ℕ NotChanged) (after : Book) : Type 0 where
  pub answer-is : verdict_of (answer_on r) ≡ changes_verdict l
  pub made-is : made_by (λ (k : ℕ). k) r ≡ changes_made l
  pub book-is : IfOk r (λ k. after ≡ book_after_all before (changes_of l))
  pub kept : IfOk r (λ k. (s : List ℕ) → Kept s before → Kept s after)
  pub left-is : IfErr r (λ n. (after ≡ before) × (n.book ≡ Some before))

-- the refusal of the filing, then those of the changes in turn
unfoldable pub book_verdict : List ℕ → List ℕ → Verdict
book_verdict s l = first_refusal (filing_verdict s) (changes_verdict l)

-- how many changes are made on the book that a filing opens: none where the filing is refused
unfoldable pub made_of : List ℕ → List ℕ → ℕ
made_of s l = cond (eqb (filing_verdict s).number 0) (changes_made l) 0

-- what is answered on a filing s and a list of changes l: the first refusal with the count of those made and the book as it was opened, where the filing is
-- not refused, or the book after them all, which is kept
pub record BookOf (s l : List ℕ) (r : Result Changed NotChanged) : Type 0 where
  pub answer-is : verdict_of (answer_on r) ≡ book_verdict s l
  pub made-is : made_by (λ (c : Changed). c.made) r ≡ made_of s l
  pub book-is : IfOk r (λ c. c.book ≡ book_after_all (opened_book s) (changes_of l))
  pub kept : IfOk r (λ c. Kept s c.book)
  pub left-is : IfErr r (λ n. n.book ≡ cond (eqb (filing_verdict s).number 0) (Some (opened_book s)) None)
