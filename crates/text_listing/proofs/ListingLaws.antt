-- The text of a filing in each of the three cases: too long, refused, accepted; the lines read off its 568 numbers are its lines, and so
-- those of its borrowings off their 374. Assumes nothing.
use Prim.Native.Nat.{ℕ, ◌≤◌, ◌<◌}
use mathlib.Core.Path.{◌≡◌, refl, ap, sym, ◌∙◌}
use mathlib.Core.Bool.{true}
use mathlib.Core.List.{List, ◌++◌}
use native.Mathlib.Omega.{arith}
use lib.ListN.{length, length-append}
use lib.Dec.{eqb}
use borrow.Author.Tests.{lt-ltb, le-ltb, eq-eqb}
use Rattle.lists.specs.Tables.{joined}
use Rattle.lists.proofs.TableLaws.{table-ext}
use Rattle.form.specs.Shift.{scenario_count}
use Rattle.form.specs.Counts.{totals_start, number_count}
use Rattle.std.specs.Prelude.{Result, Ok, Err}
use Rattle.answers.specs.declared.Refusal.{Refusal}
use Rattle.answers.specs.Answers.{number_of, location_of, verdict_of}
use Rattle.answers.specs.Verdict.{Verdict, accepted}
use Rattle.answers.proofs.VerdictLaws.{list-long}
use Rattle.filing_contents.specs.Contents.{Contents}
use Rattle.filing_decode.specs.Contents.{contents_of}
use Rattle.filing.specs.Verdict.{filing_verdict}
use Rattle.value_numbers.specs.Numbers.{scenario_totals, numbers}
use Rattle.borrowing_numbers.specs.Borrowed.{libor_rate}
use Rattle.borrowing_numbers.specs.Numbers.{borrowing_totals_start, borrowing_number_count, totals_of, borrowed_numbers}
use Rattle.borrowing_numbers.specs.Promise.{total_number}
use Rattle.borrowing_numbers.proofs.NumberLaws.{list, list_length}
use Rattle.borrowing_numbers.proofs.NumberLaws as borrowed
use Rattle.valuation.specs.Promise.{verdict_on, list_after, borrowings_after, Valued}
use Rattle.value_numbers.proofs.NumberLaws.{rows-length, totals-length, numbers-split, total-read}
use Rattle.text.specs.Lines.{filing_limit, refusal_line, too_long}
use Rattle.text.proofs.AnswerLaws.{printed-refused, printed-accepted}
use Rattle.text_listing.specs.TotalLines.{totals_in, line_in, lines_in}
use Rattle.text_listing.proofs.TotalLineLaws.{totals-read}
use Rattle.text_listing.specs.Listing.{scenario_line, scenario_lines, verdict_text, filing_text, listing_text}
use Rattle.text_listing.specs.BorrowingListing.{borrowing_line, borrowing_lines, borrowings_text}

module _ (k : Contents) (rest : List ℕ) where
  -- the list has the 568 numbers
  enough : number_count ≤ length (numbers k ++ rest)
  enough =
      rw (numbers-split k rest, length-append, length-append) (omega (arith, rows-length k, totals-length k))

  -- the four numbers from 540 + 4 × scenario on are read behind the rows of places, each the total of its index
  totals-are : (scenario : ℕ) → scenario < scenario_count → totals_in (numbers k ++ rest) totals_start 4 scenario ≡ scenario_totals k scenario
  unfolding scenario_totals
  totals-are scenario h =
      totals-read (numbers k ++ rest) totals_start 4 scenario (scenario_totals k scenario) (omega (arith, enough)) refl
      (λ r l. rw (numbers-split k rest) (total-read k rest scenario r h l))

  -- the lines read off a list that begins with a filing's 568 numbers
  pub lines_are : lines_in (numbers k ++ rest) totals_start 4 ≡ scenario_lines k
  unfolding lines_in scenario_lines scenario_line line_in
  lines_are = ap joined (table-ext scenario_count (line_in (numbers k ++ rest) totals_start 4) (scenario_line k) (λ i h. rw (totals-are i h)))

-- the two totals of a scenario are read behind the rows of the borrowings
module _ (k : Contents) (rest : List ℕ) where
  borrowing-totals : (scenario : ℕ) → scenario < scenario_count
      → totals_in (list k.cells (libor_rate k) rest) borrowing_totals_start 2 scenario ≡ totals_of k.cells (libor_rate k) scenario
  unfolding totals_of total_number
  borrowing-totals scenario h =
      totals-read (list k.cells (libor_rate k) rest) borrowing_totals_start 2 scenario (totals_of k.cells (libor_rate k) scenario)
      (omega (arith, list_length k.cells (libor_rate k) rest)) refl
      (λ r l. borrowed.total-read k.cells (libor_rate k) rest r scenario h l)

  -- the lines read off a list that begins with the borrowings' 374 numbers
  borrowing-lines-are : lines_in (list k.cells (libor_rate k) rest) borrowing_totals_start 2 ≡ borrowing_lines k
  unfolding lines_in borrowing_lines borrowing_line line_in
  borrowing-lines-are =
      ap joined (table-ext scenario_count (line_in (list k.cells (libor_rate k) rest) borrowing_totals_start 2) (borrowing_line k) (λ i h. rw (borrowing-totals i h)))

-- an input over the limit
pub text-too-long : (lines : Contents → List ℕ) (s : List ℕ) → filing_limit < length s → too_long ≡ filing_text lines s
unfolding filing_text
text-too-long lines s h = rw (lt-ltb filing_limit (length s) h)

module _ {A : Type 0} (s list borrowings list-after borrowings-after : List ℕ) (answer : Result A Refusal) (short : length s ≤ filing_limit)
    (long : number_count ≤ length list) (room : borrowing_number_count ≤ length borrowings) (valued : Valued s list borrowings answer list-after borrowings-after) where
  verdict-is : verdict_of answer ≡ filing_verdict s
  unfolding verdict_on
  verdict-is =
      valued.answer-is ∙ sym (list-long borrowing_number_count (length borrowings) (filing_verdict s) room ∙ list-long number_count (length list) _ long)

  text-is : (lines : Contents → List ℕ) → verdict_text (lines (contents_of s)) (filing_verdict s) ≡ filing_text lines s
  unfolding filing_text
  text-is lines = rw (le-ltb filing_limit (length s) short)

  -- a refused filing
  pub text-refused : (lines : Contents → List ℕ) (r : Refusal) → answer ≡ Err r → refusal_line (number_of r) (location_of r) ≡ filing_text lines s
  unfolding verdict_text
  text-refused lines r is = printed-refused r (filing_verdict s) (lines (contents_of s)) (rw is at verdict-is) ∙ text-is lines

  -- an accepted filing: its lines are those read off the lists
  module _ (x : A) (is : answer ≡ Ok x) where
    taken : accepted ≡ filing_verdict s
    taken = rw is at verdict-is

    text-taken : (lines : Contents → List ℕ) → lines (contents_of s) ≡ filing_text lines s
    unfolding verdict_text
    text-taken lines = printed-accepted (filing_verdict s) (lines (contents_of s)) taken ∙ text-is lines

    accepted-here : eqb (verdict_on s list borrowings).number 0 ≡ true
    unfolding accepted
    accepted-here =
        let e : accepted ≡ verdict_on s list borrowings = rw is at valued.answer-is in
        eq-eqb (verdict_on s list borrowings).number 0 (ap (λ (v : Verdict). v.number) (sym e))

    pub text-accepted : lines_in list-after totals_start 4 ≡ listing_text s
    unfolding list_after listing_text
    text-accepted = rw (valued.list-is, accepted-here, lines_are) (text-taken scenario_lines)

    pub borrowings-accepted : lines_in borrowings-after borrowing_totals_start 2 ≡ borrowings_text s
    unfolding borrowings_after borrowings_text borrowed_numbers
    borrowings-accepted = rw (valued.borrowings-are, accepted-here, borrowing-lines-are) (text-taken borrowing_lines)
