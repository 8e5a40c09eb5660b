-- The ways out of the valuing call keep the promise. Assumes nothing.
use Prim.Native.Nat.{ℕ, ◌≤◌, ◌<◌}
use mathlib.Core.Path.{◌≡◌, sym, ap, ◌∙◌}
use mathlib.Core.List.{List, ◌++◌}
use borrow.Author.Tests.{eq-eqb, ne_eqb}
use lib.ListN.{length, drop}
use Rattle.form.specs.Counts.{number_count}
use Rattle.std.specs.Prelude.{Ok, Err}
use Rattle.answers.specs.declared.Refusal.{Refusal}
use Rattle.answers.specs.declared.Refusal.TheVariants.{ListTooShort}
use Rattle.answers.specs.Answers.{number_of, location_of}
use Rattle.answers.proofs.AnswerLaws.{refusal-refuses}
use Rattle.answers.specs.Verdict.{Verdict, accepted, first_refusal, list_verdict, refused}
use Rattle.answers.proofs.VerdictLaws.{list-short, list-long}
use Rattle.filing_contents.specs.Contents.{Contents}
use Rattle.filing_decode.specs.Contents.{contents_of}
use Rattle.filing.specs.Readings.{read_over}
use Rattle.filing.specs.Verdict.{filing_verdict}
use Rattle.filing.proofs.ReadingLaws.{reading-says, reading-valid}
use Rattle.price_factors.specs.Inner.Factors.{sheet_yield}
use Rattle.value_numbers.specs.Numbers.{numbers}
use Rattle.borrowing_numbers.specs.Numbers.{borrowing_number_count, borrowed_numbers}
use Rattle.borrowing_numbers.specs.Numbers as borrowed
use Rattle.borrowing_numbers.proofs.PromiseLaws.{libor-is, borrowings-enclosed}
use Rattle.valuation.specs.Promise.{verdict_on, list_after, borrowings_after, Valued}
use Rattle.valuation.proofs.PromiseLaws.{enclosed}

abbrev number : Verdict → ℕ
number v = v.number

module _ (s list borrowings : List ℕ) where
  -- a refusal, whatever its reason: both lists stay, and nothing is promised of them
  refuses : (r : Refusal) → refused (number_of r) (location_of r) ≡ verdict_on s list borrowings → Valued {A = Unit {0}} s list borrowings (Err r) list borrowings
  unfolding list_after borrowings_after accepted
  refuses r is =
      let other = ne_eqb (verdict_on s list borrowings).number 0 (λ e. refusal-refuses r (ap number is ∙ e)) in
      record {
        answer-is = is;
        list-is = rw other;
        borrowings-are = rw other;
        enclosed = λ e. absurd (refusal-refuses r (ap number e));
        borrowings-enclosed = λ e. absurd (refusal-refuses r (ap number e));
      }

  -- a list under 568 numbers
  pub short-list : length list < number_count → Valued {A = Unit {0}} s list borrowings (Err (ListTooShort (length list))) list borrowings
  unfolding verdict_on
  short-list short = refuses (ListTooShort (length list)) (list-short number_count (length list) _ short)

  -- else a list for the borrowings under 374
  module _ (long : number_count ≤ length list) where
    borrowings-next : first_refusal (list_verdict borrowing_number_count (length borrowings)) (filing_verdict s) ≡ verdict_on s list borrowings
    unfolding verdict_on
    borrowings-next = list-long number_count (length list) _ long

    pub short-borrowings : length borrowings < borrowing_number_count → Valued {A = Unit {0}} s list borrowings (Err (ListTooShort (length borrowings))) list borrowings
    short-borrowings short =
        refuses (ListTooShort (length borrowings)) (list-short borrowing_number_count (length borrowings) (filing_verdict s) short ∙ borrowings-next)

    -- both are long enough
    module _ (room : borrowing_number_count ≤ length borrowings) where
      verdict-is : filing_verdict s ≡ verdict_on s list borrowings
      verdict-is = list-long borrowing_number_count (length borrowings) (filing_verdict s) room ∙ borrowings-next

      -- a refused filing
      pub refused-filing : (r : Refusal) → refused (number_of r) (location_of r) ≡ filing_verdict s → Valued {A = Unit {0}} s list borrowings (Err r) list borrowings
      refused-filing r read = refuses r (read ∙ verdict-is)

      -- an accepted filing: what was read is what the bytes say, and it is valid; so the first list holds the 568 numbers of the bytes, the second
      -- the 374 of their borrowings, and what is read off them encloses the exact figures
      pub valued-filing : accepted ≡ filing_verdict s → (k start : Contents) → k ≡ read_over s start → (list-after borrowings-after : List ℕ)
          → list-after ≡ numbers k ++ drop number_count list
          → borrowings-after ≡ borrowed.numbers k.cells (sheet_yield k.libor) ++ drop borrowing_number_count borrowings
          → Valued {A = Unit {0}} s list borrowings (Ok tt) list-after borrowings-after
      unfolding list_after borrowings_after borrowed_numbers accepted
      valued-filing read k start said list-after borrowings-after e f =
          let says = reading-says s k start read said in
          let valid = rw says at (reading-valid s k start read said) in
          let held : list-after ≡ numbers (contents_of s) ++ drop number_count list = rw says at e in
          let owed : borrowings-after ≡ borrowed_numbers (contents_of s) ++ drop borrowing_number_count borrowings = rw (libor-is k, says) at f in
          let taken = eq-eqb (verdict_on s list borrowings).number 0 (ap number (sym (read ∙ verdict-is))) in
          record {
            answer-is = read ∙ verdict-is;
            list-is = held ∙ rw taken;
            borrowings-are = owed ∙ rw taken;
            enclosed = λ _. rw held (enclosed s (drop number_count list) valid);
            borrowings-enclosed = λ _. rw owed (borrowings-enclosed (contents_of s).cells _ (drop borrowing_number_count borrowings) valid.of-borrowings);
          }
