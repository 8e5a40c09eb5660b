-- The opening of a book: an input that is too long, and the answer on the filing. Assumes nothing.
use Prim.Native.Nat.{ℕ, ◌≤◌, ◌<◌}
use mathlib.Core.Path.{◌≡◌, ap, sym, ◌∙◌}
use mathlib.Core.List.{List}
use borrow.Author.Tests.{lt-ltb, le-ltb, lt-leb, le-leb, eq-eqb, ne_eqb}
use lib.ListN.{length}
use Rattle.std.specs.Prelude.{Option, None, Some, Ok, Err}
use Rattle.answers.specs.declared.Refusal.{Refusal}
use Rattle.answers.specs.Answers.{number_of, location_of}
use Rattle.answers.specs.Verdict.{Verdict, accepted, refused}
use Rattle.answers.proofs.AnswerLaws.{refusal-refuses}
use Rattle.filing.specs.Verdict.{filing_verdict}
use Rattle.book_state.specs.declared.Book.{Book}
use Rattle.book_promise.specs.Promise.{OpenedOf}
use Rattle.text.specs.Lines.{too_long, filing_limit, refusal_line}
use Rattle.text.proofs.AnswerLaws.{printed-refused, printed-accepted}
use Rattle.text_book.specs.BookLines.{opened_line, answer_line}
use Rattle.text_book.specs.Replies.{opening_text, opens, OpenedAs}

-- too long
pub opened-long : (s text : List ℕ) → filing_limit < length s → text ≡ too_long → OpenedAs s None text
unfolding opening_text opens
opened-long s text h e =
    record {
      text-is = e ∙ rw (lt-ltb filing_limit (length s) h);
      book-is = rw (lt-leb (length s) filing_limit h);
      kept = λ b z. let y : ◌≡◌ {A = Option Book} None (Some b) = z in absurd (cc);
    }

module _ (s : List ℕ) (short : length s ≤ filing_limit) where
  -- a refused filing: its line is the refusal's, and no book is open
  pub opened-refused : (r : Refusal) (text : List ℕ) → OpenedOf s (Err r) → text ≡ refusal_line (number_of r) (location_of r) → OpenedAs s None text
  unfolding opening_text opens answer_line refused
  opened-refused r text of e =
      let some : (filing_verdict s).number ≡ 0 → ⊥ = rw (← of.answer-is) (refusal-refuses r) in
      record {
        text-is = e ∙ printed-refused r (filing_verdict s) opened_line of.answer-is ∙ rw (le-ltb filing_limit (length s) short);
        book-is = rw (le-leb (length s) filing_limit short, ne_eqb (filing_verdict s).number 0 some);
        kept = λ b z. let y : ◌≡◌ {A = Option Book} None (Some b) = z in absurd (cc);
      }

  -- an accepted filing: the book is the one opened, which is kept
  pub opened-taken : (book : Book) (text : List ℕ) → OpenedOf s (Ok book) → text ≡ opened_line → OpenedAs s (Some book) text
  unfolding opening_text opens answer_line accepted
  opened-taken book text of e =
      let taken = eq-eqb (filing_verdict s).number 0 (sym (ap (λ (v : Verdict). v.number) of.answer-is)) in
      record {
        text-is = e ∙ printed-accepted (filing_verdict s) opened_line of.answer-is ∙ rw (le-ltb filing_limit (length s) short);
        book-is = rw (le-leb (length s) filing_limit short, taken) (ap Some of.book-is);
        kept = λ b z. let y : ◌≡◌ {A = Option Book} (Some book) (Some b) = z in let same : b ≡ book = cc in rw same of.kept;
      }
