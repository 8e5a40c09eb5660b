-- The number, the location and the totals of the book's call keep its promise. Assumes nothing.
use Prim.Native.Nat.{ℕ}
use mathlib.Core.Path.{◌≡◌, sym, ap, subst, ◌∙◌}
use mathlib.Core.List.{List, ◌∷◌}
use borrow.Author.Tests.{eq-eqb, ne_eqb}
use Rattle.std.specs.Prelude.{Ok, Err}
use Rattle.answers.specs.Answers.{number_of, location_of}
use Rattle.answers.specs.Verdict.{Verdict, accepted, refused}
use Rattle.answers.proofs.AnswerLaws.{refusal-numbered, refusal-refuses}
use Rattle.book_promise.specs.Promise.{Kept}
use Rattle.book_calls.specs.declared.book_changes.Changed.{Changed}
use Rattle.book_calls.specs.declared.book_changes.NotChanged.{NotChanged}
use Rattle.book_calls.specs.Changing.{book_verdict, BookOf}
use Rattle.exports.specs.Changed.{shown_of, BookForC}

module _ (s l before : List ℕ) where
  -- a refusal is the book's verdict, and the list stays
  pub book-refused : (n : NotChanged) (number location : ℕ) → BookOf s l (Err n) → number ≡ number_of n.refusal → location ≡ location_of n.refusal
      → BookForC s l before number location n.made before
  unfolding refused
  book-refused n number location done e f =
      let some : (book_verdict s l).number ≡ 0 → ⊥ = rw (← done.answer-is) (refusal-refuses n.refusal) in
      record {
        number_is = e ∙ ap (λ (v : Verdict). v.number) done.answer-is;
        location-is = f ∙ ap (λ (v : Verdict). v.location) done.answer-is;
        changed-is = done.made-is;
        list-is = rw (ne_eqb (book_verdict s l).number 0 some);
        kept = λ z. absurd (refusal-numbered n.refusal (sym e ∙ z));
      }

  -- the accepted book is that of all changes, which is kept
  pub book-accepted : (c : Changed) (after : List ℕ) → BookOf s l (Ok c) → after ≡ c.book.balance ∷ c.book.totals → BookForC s l before 0 0 c.made after
  unfolding accepted shown_of
  book-accepted c after done e =
      record {
        number_is = ap (λ (v : Verdict). v.number) done.answer-is;
        location-is = ap (λ (v : Verdict). v.location) done.answer-is;
        changed-is = done.made-is;
        list-is = rw (eq-eqb (book_verdict s l).number 0 (sym (ap (λ (v : Verdict). v.number) done.answer-is))) (e ∙ ap shown_of done.book-is);
        kept = λ z. subst (Kept s) done.book-is done.kept;
      }
