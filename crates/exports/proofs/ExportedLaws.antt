-- The number and the location of the valuing call's answer keep its promise. Assumes nothing.
use Prim.Native.Nat.{ℕ}
use mathlib.Core.Path.{◌≡◌, sym, ap, ◌∙◌}
use mathlib.Core.List.{List}
use Rattle.std.specs.Prelude.{Result, Ok, Err}
use Rattle.answers.specs.declared.Refusal.{Refusal}
use Rattle.answers.specs.Answers.{number_of, location_of}
use Rattle.answers.specs.Verdict.{Verdict, accepted, refused}
use Rattle.answers.proofs.AnswerLaws.{refusal-numbered}
use Rattle.valuation.specs.Promise.{Valued}
use Rattle.exports.specs.Exported.{ValuedForC}

module _ {A : Type 0} (s list borrowings list-after borrowings-after : List ℕ) (answer : Result A Refusal)
    (valued : Valued s list borrowings answer list-after borrowings-after) where
  -- a refusal is the filing's verdict, and the lists are the call's own
  pub valued-refused : (r : Refusal) (number location : ℕ) → answer ≡ Err r → number ≡ number_of r → location ≡ location_of r
      → ValuedForC s list borrowings number location list-after borrowings-after
  unfolding refused
  valued-refused r number location is e f =
      let v = rw is at valued.answer-is in
      record {
        number_is = e ∙ ap (λ (v : Verdict). v.number) v;
        location-is = f ∙ ap (λ (v : Verdict). v.location) v;
        list-is = valued.list-is;
        borrowings-are = valued.borrowings-are;
        enclosed = λ z. absurd (refusal-numbered r (sym e ∙ z));
        borrowings-enclosed = λ z. absurd (refusal-numbered r (sym e ∙ z));
      }

  -- the lists of an accepted filing enclose the exact values
  pub valued-accepted : (x : A) → answer ≡ Ok x → ValuedForC s list borrowings 0 0 list-after borrowings-after
  unfolding accepted
  valued-accepted x is =
      let v = rw is at valued.answer-is in
      record {
        number_is = ap (λ (v : Verdict). v.number) v;
        location-is = ap (λ (v : Verdict). v.location) v;
        list-is = valued.list-is;
        borrowings-are = valued.borrowings-are;
        enclosed = λ z. valued.enclosed (rw is);
        borrowings-enclosed = λ z. valued.borrowings-enclosed (rw is);
      }
