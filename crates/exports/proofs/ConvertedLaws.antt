-- The number, the location and the cells of the certificates' call keep its promise. Assumes nothing.
use Prim.Native.Nat.{ℕ}
use mathlib.Core.Path.{◌≡◌, sym, ap, ◌∙◌}
use mathlib.Core.List.{List}
use borrow.Author.Tests.{eq-eqb, ne_eqb}
use Rattle.std.specs.Prelude.{Ok, Err}
use Rattle.answers.specs.declared.Refusal.{Refusal}
use Rattle.answers.specs.Answers.{number_of, location_of}
use Rattle.answers.specs.Verdict.{Verdict, accepted, refused}
use Rattle.answers.proofs.AnswerLaws.{refusal-refuses}
use Rattle.certificate_calendar.specs.declared.Date.{Date}
use Rattle.certificate_cells.specs.declared.filled_cells.Cells.{Cells}
use Rattle.certificate_cells.specs.Cells.{items_of}
use Rattle.certificates.specs.Verdict.{certificates_verdict}
use Rattle.certificates.specs.Filled.{filled_cells}
use Rattle.certificates.specs.Promise.{Converted}
use Rattle.exports.specs.CellNumbers.{numbers_of}
use Rattle.exports.specs.Converted.{ConvertedForC}

module _ (valuation : Date) (s before : List ℕ) where
  -- a refusal is the verdict on the certificates; it has no cells, and the list stays
  pub converted-refused : (r : Refusal) (number location : ℕ) → Converted valuation s (Err r) → number ≡ number_of r → location ≡ location_of r
      → ConvertedForC valuation s before number location 0 before
  unfolding refused filled_cells
  converted-refused r number location kept e f =
      let some : (certificates_verdict valuation s).number ≡ 0 → ⊥ = rw (← kept.answer-is) (refusal-refuses r) in
      let stays = ne_eqb (certificates_verdict valuation s).number 0 some in
      record {
        number_is = e ∙ ap (λ (v : Verdict). v.number) kept.answer-is;
        location-is = f ∙ ap (λ (v : Verdict). v.location) kept.answer-is;
        count-is = rw stays;
        list-is = rw stays;
      }

  -- the cells that `to_cells` promises, and their count
  pub converted-accepted : (cells : Cells) (count : ℕ) (after : List ℕ) → Converted valuation s (Ok cells) → count ≡ cells.count
      → after ≡ numbers_of (items_of cells) → ConvertedForC valuation s before 0 0 count after
  unfolding accepted
  converted-accepted cells count after kept n e =
      record {
        number_is = ap (λ (v : Verdict). v.number) kept.answer-is;
        location-is = ap (λ (v : Verdict). v.location) kept.answer-is;
        count-is = n ∙ kept.count-is;
        list-is = rw (eq-eqb (certificates_verdict valuation s).number 0 (sym (ap (λ (v : Verdict). v.number) kept.answer-is)))
            (e ∙ ap numbers_of kept.cells_are);
      }
