-- Opening a book: the yields that it is opened with are within their limit; the book is the one that the bytes open, and kept. Assumes nothing.
use Prim.Native.Nat.{ℕ}
use mathlib.Core.Path.{◌≡◌, sym, ap, ◌∙◌}
use mathlib.Core.List.{List}
use Rattle.form.specs.Limits.{months_limit}
use Rattle.std.specs.Prelude.{Ok, Err}
use Rattle.answers.specs.declared.Refusal.{Refusal}
use Rattle.answers.specs.Verdict.{Verdict, accepted, refused}
use Rattle.answers.specs.Answers.{number_of, location_of}
use Rattle.filing_contents.specs.Contents.{Contents}
use Rattle.filing_decode.specs.Contents.{contents_of}
use Rattle.filing.specs.Readings.{read_over}
use Rattle.filing.specs.Verdict.{filing_verdict}
use Rattle.filing.proofs.ReadLaws.{accepted-contents}
use Rattle.filing.proofs.ReadingLaws.{reading-valid}
use Rattle.pricing.specs.declared.Bounds.{Bounds}
use Rattle.pricing.specs.Rounding.{down, up}
use Rattle.price_factors.specs.Inner.Factors.{factors_by, WithinRates}
use Rattle.value_places.proofs.HeldLaws.{yields_within}
use Rattle.book_state.specs.declared.Book.{Book}
use Rattle.book_state.specs.BookPlaces.{empty_under}
use Rattle.book_promise.specs.Books.{empty_book, opened_book}
use Rattle.book_promise.specs.Promise.{OpenedOf}
use Rattle.book_promise.proofs.FactorLaws.{filing-factors}
use Rattle.book_promise.proofs.ChangeLaws.{opened-kept}

-- the yields of an accepted filing are within their limit
pub opened-yields : (s : List ℕ) (k before : Contents) → accepted ≡ filing_verdict s → k ≡ read_over s before → WithinRates k.yields
opened-yields s k before v r = yields_within k (reading-valid s k before v r)

-- what was read, with its factors, is the book that the bytes open
pub opened : (s : List ℕ) (b : Book) {k : Contents} {factors : Bounds (List ℕ)} → accepted ≡ filing_verdict s → k ≡ contents_of s
    → factors.lower ≡ factors_by down k.yields months_limit → factors.upper ≡ factors_by up k.yields months_limit
    → b ≡ empty_under k.rates k.tiers factors
    → OpenedOf s (Ok b)
unfolding opened_book empty_book accepted
opened s b v said below above is =
    let held = said ∙ accepted-contents s (ap (λ (w : Verdict). w.number) (sym v)) in
    let book : b ≡ opened_book s = is ∙ rw (below, above, ← filing-factors down _, ← filing-factors up _, held) in
    record { answer-is = v; book-is = book; kept = rw book (opened-kept s (sym v)) }

-- a refused filing opens no book
pub opening-refused : (s : List ℕ) (r : Refusal) → refused (number_of r) (location_of r) ≡ filing_verdict s → OpenedOf s (Err r)
opening-refused s r v = record { answer-is = v; book-is = tt; kept = tt }
