-- Every change keeps the promise of a book, opening establishes it, and so it holds after any sequence of changes. Assumes nothing.
use Prim.Native.Nat.{ℕ, ◌<◌}
use mathlib.Core.Path.{◌≡◌, refl, ap, subst}
use mathlib.Core.Logic.{inl, inr}
use mathlib.Core.Bool.{Bool, true, false, cond}
use mathlib.Core.List.{List, [], ◌∷◌}
use native.Mathlib.Omega.{arith}
use borrow.Author.Tests.{ltb-true}
use Rattle.form.specs.PlaceOrder.{sub_balance_count}
use Rattle.std.specs.Prelude.{Ok, Err}
use Rattle.answers.specs.declared.Refusal.{Refusal}
use Rattle.answers.specs.declared.Refusal.TheVariants.{OutsidePlaceLimits}
use Rattle.answers.specs.Verdict.{Verdict, accepted, refused_if}
use Rattle.filing_contents.specs.Contents.{Contents}
use Rattle.filing_decode.specs.Contents.{contents_of}
use Rattle.filing.specs.Verdict.{filing_verdict}
use Rattle.filing.proofs.ReadLaws.{accepted-contents}
use Rattle.filing.proofs.AcceptedLaws.{accepted-valid}
use Rattle.book_state.specs.declared.Book.{Book}
use Rattle.book_state.specs.BookPlaces.{with_place}
use Rattle.book_promise.specs.Books.{empty_book, opened_book}
use Rattle.book_promise.specs.Changes.{Change, set_place, clear_place, neither_at, changed_place, fits_change, held_after, change_verdict, book_after, book_after_all}
use Rattle.book_promise.specs.Standing.{Standing, Holds}
use Rattle.book_promise.specs.Promise.{Kept, ChangedOf, BookPromise}
use Rattle.book_promise.proofs.PlaceLaws.{fits-place, fits-held}
use Rattle.book_promise.proofs.StandingLaws.{empty_stands, changed-stands}
use Rattle.book_promise.proofs.KeptLaws.{standing-kept}

-- a change that the place takes is at one of the thirty-six places, and the place then holds nothing or a deposit that it takes
fits-at : (c : Change) → fits_change c ≡ true → changed_place c < sub_balance_count
unfolding fits_change changed_place
fits-at (set_place place balance coupon months penalty) h = fits-place place balance coupon months penalty h
fits-at (clear_place place) h = ltb-true place sub_balance_count h
fits-at (neither_at place) h = let never : ◌≡◌ {A = ℕ} 0 1 = cc in omega arith

holds-change : (k : Contents) (b : Book) → Standing k b → (c : Change) → fits_change c ≡ true → Holds k (changed_place c) (held_after b c)
unfolding fits_change changed_place held_after
holds-change k b stands (set_place place balance coupon months penalty) h = inr (fits-held place balance coupon months penalty h k b stands.under)
holds-change k b stands (clear_place place) h = inl refl
holds-change k b stands (neither_at place) h = inl refl

-- the book after a change stands
after-stands : (k : Contents) (b : Book) → Standing k b → (c : Change) → Standing k (book_after b c)
unfolding book_after
after-stands k b stands c = by (fits_change c) refl
  where
    by : (t : Bool) → fits_change c ≡ t → Standing k (cond t (with_place b (changed_place c) (held_after b c)) b)
    by true h = changed-stands k b stands (changed_place c) (fits-at c h) (held_after b c) (holds-change k b stands c h)
    by false h = stands

pub after_kept : (s : List ℕ) (b : Book) → Kept s b → (c : Change) → Kept s (book_after b c)
after_kept s b kept c = standing-kept s (book_after b c) (after-stands (contents_of s) b kept.standing c)

-- the book that an accepted filing opens is kept
pub opened-kept : (s : List ℕ) → filing_verdict s ≡ accepted → Kept s (opened_book s)
unfolding opened_book accepted
opened-kept s a =
    rw (← accepted-contents s (ap (λ (v : Verdict). v.number) a)) (standing-kept s (empty_book (contents_of s)) (empty_stands (contents_of s) (accepted-valid s a)))

-- after any sequence of changes
all-kept : (s : List ℕ) (b : Book) → Kept s b → (cs : List Change) → Kept s (book_after_all b cs)
unfolding book_after_all
all-kept s b kept [] = kept
all-kept s b kept (c ∷ cs) = all-kept s (book_after b c) (after_kept s b kept c) cs

pub book-promise : BookPromise
unfolding BookPromise
book-promise s a changes = all-kept s (opened_book s) (opened-kept s a) changes

-- the two ways out of a change: refused, the book as it was; or taken
module _ (b : Book) (c : Change) where
  pub change-refused : fits_change c ≡ false → (r : Refusal) → r ≡ OutsidePlaceLimits (changed_place c) → ChangedOf {A = Unit {0}} b c (Err r) b
  unfolding change_verdict refused_if book_after
  change-refused h r is = record { answer-is = rw (is, h); book-is = rw h; kept = λ s kept. kept }

  pub change-taken : fits_change c ≡ true → (after : Book) → after ≡ with_place b (changed_place c) (held_after b c) → ChangedOf {A = Unit {0}} b c (Ok tt) after
  unfolding change_verdict refused_if book_after
  change-taken h after book =
      record {
        answer-is = rw h;
        book-is = rw h book;
        kept = λ s kept. rw book (subst (λ (t : Bool). Kept s (cond t (with_place b (changed_place c) (held_after b c)) b)) h (after_kept s b kept c));
      }
