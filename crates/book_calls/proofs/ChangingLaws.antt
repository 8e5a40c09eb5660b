-- Changes made in turn: what is still to be made gives the book of all. Assumes nothing.
use Prim.Native.Nat.{ℕ, suc, ◌+◌, ◌-◌, ◌<◌}
use mathlib.Core.Path.{◌≡◌, refl, sym, ap, ◌∙◌}
use mathlib.Core.Bool.{not}
use mathlib.Core.List.{List}
use native.Mathlib.Nat.{sub-zero}
use native.Mathlib.Numerals.{add-one}
use native.Mathlib.Omega.{arith}
use borrow.Author.Tests.{eq-eqb, ne_eqb}
use Rattle.lists.specs.Ranges.{first_from}
use Rattle.lists.specs.Tables.{table_from}
use Rattle.lists.proofs.RangeLaws.{search-here, search-next, search-end}
use Rattle.std.specs.Prelude.{Ok, Err, None, Some}
use Rattle.answers.specs.declared.Refusal.{Refusal}
use Rattle.answers.specs.Verdict.{Verdict, accepted}
use Rattle.answers.proofs.AnswerLaws.{refusal-refuses}
use Rattle.answers.proofs.VerdictLaws.{number-of, Untried, tried-start, tried_here, tried-next, tried-all, first-passed, first-refused}
use Rattle.filing.specs.Verdict.{filing_verdict}
use Rattle.book_state.specs.declared.Book.{Book}
use Rattle.book_promise.specs.Changes.{change_verdict, book_after_all}
use Rattle.book_promise.specs.Promise.{Kept, OpenedOf, ChangedOf}
use Rattle.book_calls.specs.declared.book_changes.NotChanged.{NotChanged}
use Rattle.book_calls.specs.Changing.{change_count, change_at, changes_of, changes_verdict, refused_change, changes_made, book_verdict, made_of, ChangedAll, BookOf}

module _ (opened : Book) (l : List ℕ) where
  abbrev verdict_at : ℕ → Verdict
  verdict_at k = change_verdict (change_at l k)

  -- before change k: none is refused, and those still to be made give the book of all and the count
  pub record Changing (k : ℕ) (b : Book) : Type 0 where
    pub untried : Untried verdict_at (change_count l) k
    pub made : changes_made l ≡ first_from k (change_count l - k) (refused_change l)
    pub rest : book_after_all opened (table_from 0 (change_count l) (change_at l)) ≡ book_after_all b (table_from k (change_count l - k) (change_at l))
    pub kept : (s : List ℕ) → Kept s opened → Kept s b

  pub changing-start : Changing 0 opened
  unfolding changes_made
  changing-start = record { untried = tried-start verdict_at (change_count l); made = rw sub-zero; rest = rw sub-zero; kept = λ s h. h }

  module _ (k : ℕ) (b : Book) (at : Changing k b) where
    -- all are made: no change is refused, so that the verdict is acceptance, the book is the one after every change, and the search for a refused
    -- one ends behind the last
    pub changing-all : k ≡ change_count l → ChangedAll opened l (Ok (change_count l)) b
    unfolding changes_verdict changes_of book_after_all table_from
    changing-all h =
        let e : change_count l - k ≡ 0 = omega arith in
        record {
          answer-is = tried-all verdict_at (change_count l) k at.untried (omega arith);
          made-is = sym (at.made ∙ search-end (refused_change l) k (change_count l) (omega arith) ∙ h);
          book-is = sym (at.rest ∙ rw e);
          kept = at.kept;
          left-is = tt;
        }

    module _ (h : k < change_count l) where
      -- change k is refused, and those before it are not: its refusal is the first of all, k changes were made, and the book is as it was opened
      pub changing-refused : {after : Book} (r : Refusal) → ChangedOf {A = Unit {0}} b (change_at l k) (Err r) after
          → ChangedAll opened l (Err (record { refusal = r; made = k; book = Some opened })) opened
      unfolding changes_verdict refused_change
      changing-refused r c =
          let z : (verdict_at k).number ≡ 0 → ⊥ = λ e. refusal-refuses r (ap number-of c.answer-is ∙ e) in
          record {
            answer-is = c.answer-is ∙ tried_here verdict_at (change_count l) k at.untried h z;
            made-is = sym (at.made ∙ search-here (refused_change l) k (change_count l) h (ap not (ne_eqb _ 0 z)));
            book-is = tt;
            kept = tt;
            left-is = (refl, refl);
          }

      -- change k is made
      pub changing-next : {after : Book} (x : Unit {0}) → ChangedOf b (change_at l k) (Ok x) after → Changing (k + 1) after
      unfolding book_after_all table_from refused_change accepted
      changing-next x c =
          let e : change_count l - k ≡ suc (change_count l - (k + 1)) = omega arith in
          let z : (verdict_at k).number ≡ 0 = ap number-of (sym c.answer-is) in
          record {
            untried = tried-next verdict_at (change_count l) k at.untried h z;
            made = at.made ∙ search-next (refused_change l) k (change_count l) h (ap not (eq-eqb _ 0 z));
            rest = at.rest ∙ rw (e, add-one, c.book-is);
            kept = λ s o. c.kept s (at.kept s o);
          }

-- a refused filing opens no book that is changed: its verdict comes before that of the changes, and none is made
pub opening-refused : (s l : List ℕ) (r : Refusal) → OpenedOf s (Err r) → BookOf s l (Err (record { refusal = r; made = 0; book = None }))
unfolding book_verdict made_of
opening-refused s l r o =
    let some : (filing_verdict s).number ≡ 0 → ⊥ = λ e. refusal-refuses r (ap number-of o.answer-is ∙ e) in
    record {
      answer-is = o.answer-is ∙ sym (first-refused (filing_verdict s) (changes_verdict l) some);
      made-is = rw (ne_eqb (filing_verdict s).number 0 some);
      book-is = tt;
      kept = tt;
      left-is = rw (ne_eqb (filing_verdict s).number 0 some);
    }

-- an accepted one opens the book that is changed: its verdict refuses nothing, so that answer, book and count are those of the changes
module _ (s l : List ℕ) (b : Book) (o : OpenedOf s (Ok b)) where
  none : (filing_verdict s).number ≡ 0
  unfolding accepted
  none = ap number-of (sym o.answer-is)

  passed : book_verdict s l ≡ changes_verdict l
  unfolding book_verdict
  passed = first-passed (filing_verdict s) (changes_verdict l) none

  pub opening-changed : (k : ℕ) (after : Book) → ChangedAll b l (Ok k) after → BookOf s l (Ok (record { book = after; made = k }))
  unfolding made_of
  opening-changed k after c =
      record {
        answer-is = c.answer-is ∙ sym passed;
        made-is = rw (eq-eqb (filing_verdict s).number 0 none) c.made-is;
        book-is = rw (← o.book-is) c.book-is;
        kept = c.kept s o.kept;
        left-is = tt;
      }

  pub opening-stopped : (n : NotChanged) (after : Book) → ChangedAll b l (Err n) after → BookOf s l (Err n)
  unfolding made_of
  opening-stopped n after c =
      record {
        answer-is = c.answer-is ∙ sym passed;
        made-is = rw (eq-eqb (filing_verdict s).number 0 none) c.made-is;
        book-is = tt;
        kept = tt;
        left-is = rw (eq-eqb (filing_verdict s).number 0 none) (c.left-is.1 ∙ ap Some o.book-is);
      }
