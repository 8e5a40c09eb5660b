-- The ways out of the call that splits a filing into a list keep its promise. Assumes nothing.
use Prim.Native.Nat.{ℕ, ◌≤◌, ◌<◌}
use mathlib.Core.Path.{◌≡◌, sym, ap, ◌∙◌}
use mathlib.Core.List.{List, ◌++◌}
use borrow.Author.Tests.{eq-eqb, ne_eqb}
use lib.ListN.{length, take, drop}
use lib.Seq.{length-take-le}
use Rattle.lists.proofs.TableLaws.{table-length}
use Rattle.std.specs.Prelude.{Ok, Err}
use Rattle.answers.specs.declared.Refusal.{Refusal}
use Rattle.answers.specs.declared.Refusal.TheVariants.{ListTooShort}
use Rattle.answers.specs.Verdict.{accepted, refused}
use Rattle.answers.specs.Answers.{number_of, location_of}
use Rattle.answers.proofs.VerdictLaws.{number-of, list-short, list-long}
use Rattle.answers.proofs.AnswerLaws.{refusal-refuses}
use Rattle.filing_contents.specs.Contents.{Contents}
use Rattle.filing_decode.specs.Contents.{contents_of}
use Rattle.filing.specs.Verdict.{filing_verdict}
use Rattle.form.specs.declared.sub_balances.SubBalance.{SubBalance}
use Rattle.form.specs.PlaceOrder.{sub_balance_count}
use Rattle.shares.specs.Places.{place_at, places_of}
use Rattle.share_list.specs.Outcomes.{split_verdict, split_accepts}
use Rattle.share_list.specs.Split.{places_after, SplitOf}

-- there are as many places as a list's part that they replace
pub places-fit : (cells : List ℕ) (l split : List SubBalance) → sub_balance_count ≤ length l → split ≡ places_of cells → length (take sub_balance_count l) ≡ length split
unfolding places_of
places-fit cells l split h e =
    length-take-le sub_balance_count l h ∙ sym (ap (λ (x : List SubBalance). length x) e ∙ table-length 0 sub_balance_count (place_at cells))

module _ (s : List ℕ) (l : List SubBalance) where
  -- a refusal leaves the list
  split_refused : (r : Refusal) → refused (number_of r) (location_of r) ≡ split_verdict s (length l) → SplitOf {A = Unit {0}} s l (Err r) l
  unfolding places_after split_accepts
  split_refused r e =
      let other = ne_eqb (split_verdict s (length l)).number 0 (λ z. refusal-refuses r (ap number-of e ∙ z)) in
      record { verdict = e; places = rw other }

  -- a list under thirty-six places, whatever the filing
  pub split_short : length l < sub_balance_count → SplitOf {A = Unit {0}} s l (Err (ListTooShort (length l))) l
  unfolding split_verdict
  split_short h = split_refused (ListTooShort (length l)) (list-short sub_balance_count (length l) (filing_verdict s) h)

  module _ (h : sub_balance_count ≤ length l) where
    -- else the filing decides
    split_filing : filing_verdict s ≡ split_verdict s (length l)
    unfolding split_verdict
    split_filing = list-long sub_balance_count (length l) (filing_verdict s) h

    pub split_faulty : (r : Refusal) → refused (number_of r) (location_of r) ≡ filing_verdict s → SplitOf {A = Unit {0}} s l (Err r) l
    split_faulty r e = split_refused r (e ∙ split_filing)

    -- an accepted filing's places stand in the list, and the rest is left
    pub split_written : accepted ≡ filing_verdict s → {k : Contents} → k ≡ contents_of s → (after : List SubBalance)
        → after ≡ places_of k.cells ++ drop sub_balance_count l → SplitOf {A = Unit {0}} s l (Ok tt) after
    unfolding places_after split_accepts accepted
    split_written e {k} is after w =
        let taken = eq-eqb (split_verdict s (length l)).number 0 (ap number-of (sym (e ∙ split_filing))) in
        record { verdict = e ∙ split_filing; places = w ∙ rw (taken, is) }
