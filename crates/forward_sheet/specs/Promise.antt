-- What the forwards' call promises, for any bytes and any list lent to it (02:CR 10). Definitions only.
use Rattle.std.specs.Prelude.{ℕ, ◌≡◌, Result, List, ℤ, length, drop}
use Rattle.answers.specs.declared.Refusal.{Refusal}
use Rattle.answers.specs.Answers.{verdict_of}
use Rattle.answers.specs.Verdict.{Verdict, accepted, first_refusal, list_verdict}
use Rattle.filing_decode.specs.Contents.{contents_of}
use Rattle.filing.specs.Verdict.{filing_verdict}
use Rattle.forward_sheet.specs.Sheet.{forward_count, HoldsForwards}

-- the verdict on a list and a filing: a list under 3,990 numbers is a 10, and comes first
unfoldable pub verdict_on : List ℕ → List ℤ → Verdict
verdict_on s before = first_refusal (list_verdict forward_count (length before)) (filing_verdict s)

-- s is the filing's bytes, before and after are the list at the call and at the return
pub record ForwardsOf {A : Type 0} (s : List ℕ) (before : List ℤ) (answer : Result A Refusal) (after : List ℤ) : Type 0 where
  pub answer-is : verdict_of answer ≡ verdict_on s before
  -- a refusal changes no number
  pub refused-left : (verdict_of answer ≡ accepted → ⊥) → after ≡ before
  -- the list is as long as it was, and its numbers behind the first 3,990 are left
  pub as_long : length after ≡ length before
  pub rest-left : drop forward_count after ≡ drop forward_count before
  -- of an accepted filing the first 3,990 are pairs of forwards: which of the pairs that enclose a true rate comes back is left free
  pub holds : verdict_of answer ≡ accepted → HoldsForwards (contents_of s) after
