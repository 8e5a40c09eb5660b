-- The call that splits a filing into a list of places (01:45): its answer, and what the list holds after it. Definitions only.
use Rattle.std.specs.Prelude.{ℕ, ◌≡◌, cond, Result, List, ◌++◌, length, take, drop}
use Rattle.answers.specs.declared.Refusal.{Refusal}
use Rattle.answers.specs.Answers.{verdict_of}
use Rattle.filing_decode.specs.Contents.{contents_of}
use Rattle.form.specs.declared.sub_balances.SubBalance.{SubBalance}
use Rattle.form.specs.PlaceOrder.{sub_balance_count}
use Rattle.shares.specs.Places.{places_of}
use Rattle.share_list.specs.Outcomes.{split_verdict, split_accepts}

-- the list after the call: as it was on a refusal, else the thirty-six places and then the rest as it was
unfoldable pub places_after : List ℕ → List SubBalance → List SubBalance
places_after s l = cond (split_accepts s (length l)) (places_of (contents_of s).cells ++ drop sub_balance_count l) l

-- what the call answers on a filing and a list, and what it leaves in the list
pub record SplitOf {A : Type 0} (s : List ℕ) (before : List SubBalance) (answer : Result A Refusal) (after : List SubBalance) : Type 0 where
  pub verdict : verdict_of answer ≡ split_verdict s (length before)
  pub places : after ≡ places_after s before

-- the same where the list is the first `count` places of an array: the others are as they were
pub record SplitFirst {A : Type 0} (s : List ℕ) (before : List SubBalance) (count : ℕ) (answer : Result A Refusal) (after : List SubBalance) : Type 0 where
  pub split : SplitOf s (take count before) answer (take count after)
  pub others : drop count after ≡ drop count before
