-- The three ways out of the forwards' call keep the promise. Assumes nothing.
use Prim.Native.Nat.{ℕ, suc, ◌-◌, ◌≤◌, ◌<◌}
use mathlib.Core.Path.{◌≡◌, refl, ap, subst, ◌∙◌}
use mathlib.Core.List.{List}
use native.Mathlib.Omega.{arith}
use lib.IntN.{ℤ}
use lib.ListN.{length}
use Rattle.form.specs.Shift.{scenario_count}
use Rattle.std.specs.Prelude.{Ok, Err}
use Rattle.answers.specs.declared.Refusal.{Refusal}
use Rattle.answers.specs.declared.Refusal.TheVariants.{ListTooShort}
use Rattle.answers.specs.Answers.{number_of, location_of}
use Rattle.answers.specs.Verdict.{accepted, refused}
use Rattle.answers.proofs.VerdictLaws.{number-of, list-short, list-long}
use Rattle.answers.proofs.AnswerLaws.{refusal-refuses}
use Rattle.filing_contents.specs.Contents.{Contents, cd_yield}
use Rattle.filing_contents.specs.Valid.{Valid}
use Rattle.filing_decode.specs.Contents.{contents_of}
use Rattle.filing.specs.Verdict.{filing_verdict}
use Rattle.price_factors.specs.Inner.Factors.{WithinRates, sheet_yield}
use Rattle.forward_sheet.specs.Sheet.{yield_growth, forward_count, HoldsForwards}
use Rattle.forward_sheet.specs.Promise.{verdict_on, ForwardsOf}
use Rattle.forward_sheet.specs.Inner.Runs.{Changed, sheet_growth}
use Rattle.forward_sheet.proofs.ChangeLaws.{changed-rest}
use Rattle.forward_sheet.proofs.SheetLaws.{Scenarios}

-- the yields of a valid filing are within their limit
pub yields_within : (k : Contents) → Valid k → WithinRates k.yields
unfolding cd_yield
yields_within k v i = let e : suc i - 1 ≡ i = omega arith in rw e at (v.yield-limit (suc i))

-- the growths of the sheet's yields are the filing's
holds-all : (k : Contents) (list : List ℤ) → Scenarios (sheet_growth k.yields) scenario_count list → HoldsForwards k list
unfolding HoldsForwards yield_growth sheet_growth sheet_yield cd_yield
holds-all k list scenarios = scenarios

-- what is promised where nothing was written
left : (s : List ℕ) (before : List ℤ) (r : Refusal) → refused (number_of r) (location_of r) ≡ verdict_on s before → ForwardsOf {A = Unit {0}} s before (Err r) before
unfolding accepted
left s before r is =
    record { answer-is = is; refused-left = λ _. refl; as_long = refl; rest-left = refl; holds = λ e. absurd (refusal-refuses r (ap number-of e)) }

-- a list under 3,990 numbers
pub short-list : (s : List ℕ) (before : List ℤ) → length before < forward_count → ForwardsOf {A = Unit {0}} s before (Err (ListTooShort (length before))) before
unfolding verdict_on
short-list s before short = left s before (ListTooShort (length before)) (list-short forward_count (length before) (filing_verdict s) short)

-- a list of 3,990 numbers or more
module _ (s : List ℕ) (before : List ℤ) (long : forward_count ≤ length before) where
  verdict-is : filing_verdict s ≡ verdict_on s before
  unfolding verdict_on
  verdict-is = list-long forward_count (length before) (filing_verdict s) long

  -- a refused filing
  pub refused-filing : (r : Refusal) → refused (number_of r) (location_of r) ≡ filing_verdict s → ForwardsOf {A = Unit {0}} s before (Err r) before
  refused-filing r read = left s before r (read ∙ verdict-is)

  -- an accepted filing: what was read is what the bytes say
  pub written-forwards : accepted ≡ filing_verdict s → (k : Contents) → k ≡ contents_of s → (after : List ℤ) → Changed 0 forward_count before after
      → Scenarios (sheet_growth k.yields) scenario_count after → ForwardsOf {A = Unit {0}} s before (Ok tt) after
  written-forwards read k says after changed scenarios =
      record {
        answer-is = read ∙ verdict-is;
        refused-left = λ none. absurd (none refl);
        as_long = changed.as_long;
        rest-left = changed-rest changed;
        holds = λ _. subst (λ (c : Contents). HoldsForwards c after) says (holds-all k after scenarios);
      }
