-- A refusal has a number above 0, so an answer whose verdict has number 0 is no refusal.
-- Assumes nothing.
use native.Mathlib.Omega.{arith}
use mathlib.Core.Path.{◌≡◌, refl, sym, ap, ◌∙◌}
use mathlib.Core.Bool.{true, false, true≢false}
use Rattle.std.specs.Prelude.{Result, Ok, Err, is_err}
use Rattle.answers.specs.declared.Refusal.{Refusal}
use Rattle.answers.specs.declared.Refusal.TheVariants.{RecordIncomplete, RecordMisshapen, CellUnlisted, Repeated, PathBesideFlat, AmendmentRepeated, OverLimit, TiersUnsound, SheetMissing, LiborMissing, CouponOutsideClass, MonthsOutsideRow, AboveColumnSum, TotalDiffers, ListTooShort, NoSuchDay, NotOutstanding, TooManyMonths, OutsidePlaceLimits, LineFaulty}
use Rattle.answers.specs.Verdict.{Verdict, accepted, refused, first_refusal}
use Rattle.answers.specs.Answers.{number_of, location_of, verdict_of}
use Rattle.answers.proofs.VerdictLaws.{number-of, first-refused}

-- every refusal has a number above 0
pub refusal-numbered : (r : Refusal) → number_of r ≡ 0 → ⊥
refusal-numbered (RecordIncomplete at) h = absurd (omega arith)
refusal-numbered (RecordMisshapen at) h = absurd (omega arith)
refusal-numbered (CellUnlisted at) h = absurd (omega arith)
refusal-numbered (Repeated at) h = absurd (omega arith)
refusal-numbered (PathBesideFlat at) h = absurd (omega arith)
refusal-numbered (AmendmentRepeated at) h = absurd (omega arith)
refusal-numbered (OverLimit at) h = absurd (omega arith)
refusal-numbered (TiersUnsound at) h = absurd (omega arith)
refusal-numbered (SheetMissing at) h = absurd (omega arith)
refusal-numbered (LiborMissing at) h = absurd (omega arith)
refusal-numbered (CouponOutsideClass at) h = absurd (omega arith)
refusal-numbered (MonthsOutsideRow at) h = absurd (omega arith)
refusal-numbered (AboveColumnSum at) h = absurd (omega arith)
refusal-numbered (TotalDiffers at) h = absurd (omega arith)
refusal-numbered (ListTooShort at) h = absurd (omega arith)
refusal-numbered (NoSuchDay at) h = absurd (omega arith)
refusal-numbered (NotOutstanding at) h = absurd (omega arith)
refusal-numbered (TooManyMonths at) h = absurd (omega arith)
refusal-numbered (OutsidePlaceLimits at) h = absurd (omega arith)
refusal-numbered (LineFaulty at) h = absurd (omega arith)

-- so its verdict has
pub refusal-refuses : (r : Refusal) → (refused (number_of r) (location_of r)).number ≡ 0 → ⊥
unfolding refused
refusal-refuses r h = refusal-numbered r h

-- a refusal before other verdicts
pub refusal-first : (r : Refusal) {v : Verdict} (next : Verdict) → refused (number_of r) (location_of r) ≡ v
    → refused (number_of r) (location_of r) ≡ first_refusal v next
refusal-first r next e = e ∙ sym (first-refused _ next (λ z. refusal-refuses r (ap number-of e ∙ z)))

-- the number of an answer's verdict: above 0 just where it is a refusal
pub refused-number : {A : Type 0} (r : Result A Refusal) → is_err r ≡ true → (verdict_of r).number ≡ 0 → ⊥
refused-number (Ok x) e z = absurd (true≢false (sym e))
refused-number (Err r) e z = refusal-refuses r z

pub accepted-number : {A : Type 0} (r : Result A Refusal) → is_err r ≡ false → (verdict_of r).number ≡ 0
unfolding accepted
accepted-number (Ok x) e = refl
accepted-number (Err r) e = absurd (true≢false e)
