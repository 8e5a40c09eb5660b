-- Closed pairs of a filing with amendments and a filing with only its surviving cells (02:CR 6), and filings that are no such, byte by byte.
-- Definitions only.
use Rattle.std.specs.Prelude.{ℕ, ◌+◌, ◌*◌, ◌/◌, ◌≡◌, List, [], ◌∷◌, ◌++◌}
use Rattle.filing.specs.Verdict.{Accepted}
use Rattle.theorem_cases.specs.Filings.{filed, fined, amendment, yield_sheet, libor_sheet, rate_sheet, path_sheet, tier_sheet}
use Rattle.theorem_survivors.specs.Survivors.{Surviving}
use Rattle.theorem_survivors.specs.Composed.{only_survivors}

-- a filing, and one with only its surviving cells
pub record Pair : Type 0 where
  pub filing : List ℕ
  pub survivors : List ℕ

abbrev pub with-survivors : List ℕ → List ℕ → Pair
with-survivors s t = record { filing = s; survivors = t }

-- what is claimed of a pair
abbrev pub Survives : Pair → Type 0
Survives p = Accepted p.filing × Surviving p.filing p.survivors

-- the sheets: CD yields 10, 20, .. 1,200; rates 100, 200, 300, or by month 1,000, 1,001, .. 1,359; two tiers; LIBOR yields 20, 40, .. 2,400 (02:CR 8)
abbrev pub yields : List ℕ
yields = yield_sheet (λ (t : ℕ). 10 * t)

abbrev pub rates : List ℕ
rates = rate_sheet (λ (j : ℕ). 100 * j)

abbrev pub path : List ℕ
path = path_sheet (λ (i : ℕ). 1000 + i)

abbrev pub tiers : List ℕ
tiers = tier_sheet ((0, 40) ∷ (100, 130) ∷ [])

abbrev pub libor : List ℕ
libor = libor_sheet (λ (t : ℕ). 20 * t)

-- amendments before, between and behind the sheets, the highest number in front; cell 602 is withdrawn
abbrev pub around_sheets : Pair
around_sheets =
    with-survivors
    (amendment 601 2 0 30 ++ filed ((601, 10) ∷ (602, 5) ∷ (608, 1) ∷ []) ++ yields ++ amendment 601 1 0 20 ++ rates ++ amendment 645 1 0 30
    ++ amendment 602 1 1 0)
    (yields ++ rates ++ filed ((601, 30) ∷ (608, 1) ∷ (645, 30) ∷ []))

-- all of its cells are withdrawn, behind rates by month
abbrev pub nothing_left : Pair
nothing_left = with-survivors (filed ((601, 10) ∷ (645, 10) ∷ []) ++ yields ++ path ++ amendment 601 1 1 0 ++ amendment 645 1 1 0) (path ++ yields)

-- a coupon by kind 6, amended in hundredths behind the tiers: by kind 6 it is tenfold, by kind 1 it is as amended
abbrev pub coupon_amended : List ℕ
coupon_amended = fined ((605, 1234) ∷ []) ++ yields ++ rates ++ tiers ++ amendment 605 1 0 125

abbrev pub coupon_fine : Pair
coupon_fine = with-survivors coupon_amended (tiers ++ fined ((605, 1250) ∷ []) ++ yields ++ rates)

abbrev pub coupon_filed : Pair
coupon_filed = with-survivors coupon_amended (filed ((605, 125) ∷ []) ++ yields ++ rates ++ tiers)

-- borrowings (02:CR 8): one amended, one withdrawn, and the LIBOR sheet that the amended one needs
abbrev pub borrowing_amended : List ℕ
borrowing_amended =
    libor ++ amendment 675 1 0 30 ++ filed ((675, 10) ∷ (679, 5) ∷ (678, 499) ∷ (711, 1) ∷ []) ++ yields ++ rates ++ amendment 679 1 1 0
    ++ amendment 715 1 0 30

abbrev pub borrowed : Pair
borrowed = with-survivors borrowing_amended (yields ++ rates ++ filed ((715, 30) ∷ (711, 1) ∷ (678, 499) ∷ (675, 30) ∷ []) ++ libor)

-- the only borrowing is withdrawn: neither filing needs a LIBOR sheet
abbrev pub none_borrowed : Pair
none_borrowed = with-survivors (filed ((679, 5) ∷ []) ++ yields ++ rates ++ amendment 679 1 1 0) (rates ++ yields)

-- each filing is accepted, and its pair has only its surviving cells
pub record PairsSurvive : Type 0 where
  pub around-sheets : Survives around_sheets
  pub none_left : Survives nothing_left
  pub coupon-fine : Survives coupon_fine
  pub coupon-filed : Survives coupon_filed
  pub borrowings-kept : Survives borrowed
  pub none-borrowed : Survives none_borrowed

-- the last yield, the last rate, the last rate of a path, the last withdrawal or the last LIBOR yield differs; the LIBOR sheet is lost, or stands where there
-- was none; a withdrawn cell, or the coupon that was amended, stands: none of these has only the surviving cells
pub record OthersFail : Type 0 where
  pub other-yield : Surviving coupon_amended (filed ((605, 125) ∷ []) ++ yield_sheet (λ (t : ℕ). 10 * t + t / 120) ++ rates ++ tiers) → ⊥
  pub other-rate : Surviving coupon_amended (filed ((605, 125) ∷ []) ++ yields ++ rate_sheet (λ (j : ℕ). 100 * j + j / 3) ++ tiers) → ⊥
  pub other_path : Surviving nothing_left.filing (path_sheet (λ (i : ℕ). 1000 + i + i / 359) ++ yields) → ⊥
  pub other-tier : Surviving coupon_amended (filed ((605, 125) ∷ []) ++ yields ++ rates ++ tier_sheet ((0, 40) ∷ (100, 131) ∷ [])) → ⊥
  pub other-libor : Surviving borrowing_amended
      (yields ++ rates ++ filed ((715, 30) ∷ (711, 1) ∷ (678, 499) ∷ (675, 30) ∷ []) ++ libor_sheet (λ (t : ℕ). 20 * t + t / 120)) → ⊥
  pub libor-lost : Surviving borrowing_amended (yields ++ rates ++ filed ((715, 30) ∷ (711, 1) ∷ (678, 499) ∷ (675, 30) ∷ [])) → ⊥
  pub libor-added : Surviving none_borrowed.filing (rates ++ yields ++ libor) → ⊥
  pub withdrawn-cell : Surviving nothing_left.filing (path ++ yields ++ filed ((645, 0) ∷ [])) → ⊥
  pub amended-coupon : Surviving coupon_amended (fined ((605, 1234) ∷ []) ++ yields ++ rates ++ tiers) → ⊥

-- the surviving records of a filing in their order, the amendments among them as records of kind 1
unfoldable pub ComposedCase : Type 0
ComposedCase =
    only_survivors
    (amendment 601 2 0 30 ++ filed ((601, 10) ∷ (602, 5) ∷ []) ++ rates ++ amendment 602 1 1 0 ++ fined ((605, 1234) ∷ (606, 77) ∷ []) ++ amendment 605 1 0 125)
    ≡ filed ((601, 30) ∷ []) ++ rates ++ fined ((606, 77) ∷ []) ++ filed ((605, 125) ∷ [])
