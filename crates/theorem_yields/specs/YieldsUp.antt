-- Two filings that say the same but for the yields of one sheet, the second's nowhere lower (02:CR 11). Definitions only.
use Rattle.std.specs.Prelude.{ℕ, ◌≤◌, ◌≡◌, List}
use Rattle.form.specs.Limits.{sheet_months}
use Rattle.filing.specs.Verdict.{Accepted}
use Rattle.filing_contents.specs.Contents.{cd_yield, libor_yield}
use Rattle.filing_decode.specs.Contents.{contents_of}

-- both filings, s and t, are accepted, and have the same cells, retail rates and tiers
pub record AcceptedAlike (s t : List ℕ) : Type 0 where
  pub first-accepted : Accepted s
  pub second-accepted : Accepted t
  pub same-cells : (contents_of t).cells ≡ (contents_of s).cells
  pub same-rates : (contents_of t).rates ≡ (contents_of s).rates
  pub same-tiers : (contents_of t).tiers ≡ (contents_of s).tiers

-- they differ only in CD yields, hundredths of a percent a year, and those of t are nowhere lower
pub record CdYieldsUp (s t : List ℕ) : Type 0 where
  pub alike : AcceptedAlike s t
  pub same-libor : (contents_of t).libor ≡ (contents_of s).libor
  pub nowhere-lower : (month : ℕ) → 1 ≤ month → month ≤ sheet_months → cd_yield (contents_of s) month ≤ cd_yield (contents_of t) month

-- they differ only in LIBOR yields, hundredths of a percent a year, and those of t are nowhere lower
pub record LiborYieldsUp (s t : List ℕ) : Type 0 where
  pub alike : AcceptedAlike s t
  pub same-cd-yields : (contents_of t).yields ≡ (contents_of s).yields
  pub nowhere-lower : (month : ℕ) → 1 ≤ month → month ≤ sheet_months → libor_yield (contents_of s) month ≤ libor_yield (contents_of t) month
