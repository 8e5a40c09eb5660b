-- Tables of the multipliers of discount factors: they hold these factors, and can be walked by. Assumes nothing.
use Prim.Native.Nat.{ℕ, ◌*◌, ◌≤◌, ◌<◌}
use mathlib.Core.Path.{◌≡◌}
use mathlib.Core.List.{List}
use lib.ListN.{get_or}
use Rattle.form.specs.Shift.{scenario_count}
use Rattle.pricing.specs.Scales.{par}
use Rattle.pricing.specs.Rounding.{Rounding, down, up}
use Rattle.price_multipliers.specs.Multipliers.{factor_of}
use Rattle.price_multipliers.proofs.DiscountLaws.{factor-back, discounts-lower, discounts-upper}
use Rattle.price_factors.specs.Inner.Factors.{AtMostPar}
use Rattle.price_multipliers.specs.Inner.Tables.{HoldsFactors, Discounting}

-- a table that holds the multipliers of a list's factors, over the months of a term
module _ (ρ : Rounding) (factors discounts : List ℕ) (months : ℕ) (holds : HoldsFactors ρ months factors discounts) where
  -- has these factors
  pub held-factor : (i : ℕ) → i < scenario_count * months → factor_of ρ (get_or discounts i 0) ≡ get_or factors i 0
  held-factor i h = rw (holds i h) (factor-back ρ (get_or factors i 0))

  at-most-par : AtMostPar factors → (i : ℕ) → i < scenario_count * months → factor_of ρ (get_or discounts i 0) ≤ par
  at-most-par p i h = rw (held-factor i h) (p i)

-- the lower and the upper table of a term
pub lower-discounting : (factors discounts : List ℕ) (months : ℕ) → HoldsFactors down months factors discounts → AtMostPar factors → Discounting down months discounts
lower-discounting factors discounts months holds p =
    record { are = λ i h. rw (holds i h) (discounts-lower (get_or factors i 0)); at-most-par = at-most-par down factors discounts months holds p }

pub upper-discounting : (factors discounts : List ℕ) (months : ℕ) → HoldsFactors up months factors discounts → AtMostPar factors
    → ((i : ℕ) → i < scenario_count * months → 0 < get_or factors i 0) → Discounting up months discounts
upper-discounting factors discounts months holds p more =
    record { are = λ i h. rw (holds i h) (discounts-upper (get_or factors i 0) (more i h)); at-most-par = at-most-par up factors discounts months holds p }
