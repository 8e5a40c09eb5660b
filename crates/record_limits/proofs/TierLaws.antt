-- What holds of tiers that 11 does not refuse.
-- Assumes nothing.
use Prim.Native.Nat.{ℕ, suc, ◌-◌, ◌≤◌, ◌<◌}
use native.Mathlib.Omega.{arith}
use mathlib.Core.Path.{◌≡◌}
use mathlib.Core.Bool.{false, ◌||◌}
use mathlib.Core.List.{List}
use borrow.Author.Tests.{ltb-false, leb-false, eq-eqb, ne_eqb}
use lib.Dec.{leb, ltb, eqb}
use Rattle.lists.specs.Tables.{any_below}
use Rattle.lists.proofs.TestLaws.{neither, any-fails}
use Rattle.form.specs.Limits.{tier_limit, withdrawal_limit}
use Rattle.record_fields.specs.Records.{record_kind, tier_count, tier_withdrawal, tier_edge}
use Rattle.record_kinds.specs.Kinds.{tiers_kind}
use Rattle.record_limits.specs.TierFaults.{unfit_tier, unsound_tiers}

-- tiers that load: 1 to 16, and each fits
pub record SoundTiers (s : List ℕ) (at : ℕ) : Type 0 where
  pub some : 1 ≤ tier_count s at
  pub few : tier_count s at ≤ tier_limit
  pub fits : (i : ℕ) → i < tier_count s at → unfit_tier s at i ≡ false

-- a tier that fits withdraws at most 600 thousandths a year
pub tier-fits : (s : List ℕ) (at i : ℕ) → unfit_tier s at i ≡ false → tier_withdrawal s at i ≤ withdrawal_limit
unfolding unfit_tier
tier-fits s at i h = ltb-false withdrawal_limit (tier_withdrawal s at i) (neither (ltb withdrawal_limit (tier_withdrawal s at i)) _ h).0

-- the edge of a later tier that fits is above the one before
pub tier-rises : (s : List ℕ) (at i : ℕ) → unfit_tier s at (suc i) ≡ false → tier_edge s at i < tier_edge s at (suc i)
unfolding unfit_tier
tier-rises s at i h =
    let before : suc i - 1 ≡ i = omega arith in
    let later : eqb (suc i) 0 ≡ false = ne_eqb (suc i) 0 (λ e. omega arith) in
    let rest = rw (before, later) at (neither (ltb withdrawal_limit (tier_withdrawal s at (suc i))) _ h).1 in
    leb-false (tier_edge s at (suc i)) (tier_edge s at i)
    (neither (leb (tier_edge s at (suc i)) (tier_edge s at i)) (ltb (tier_withdrawal s at (suc i)) (tier_withdrawal s at i)) rest).0

module _ (s : List ℕ) (at : ℕ) where
  -- 11 does not hold: the tiers load. It is one of three tests, fewer than 1, more than 16 or an unfit one among them, and none holds
  pub tiers-load : unsound_tiers s at ≡ false → record_kind s at ≡ tiers_kind → SoundTiers s at
  unfolding unsound_tiers
  tiers-load h e =
      let count = tier_count s at in
      let h1 = neither (ltb count 1) (ltb tier_limit count || any_below (unfit_tier s at) count) (simp (eq-eqb (record_kind s at) tiers_kind e) at h) in
      let h2 = neither (ltb tier_limit count) (any_below (unfit_tier s at) count) h1.1 in
      record {
        some = ltb-false count 1 h1.0;
        few = ltb-false tier_limit count h2.0;
        fits = any-fails (unfit_tier s at) count h2.1;
      }
