-- What can be wrong with the tiers of a record: refusal 11 (02:CR 1). Definitions only.
use Rattle.std.specs.Prelude.{ℕ, ◌-◌, Bool, cond, not, ◌||◌, ◌&&◌, List, leb, ltb, eqb}
use Rattle.lists.specs.Tables.{any_below}
use Rattle.form.specs.Limits.{tier_limit, withdrawal_limit}
use Rattle.record_fields.specs.Records.{record_kind, tier_count, tier_edge, tier_withdrawal}
use Rattle.record_kinds.specs.Kinds.{tiers_kind}

-- The i-th tier, from 0, does not load (02:CR 1): its withdrawal is above 600; the first edge is not 0; a later edge does not rise above the one
-- before, or its withdrawal falls
unfoldable pub unfit_tier : List ℕ → ℕ → ℕ → Bool
unfit_tier s at i =
    ltb withdrawal_limit (tier_withdrawal s at i)
    || cond (eqb i 0) (not (eqb (tier_edge s at i) 0))
    (leb (tier_edge s at i) (tier_edge s at (i - 1)) || ltb (tier_withdrawal s at i) (tier_withdrawal s at (i - 1)))

-- 11: tiers that are not 1 to 16, or of which one does not load
unfoldable pub unsound_tiers : List ℕ → ℕ → Bool
unsound_tiers s at =
    eqb (record_kind s at) tiers_kind
    && (ltb (tier_count s at) 1 || (ltb tier_limit (tier_count s at) || any_below (unfit_tier s at) (tier_count s at)))
