-- Values and totals of a filing: lower ≤ exact ≤ upper, and their widths (01:58). Assumes nothing.
use Prim.Native.Nat.{ℕ, ◌+◌, ◌*◌, ◌≤◌, ◌<◌}
use mathlib.Core.Bool.{Bool}
use Rattle.fraction.specs.Fraction.{Encloses}
use Rattle.fraction.specs.Totals.{total_where}
use Rattle.fraction.proofs.EnclosureLaws.{total-encloses}
use Rattle.filing_contents.specs.Contents.{Contents}
use Rattle.filing_contents.specs.Valid.{Valid}
use Rattle.form.specs.PlaceOrder.{sub_balance_count}
use Rattle.shares.specs.SubBalances.{balance_at}
use Rattle.shares.specs.Places.{place_at}
use Rattle.pricing.specs.Rounding.{down, up}
use Rattle.valuation.specs.Exact.{exact_value_at}
use Rattle.value_numbers.specs.Run.{value_at, total_by}
use Rattle.value_places.proofs.PlaceTermsLaws.{deposit-limits}
use Rattle.value_places.proofs.HeldLaws.{held-encloses, held-width}

-- lower ≤ exact ≤ upper for each place and scenario
pub value_at-encloses : (k : Contents) (scenario place : ℕ)
    → Encloses (value_at down k scenario place) (exact_value_at k scenario place) (value_at up k scenario place)
unfolding value_at exact_value_at
value_at-encloses k scenario place = held-encloses k place (place_at k.cells place) scenario

-- and for the total over any places
pub total_by-encloses : (test : ℕ → Bool) (k : Contents) (scenario : ℕ)
    → Encloses (total_by down test k scenario) (total_where test (exact_value_at k scenario) sub_balance_count) (total_by up test k scenario)
unfolding total_by
total_by-encloses test k scenario =
    total-encloses test (value_at down k scenario) (value_at up k scenario) (exact_value_at k scenario) sub_balance_count (value_at-encloses k scenario)

-- 250 × (upper - lower) ≤ balance + 500
pub value_at-width : (k : Contents) → Valid k → (scenario place : ℕ) → place < sub_balance_count
    → 250 * value_at up k scenario place ≤ 250 * value_at down k scenario place + (balance_at k.cells place + 500)
unfolding value_at place_at
value_at-width k v scenario place h = held-width k place (place_at k.cells place) (deposit-limits k v place h) scenario
