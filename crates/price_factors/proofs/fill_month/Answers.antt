-- `price_factors::fill_month` meets its contract. Assumes nothing.
use Prim.Native.Nat.{ℕ, suc, ◌+◌}
use mathlib.Core.List.{List}
use mathlib.Core.Path.{◌≡◌, ◌∙◌}
use native.Mathlib.Numerals.{add-one}
use lib.ListN.{get_or}
use Rattle.lists.specs.Tables.{table}
use Rattle.form.specs.Shift.{scenario_count, shifted_limit, shifted_rates}
use Rattle.form.proofs.ShiftLaws.{shifted-rates-le}
use Rattle.pricing.specs.Rounding.{up}
use Rattle.pricing.specs.Inner.Multipliers.{multipliers_by, chained_by, discounts_by, AtMost}
use Rattle.pricing.proofs.MultiplierLaws.{chained-at-most, upper-chained}
use Rattle.price_factors.proofs.fill_month.Goals as goal

-- the upper factors, from their chains
upper-are : (rate month : ℕ) (rates multipliers factors : List ℕ) → rates ≡ shifted_rates rate → AtMost shifted_limit rates → multipliers ≡ multipliers_by up rates
    → factors ≡ table scenario_count (λ (i : ℕ). suc (get_or (chained_by up multipliers (month + 1)) i 0))
    → factors ≡ discounts_by up (shifted_rates rate) (suc month)
upper-are rate month rates multipliers factors r h m f = f ∙ rw (m, upper-chained rates h (month + 1), r, add-one)

pub upper_multipliers-above-requires : goal.upper_multipliers-above-requires
upper_multipliers-above-requires c =
    let rates-le : AtMost shifted_limit c.shifted_rates-rates.result = rw c.shifted_rates-rates.ensures (shifted-rates-le _ c.requires.0) in
    rates-le

pub lower_factors-below-requires : goal.lower_factors-below-requires
lower_factors-below-requires c =
    let rates-le : AtMost shifted_limit c.shifted_rates-rates.result = rw c.shifted_rates-rates.ensures (shifted-rates-le _ c.requires.0) in
    (rates-le, c.upper_multipliers-above.ensures)

pub upper_factors-seven-requires : goal.upper_factors-seven-requires
upper_factors-seven-requires c =
    let rates-le : AtMost shifted_limit c.shifted_rates-rates.result = rw c.shifted_rates-rates.ensures (shifted-rates-le _ c.requires.0) in
    rw c.upper_multipliers-above.ensures (chained-at-most up _ rates-le)

-- the seven lower and the seven upper factors are those of the month's shifted yields
pub returns : goal.returns
returns c =
    let rates-le : AtMost shifted_limit c.shifted_rates-rates.result = rw c.shifted_rates-rates.ensures (shifted-rates-le _ c.requires.0) in
    let rates = c.shifted_rates-rates.ensures in (
      c.write.ensures ∙ rw (c.lower_factors-below.ensures, rates, add-one),
      c.write-2.ensures ∙ rw (upper-are c.args.rate c.args.month _ _ _ rates rates-le c.upper_multipliers-above.ensures c.upper_factors-seven.ensures),
    )
