-- `values_in` meets its contract. Assumes nothing.
use Prim.Native.Nat.{◌≤◌}
use native.Mathlib.Omega.{arith}
use mathlib.Core.Path.{sym, ◌∙◌}
use Rattle.form.specs.Limits.{months_limit}
use Rattle.pricing.specs.Rounding.{rounding_of}
use Rattle.price_multipliers.proofs.TableLaws.{lower-discounting, upper-discounting}
use Rattle.value_places.specs.PlaceTerms.{deposit_at}
use Rattle.value_places.proofs.HeldLaws.{held_by}
use Rattle.book_values.specs.Sheets.{values_under}
use Rattle.book_values.proofs.SheetLaws.{Limits, usable-limits, values-tabled}
use Rattle.price_deposits.proofs.LevelLaws.{lent}
use Rattle.book_values.proofs.values_in.Goals as goal

pub returns-then-not-usable : goal.returns-then-not-usable
unfolding values_under
returns-then-not-usable c = rw (← c.usable.ensures, c.if-not-usable.true)

pub tiers_of-own-requires : goal.tiers_of-own-requires
tiers_of-own-requires c =
    let limits : Limits c.args.rates.now c.args.tiers c.args.factors.now.lower c.args.factors.now.upper = usable-limits _ _ _ _ (sym c.usable.ensures ∙ c.if-not-usable.false) in
    limits.tiers-within

pub to_multipliers-requires : goal.to_multipliers-requires
unfolding deposit_at
to_multipliers-requires c =
    let limits : Limits c.args.rates.now c.args.tiers c.args.factors.now.lower c.args.factors.now.upper = usable-limits _ _ _ _ (sym c.usable.ensures ∙ c.if-not-usable.false) in
    (limits.lower-le, c.requires.2.months-le)

pub to_multipliers-requires-2 : goal.to_multipliers-requires-2
unfolding deposit_at
to_multipliers-requires-2 c =
    let limits : Limits c.args.rates.now c.args.tiers c.args.factors.now.lower c.args.factors.now.upper = usable-limits _ _ _ _ (sym c.usable.ensures ∙ c.if-not-usable.false) in
    (limits.upper-le, c.requires.2.months-le)

-- both tables are of multipliers: the lower factors are at most par, the upper ones too and above 0 within the term
pub held_values-requires : goal.held_values-requires
unfolding deposit_at rounding_of
held_values-requires c =
    let limits : Limits c.args.rates.now c.args.tiers c.args.factors.now.lower c.args.factors.now.upper = usable-limits _ _ _ _ (sym c.usable.ensures ∙ c.if-not-usable.false) in
    let a = c.args in
    let l = limits in
    let months : a.held.remaining_months ≤ months_limit = c.requires.2.months-le in record {
      place_lt_sub_balance_count = c.requires;
      within_rates = (l.rates-le, omega arith, lent _ c.tiers_of-own.ensures.1);
      discounting = λ pos. (
        lower-discounting a.factors.now.lower _ a.held.remaining_months c.to_multipliers.ensures.0 l.lower-le,
        upper-discounting a.factors.now.upper _ a.held.remaining_months c.to_multipliers-2.ensures.0 l.upper-le (λ i h. l.upper_pos i (omega (arith, h, months))),
      );
    }

-- the values by multipliers are those by factors, with the tiers of the filing, which are usable
pub returns : goal.returns
unfolding values_under deposit_at rounding_of
returns c =
    let a = c.args in
    c.held_values.ensures.value (lent _ c.tiers_of-own.ensures.1)
    ∙ held_by a.place a.held a.rates.now _ a.factors.now.lower a.factors.now.upper _ _ (λ pos. (c.to_multipliers.ensures.0, c.to_multipliers-2.ensures.0))
    ∙ rw (c.tiers_of-own.ensures.0, ← c.usable.ensures, c.if-not-usable.false)
    (sym (values-tabled a.rates.now a.tiers a.factors.now.lower a.factors.now.upper a.place a.held))
