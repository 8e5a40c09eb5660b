-- Laws of the sheets and tiers that a book holds: where they are usable each number is within its limit, and those of a valid filing are; the values under
-- them are those of the code. Assumes nothing.
use Prim.Native.Nat.{ℕ, zero, suc, ◌-◌, ◌≤◌, ◌<◌, zero-le}
use mathlib.Core.Path.{◌≡◌, refl, ap}
use mathlib.Core.Bool.{Bool, true, false, not, ◌&&◌}
use mathlib.Core.List.{List}
use native.Mathlib.Nat.{lt_trans, lt-suc_self, pos_of_ne-zero, ne_of_gt}
use native.Mathlib.Numerals.{add-one}
use native.Mathlib.Omega.{arith}
use borrow.Author.Tests.{ltb-true, ltb-false, le-ltb, leb-true, leb-false, le-leb, lt-leb, eqb-false, ne_eqb, not-true}
use lib.Dec.{leb, ltb, lit≤}
use lib.ListN.{length, get_or, get_or-eq_default}
use Rattle.lists.specs.Tables.{table, joined, any_below}
use Rattle.lists.proofs.TestLaws.{and-true, any-fails}
use Rattle.form.specs.Limits.{rate_limit, months_limit, tier_limit, withdrawal_limit}
use Rattle.form.specs.Shift.{scenario_count}
use Rattle.filing_contents.specs.Contents.{Contents}
use Rattle.filing_contents.specs.declared.FiledTiers.{FiledTiers}
use Rattle.filing_contents.specs.Valid.{Valid}
use Rattle.form.specs.declared.sub_balances.SubBalance.{SubBalance}
use Rattle.form.specs.Counts.{factor_count}
use Rattle.pricing.specs.Scales.{par}
use Rattle.pricing.specs.Rounding.{down, up}
use Rattle.price_factors.specs.Inner.Factors.{factors_by, factor_in, AtMostPar}
use Rattle.price_factors.proofs.FactorLaws.{factors-at-most-par, upper-factor-pos}
use Rattle.price_deposits.specs.Inner.Prices.{tabled_price, shifted_path}
use Rattle.price_deposits.specs.Inner.Values.{tabled_value, value_bounds, tabled_values}
use Rattle.withdrawal_filing.specs.FilingTiers.{tiers_of}
use Rattle.withdrawal_filing.specs.Inner.FiledLimits.{FiledLimits}
use Rattle.withdrawal_filing.proofs.FilingTierLaws.{filed-limits}
use Rattle.value_places.specs.PlaceTerms.{deposit_at}
use Rattle.value_places.specs.Inner.PlaceRows.{tabled_held}
use Rattle.value_places.proofs.HeldLaws.{rates-within}
use Rattle.book_values.specs.Sheets.{above_limit, none_above, is_zero, none_zero, not_rising, tiers_usable, sheets_usable, factor_at, terms_under, value_under, bounds_under}

none_below : (test : ℕ → Bool) (n : ℕ) → ((i : ℕ) → i < n → test i ≡ false) → any_below test n ≡ false
unfolding any_below
none_below test zero h = refl
none_below test (suc n) h = rw (none_below test n (λ i l. h i (lt_trans l (lt-suc_self n)))) (h n (lt-suc_self n))

-- no number above the limit: each is at most the limit, past the end too
none_above_lem : (limit : ℕ) (numbers : List ℕ) → none_above limit numbers ≡ true → (i : ℕ) → get_or numbers i 0 ≤ limit
unfolding none_above above_limit
none_above_lem limit numbers e i = by (ltb i (length numbers)) refl
  where
    by : (b : Bool) → ltb i (length numbers) ≡ b → get_or numbers i 0 ≤ limit
    by true h = ltb-false limit (get_or numbers i 0) (any-fails _ (length numbers) (not-true _ e) i (ltb-true i (length numbers) h))
    by false h = rw (get_or-eq_default numbers 0 (ltb-false i (length numbers) h)) zero-le

above-none : (limit : ℕ) (numbers : List ℕ) → ((i : ℕ) → get_or numbers i 0 ≤ limit) → none_above limit numbers ≡ true
unfolding none_above above_limit
above-none limit numbers h = ap not (none_below _ (length numbers) (λ i l. le-ltb limit (get_or numbers i 0) (h i)))

-- no number of a table 0: each is above it
none-zero : (numbers : List ℕ) → none_zero numbers ≡ true → (i : ℕ) → i < factor_count → 0 < get_or numbers i 0
unfolding none_zero is_zero
none-zero numbers e i h = pos_of_ne-zero (eqb-false (get_or numbers i 0) 0 (any-fails _ factor_count (not-true _ e) i h))

zero-none : (numbers : List ℕ) → ((i : ℕ) → i < factor_count → 0 < get_or numbers i 0) → none_zero numbers ≡ true
unfolding none_zero is_zero
zero-none numbers h = ap not (none_below _ factor_count (λ i l. ne_eqb (get_or numbers i 0) 0 (ne_of_gt (h i l))))

-- edges of which none is not above the one before it rise
rising : (t : FiledTiers) → any_below (not_rising t.edges) (t.count - 1) ≡ false
    → (i : ℕ) → suc i < t.count → get_or t.edges i 0 < get_or t.edges (suc i) 0
unfolding not_rising
rising t e i h = rw (← add-one i) (leb-false _ _ (any-fails _ (t.count - 1) e i (omega arith)))

falling-none : (t : FiledTiers) → ((i : ℕ) → suc i < t.count → get_or t.edges i 0 < get_or t.edges (suc i) 0)
    → any_below (not_rising t.edges) (t.count - 1) ≡ false
unfolding not_rising
falling-none t h = none_below _ (t.count - 1) (λ i l. rw (add-one i) (lt-leb _ _ (h i (omega arith))))

-- the limits of what a book holds
pub record Limits (rates : List ℕ) (tiers : FiledTiers) (lower upper : List ℕ) : Type 0 where
  pub rates-le : (i : ℕ) → get_or rates i 0 ≤ rate_limit
  pub tiers-within : FiledLimits tiers
  pub lower-le : AtMostPar lower
  pub upper-le : AtMostPar upper
  pub upper_pos : (i : ℕ) → i < factor_count → 0 < get_or upper i 0

module _ (rates : List ℕ) (tiers : FiledTiers) (lower upper : List ℕ) where
  -- the test is five tests at once: no rate above its limit, tiers usable, no lower and no upper factor above par, no upper factor 0; that of
  -- the tiers is three: at most 16, edges that rise, no withdrawal above its limit. Each gives the clause of its name
  pub usable-limits : sheets_usable rates tiers lower upper ≡ true → Limits rates tiers lower upper
  unfolding sheets_usable tiers_usable
  usable-limits e =
      let first = and-true (none_above rate_limit rates) (tiers_usable tiers && (none_above par lower && (none_above par upper && none_zero upper))) e in
      let second = and-true (tiers_usable tiers) (none_above par lower && (none_above par upper && none_zero upper)) first.1 in
      let third = and-true (none_above par lower) (none_above par upper && none_zero upper) second.1 in
      let fourth = and-true (none_above par upper) (none_zero upper) third.1 in
      let count = and-true (leb tiers.count tier_limit) _ second.0 in
      let own = and-true (not (any_below (not_rising tiers.edges) (tiers.count - 1))) (none_above withdrawal_limit tiers.withdrawals) count.1 in
      record {
        rates-le = none_above_lem rate_limit rates first.0;
        tiers-within =
            record {
              count-le = leb-true tiers.count tier_limit count.0;
              edges-rise = rising tiers (not-true _ own.0);
              withdrawal-le = none_above_lem withdrawal_limit tiers.withdrawals own.1;
            };
        lower-le = none_above_lem par lower third.0;
        upper-le = none_above_lem par upper fourth.0;
        upper_pos = none-zero upper fourth.1;
      }

  -- and within the limits each test passes
  pub limits-usable : Limits rates tiers lower upper → sheets_usable rates tiers lower upper ≡ true
  unfolding sheets_usable tiers_usable
  limits-usable l =
      rw (
        above-none rate_limit rates l.rates-le,
        le-leb tiers.count tier_limit l.tiers-within.count-le,
        falling-none tiers l.tiers-within.edges-rise,
        above-none withdrawal_limit tiers.withdrawals l.tiers-within.withdrawal-le,
        above-none par lower l.lower-le,
        above-none par upper l.upper-le,
        zero-none upper l.upper_pos,
      )

-- what a valid filing says is within them
pub filing-limits : (k : Contents) → Valid k → Limits k.rates k.tiers (factors_by down k.yields months_limit) (factors_by up k.yields months_limit)
filing-limits k v =
    record {
      rates-le = rates-within k v;
      tiers-within = filed-limits k v;
      lower-le = factors-at-most-par down k.yields months_limit;
      upper-le = factors-at-most-par up k.yields months_limit;
      upper_pos = λ i h. upper-factor-pos k.yields months_limit i (lit≤ tt) h;
    }

-- the values of what a place holds, as the code walks them
pub values-tabled : (rates : List ℕ) (tiers : FiledTiers) (lower upper : List ℕ) (place : ℕ) (held : SubBalance)
    → joined (table scenario_count (bounds_under rates tiers lower upper place held)) ≡ tabled_held held place rates (tiers_of tiers) lower upper
unfolding bounds_under value_under terms_under factor_at tabled_held tabled_values value_bounds tabled_value tabled_price shifted_path factor_in deposit_at
values-tabled rates tiers lower upper place held = refl
