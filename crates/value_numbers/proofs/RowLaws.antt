-- The row of a place with the discount factors of the lists has the numbers of the definitions, none above the limit of a value. Assumes nothing.
use Prim.Native.Nat.{ℕ, zero, suc, ◌≤◌, ◌<◌, zero-le}
use mathlib.Core.Path.{◌≡◌, ap, ◌∙◌}
use mathlib.Core.Logic.{⊎_elim}
use mathlib.Core.List.{List, ◌∷◌}
use native.Mathlib.Nat.{le_refl, le_trans, not-suc-le-zero, le_of_suc-le-suc, le-max_left, le-max_right, max-le, eq-or-lt_of_le, ne_of_gt}
use native.Mathlib.Omega.{arith}
use lib.Dec.{eqb}
use lib.ListN.{get_or}
use borrow.Author.Tests.{ne_eqb}
use Rattle.lists.proofs.TableLaws.{table-get_or, joined-le}
use Rattle.lists.proofs.TestLaws.{either}
use Rattle.form.specs.Limits.{balance_limit, months_limit}
use Rattle.filing_contents.specs.Contents.{Contents}
use Rattle.filing_contents.specs.Valid.{Valid}
use Rattle.form.specs.declared.sub_balances.SubBalance.{SubBalance}
use Rattle.shares.specs.SubBalances.{balance_at, months_at}
use Rattle.form.specs.Places.{place_in}
use Rattle.form.specs.PlaceOrder.{sub_balance_count}
use Rattle.form.specs.Shift.{scenario_count}
use Rattle.shares.specs.Places.{place_at, places_of}
use Rattle.shares.proofs.SubBalanceLaws.{balance_at-limit}
use Rattle.withdrawal.specs.declared.WithdrawalTiers.{WithdrawalTiers}
use Rattle.withdrawal.specs.Inner.TierArrays.{tier_table, Usable}
use Rattle.pricing.specs.Rounding.{Rounding, down, up}
use Rattle.price_factors.specs.Inner.Factors.{factors_by}
use Rattle.price_deposits.specs.Inner.Prices.{DepositLimits}
use Rattle.price_multipliers.specs.Inner.Tables.{HoldsFactors, factors_of, Discounting}
use Rattle.price_factors.proofs.FactorLaws.{factors-at-most-par, upper-factor-pos}
use Rattle.price_multipliers.proofs.TableLaws.{lower-discounting, upper-discounting}
use Rattle.withdrawal_filing.specs.FilingTiers.{filing_tiers}
use Rattle.value_places.specs.PlaceTerms.{deposit_at}
use Rattle.value_numbers.specs.Run.{value_at}
use Rattle.value_numbers.specs.Numbers.{values_of, place_numbers}
use Rattle.value_places.specs.Inner.LongestTerm.{term_of, longest_to, longest_term}
use Rattle.value_places.specs.HeldValues.{bounds_held, values_held}
use Rattle.value_places.specs.Inner.PlaceRows.{row_of}
use Rattle.value_places.specs.RowTotals.{value_limit}
use Rattle.value_places.proofs.PlaceTermsLaws.{deposit-limits}
use Rattle.value_places.proofs.HeldLaws.{held-le, held-are, held_by}

-- a place's term is at most the longest
longest-le : (ps : List SubBalance) (n i : ℕ) → i < n → term_of (place_in ps i) ≤ longest_to ps n
unfolding longest_to
longest-le ps zero i h = absurd (not-suc-le-zero h)
longest-le ps (suc n) i h =
    ⊎_elim (λ e. rw e (le-max_right (longest_to ps n) (term_of (place_in ps n))))
    (λ l. le_trans (longest-le ps n i l) (le-max_left (longest_to ps n) (term_of (place_in ps n)))) (eq-or-lt_of_le (le_of_suc-le-suc h))

-- and no more than the terms are at most
longest-most : (ps : List SubBalance) (n : ℕ) {most : ℕ} → ((i : ℕ) → i < n → term_of (place_in ps i) ≤ most) → longest_to ps n ≤ most
unfolding longest_to
longest-most ps zero h = zero-le
longest-most ps (suc n) h = max-le (longest-most ps n (λ i l. h i (le_trans l (omega arith)))) (h n (omega arith))

module _ (k : Contents) where
  -- what stands at a place of the thirty-six
  pub location-is : (place : ℕ) → place < sub_balance_count → place_in (places_of k.cells) place ≡ place_at k.cells place
  unfolding places_of
  location-is place h = table-get_or sub_balance_count (place_at k.cells) place _ h

  term-of-place : (place : ℕ) → 0 < balance_at k.cells place → months_at k.cells place ≤ term_of (place_at k.cells place)
  unfolding term_of place_at
  term-of-place place pos = rw (ne_eqb (balance_at k.cells place) 0 (ne_of_gt pos)) (le_refl (months_at k.cells place))

  -- the months of a place with a balance are at most the longest term
  months-le-longest : (place : ℕ) → place < sub_balance_count → 0 < balance_at k.cells place → months_at k.cells place ≤ longest_term (places_of k.cells)
  unfolding longest_term
  months-le-longest place h pos = le_trans held (longest-le (places_of k.cells) sub_balance_count place h)
    where
      held : months_at k.cells place ≤ term_of (place_in (places_of k.cells) place)
      held = rw (location-is place h) (term-of-place place pos)

  module _ (v : Valid k) where
    -- nor is the longest term above the limit of months
    term-le : (place : ℕ) → place < sub_balance_count → term_of (place_at k.cells place) ≤ months_limit
    unfolding term_of place_at deposit_at
    term-le place h = either (λ (n : ℕ). n ≤ months_limit) (eqb (balance_at k.cells place) 0) zero-le (deposit-limits k v place h).months-le

    pub longest-limit : longest_term (places_of k.cells) ≤ months_limit
    unfolding longest_term
    longest-limit = longest-most (places_of k.cells) sub_balance_count (λ place h. rw (location-is place h) (term-le place h))

    -- no number of a row is above the limit of a value
    value_at-le : (ρ : Rounding) (scenario place : ℕ) → place < sub_balance_count → value_at ρ k scenario place ≤ value_limit
    unfolding value_at place_at
    value_at-le ρ scenario place h = held-le k place (place_at k.cells place) (deposit-limits k v place h) (balance_at-limit k.cells v.of-cells place h) ρ scenario

    bounds-le : (place scenario : ℕ) → place < sub_balance_count → (i : ℕ) → get_or (values_of k place scenario) i 0 ≤ value_limit
    unfolding values_of
    bounds-le place scenario h zero = value_at-le down scenario place h
    bounds-le place scenario h (suc zero) = value_at-le up scenario place h
    bounds-le place scenario h (suc (suc i)) = omega arith

    pub row-le : (place : ℕ) → place < sub_balance_count → (i : ℕ) → get_or (place_numbers k place) i 0 ≤ value_limit
    unfolding place_numbers
    row-le place h zero = omega (arith, balance_at-limit k.cells v.of-cells place h)
    row-le place h (suc i) = joined-le 0 scenario_count (values_of k place) value_limit (λ scenario j l u. bounds-le place scenario h j) i

-- what the code has in hand when it comes to the rows: the filing's tiers, its places, and tables of its lower and upper factors
pub record Prepared (k : Contents) (tiers : WithdrawalTiers) (places : List SubBalance) (lower upper : List ℕ) : Type 0 where
  pub valid : Valid k
  pub tiers-are : tier_table tiers ≡ filing_tiers k
  pub usable : Usable tiers
  pub places-are : places ≡ places_of k.cells
  pub lower-holds : HoldsFactors down (longest_term (places_of k.cells)) (factors_by down k.yields (longest_term (places_of k.cells))) lower
  pub upper-holds : HoldsFactors up (longest_term (places_of k.cells)) (factors_by up k.yields (longest_term (places_of k.cells))) upper

-- so it is with the filing's own tiers and places, its yields, and the tables of their factors up to the longest term of the places
pub prepared : (k : Contents) {tiers : WithdrawalTiers} {places : List SubBalance} {yields lower upper : List ℕ} {longest : ℕ} → Valid k
    → (tier_table tiers ≡ filing_tiers k) × Usable tiers → places ≡ places_of k.cells → yields ≡ k.yields → longest ≡ longest_term places
    → HoldsFactors down longest (factors_by down yields longest) lower → HoldsFactors up longest (factors_by up yields longest) upper
    → Prepared k tiers places lower upper
prepared k {places = places} {longest = longest} v t q y l below above =
    let longest-is : longest ≡ longest_term (places_of k.cells) = l ∙ ap longest_term q in
    record {
      valid = v;
      tiers-are = t.0;
      usable = t.1;
      places-are = q;
      lower-holds = rw (y, longest-is) at below;
      upper-holds = rw (y, longest-is) at above;
    }

module _ (k : Contents) (tiers : WithdrawalTiers) (places : List SubBalance) (lower upper : List ℕ) (p : Prepared k tiers places lower upper) (place : ℕ) (h : place < sub_balance_count) where
  held-is : place_in places place ≡ place_at k.cells place
  held-is = rw p.places-are (location-is k place h)

  -- what a place holds is within its limits
  pub held-limits : ((place_in places place).balance ≤ balance_limit) × DepositLimits (deposit_at place (place_in places place))
  unfolding place_at
  held-limits = rw held-is (balance_at-limit k.cells p.valid.of-cells place h, deposit-limits k p.valid place h)

  -- the tables reach as far as its months do if it has a balance
  reach : 0 < (place_in places place).balance → (deposit_at place (place_in places place)).months ≤ longest_term (places_of k.cells)
  unfolding deposit_at place_at
  reach = rw held-is (months-le-longest k place h)

  holds : 0 < (place_in places place).balance
      → HoldsFactors down (deposit_at place (place_in places place)).months (factors_by down k.yields (longest_term (places_of k.cells))) lower
      × HoldsFactors up (deposit_at place (place_in places place)).months (factors_by up k.yields (longest_term (places_of k.cells))) upper
  holds pos = (λ i l. p.lower-holds i (omega (arith, l, reach pos)), λ i l. p.upper-holds i (omega (arith, l, reach pos)))

  pub tables : 0 < (place_in places place).balance
      → Discounting down (deposit_at place (place_in places place)).months lower × Discounting up (deposit_at place (place_in places place)).months upper
  tables pos = (
    lower-discounting (factors_by down k.yields (longest_term (places_of k.cells))) lower _ (holds pos).0 (factors-at-most-par down k.yields (longest_term (places_of k.cells))),
    upper-discounting (factors_by up k.yields (longest_term (places_of k.cells))) upper _ (holds pos).1 (factors-at-most-par up k.yields (longest_term (places_of k.cells)))
        (λ i l. upper-factor-pos k.yields (longest_term (places_of k.cells)) i (longest-limit k p.valid) (omega (arith, l, reach pos))),
  )

  -- the row of a place has its fifteen numbers: up to its own term the tables hold the factors of the yields, the tiers are the filing's and the
  -- place holds its share, so that the values are those of the filing at that place
  pub row_is : row_of (place_in places place) place k.rates (tier_table tiers) (factors_of down (deposit_at place (place_in places place)).months lower)
      (factors_of up (deposit_at place (place_in places place)).months upper)
      ≡ place_numbers k place
  unfolding row_of place_numbers values_of value_at place_at values_held bounds_held
  row_is =
      rw (
        held_by place (place_in places place) k.rates (tier_table tiers) (factors_by down k.yields (longest_term (places_of k.cells)))
            (factors_by up k.yields (longest_term (places_of k.cells))) lower upper holds,
        p.tiers-are,
        held-is,
      )
      (ap (λ (l : List ℕ). balance_at k.cells place ∷ l)
      (held-are k place (place_at k.cells place) (deposit-limits k p.valid place h) (longest_term (places_of k.cells)) (months-le-longest k place h)))
