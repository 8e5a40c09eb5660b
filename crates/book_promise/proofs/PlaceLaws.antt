-- Laws of one place of a book: nothing has the value 0, a deposit that the place takes has its values under the filing, and either is within the limits of
-- deposits. Assumes nothing.
use Prim.Native.Nat.{ℕ, ◌≤◌, ◌<◌, zero-le}
use mathlib.Core.Path.{◌≡◌, ap}
use mathlib.Core.Logic.{inl, inr}
use mathlib.Core.Bool.{Bool, true, cond, ◌&&◌}
use mathlib.Core.List.{[], ◌∷◌}
use native.Mathlib.Nat.{le_refl, le_trans}
use borrow.Author.Tests.{leb-true, ltb-true}
use lib.Dec.{leb, ltb, lit<}
use Rattle.lists.specs.Tables.{table_from, joined}
use Rattle.lists.proofs.TableLaws.{table-ext}
use Rattle.lists.proofs.TestLaws.{and-true, either, entries-le}
use Rattle.form.specs.Cells.{within_row, least_months, most_months}
use Rattle.form.specs.Limits.{balance_limit, coupon_limit, penalty_limit, months_limit}
use Rattle.filing_contents.specs.Contents.{Contents}
use Rattle.form.specs.declared.sub_balances.SubBalance.{SubBalance}
use Rattle.form.specs.PlaceOrder.{sub_balance_count, position_of, with_penalty}
use Rattle.form.specs.Places.{no_place, no_values}
use Rattle.form.specs.Shift.{scenario_count}
use Rattle.pricing.specs.Scales.{value_scale}
use Rattle.pricing.specs.Rounding.{down, up}
use Rattle.pricing.specs.Run.{worth_by, value_by}
use Rattle.pricing.proofs.RoundingLaws.{quotient-zero}
use Rattle.price_deposits.specs.Inner.Prices.{DepositLimits}
use Rattle.value_places.specs.PlaceTerms.{deposit_at, terms_held}
use Rattle.value_places.specs.HeldValues.{value_held, bounds_held, values_held}
use Rattle.value_places.proofs.HeldLaws.{held-are}
use Rattle.book_state.specs.declared.Book.{Book}
use Rattle.book_limits.specs.PlaceLimits.{penalty_within, fits_place}
use Rattle.book_values.specs.Sheets.{values_under}
use Rattle.book_promise.specs.Books.{valued_in}
use Rattle.book_promise.specs.Changes.{unvalued}
use Rattle.book_promise.specs.Standing.{Under, Deposited, Holds}
use Rattle.book_promise.proofs.FactorLaws.{filing-factors}
use Rattle.book_values.proofs.SheetLaws.{limits-usable, filing-limits, values-tabled}

-- nothing has the value 0
none-valued : (k : Contents) (place : ℕ) → no_values ≡ values_held k place no_place
unfolding values_held bounds_held value_held value_by worth_by table_from joined
none-valued k place =
    ap joined (table-ext scenario_count (λ (s : ℕ). 0 ∷ 0 ∷ []) (bounds_held k place no_place)
    (λ s h. rw (quotient-zero down _ value_scale (lit< tt), quotient-zero up _ value_scale (lit< tt))))

-- what follows of what a place holds: its limits as those of a deposit, and its values
pub record Within (k : Contents) (place : ℕ) (held : SubBalance) : Type 0 where
  pub balance-le : held.balance ≤ balance_limit
  pub limits : DepositLimits (deposit_at place held)
  pub values-are : held.values ≡ values_held k place held

none_within : (k : Contents) (place : ℕ) → Within k place no_place
unfolding deposit_at
none_within k place =
    record {
      balance-le = zero-le;
      limits = record { coupon-le = zero-le; penalty-le = zero-le; months-le = zero-le };
      values-are = none-valued k place;
    }

-- the months of a row are at most 120
most-le : (row : ℕ) → most_months row ≤ months_limit
most-le = entries-le (0 ∷ 3 ∷ 12 ∷ 36 ∷ 120 ∷ []) 120 tt

-- the six tests of a place that fits
six-true : (a b c d e f : Bool) → (a && (b && (c && (d && (e && f))))) ≡ true
    → (a ≡ true) × (b ≡ true) × (c ≡ true) × (d ≡ true) × (e ≡ true) × (f ≡ true)
six-true a b c d e f h =
    let h₁ = and-true a (b && (c && (d && (e && f)))) h in
    let h₂ = and-true b (c && (d && (e && f))) h₁.1 in
    let h₃ = and-true c (d && (e && f)) h₂.1 in
    let h₄ = and-true d (e && f) h₃.1 in
    let h₅ = and-true e f h₄.1 in
    (h₁.0, h₂.0, h₃.0, h₄.0, h₅.0, h₅.1)

module _ (place balance coupon months penalty : ℕ) (fits : fits_place place balance coupon months penalty ≡ true) where
  tests : (ltb place sub_balance_count ≡ true) × (leb 1 balance ≡ true) × (leb balance balance_limit ≡ true) × (leb coupon coupon_limit ≡ true)
      × (within_row (position_of place).row months ≡ true) × (penalty_within place penalty ≡ true)
  unfolding fits_place
  tests = six-true (ltb place sub_balance_count) (leb 1 balance) (leb balance balance_limit) (leb coupon coupon_limit) (within_row (position_of place).row months)
      (penalty_within place penalty) fits

  -- what fits is at a place of the thirty-six
  pub fits-place : place < sub_balance_count
  fits-place = ltb-true place sub_balance_count tests.0

  months-le : months ≤ months_limit
  unfolding within_row
  months-le =
      let row = (position_of place).row in
      le_trans (leb-true months (most_months row) (and-true (leb (least_months row) months) (leb months (most_months row)) tests.4).1) (most-le row)

  penalty-le : penalty ≤ penalty_limit
  unfolding penalty_within
  penalty-le =
      le_trans (leb-true penalty (cond (with_penalty place) penalty_limit 0) tests.5)
      (either (λ (p : ℕ). p ≤ penalty_limit) (with_penalty place) (le_refl penalty_limit) zero-le)

  pub fits-balance : balance ≤ balance_limit
  fits-balance = leb-true balance balance_limit tests.2

  -- and within the limits of a deposit
  pub fits-limits : DepositLimits (deposit_at place (unvalued balance coupon months penalty))
  unfolding deposit_at
  fits-limits = record { coupon-le = leb-true coupon coupon_limit tests.3; penalty-le = penalty-le; months-le = months-le }

  module _ (k : Contents) (b : Book) (u : Under k b) where
    -- its values in the book are those under the filing
    values-filed : values_under b.rates b.tiers b.factors.lower b.factors.upper place (unvalued balance coupon months penalty)
        ≡ values_held k place (unvalued balance coupon months penalty)
    unfolding values_under
    values-filed =
        rw (u.rates-are, u.tiers-are, u.lower-is, u.upper_is, filing-factors down k, filing-factors up k)
        (rw (limits-usable _ _ _ _ (filing-limits k u.valid), values-tabled)
        (held-are k place (unvalued balance coupon months penalty) fits-limits months_limit (λ _. months-le)))

    pub fits-held : Deposited k place (valued_in b place (unvalued balance coupon months penalty))
    unfolding valued_in values_held bounds_held value_held terms_held deposit_at
    fits-held = record { fits = fits; values-are = values-filed }

-- either way
pub holds-within : (k : Contents) (place : ℕ) (held : SubBalance) → Holds k place held → Within k place held
unfolding deposit_at
holds-within k place held (inl e) = rw e (none_within k place)
holds-within k place held (inr d) =
    record {
      balance-le = fits-balance place held.balance held.coupon held.remaining_months held.penalty d.fits;
      limits = fits-limits place held.balance held.coupon held.remaining_months held.penalty d.fits;
      values-are = d.values-are;
    }
