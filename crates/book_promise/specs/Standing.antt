-- What a book holds at every moment (02:CR 7): the filing's rates, tiers and discount factors, at each place nothing or a deposit that the place takes, with
-- its values, and totals that are fresh sums. Definitions only.
use Rattle.std.specs.Prelude.{ℕ, ◌<◌, ◌≡◌, ◌⊎◌, true, length, get_or}
use Rattle.lists.specs.Sums.{sum_where, everywhere}
use Rattle.filing_contents.specs.Contents.{Contents}
use Rattle.filing_contents.specs.Valid.{Valid}
use Rattle.form.specs.declared.sub_balances.SubBalance.{SubBalance}
use Rattle.form.specs.PlaceOrder.{sub_balance_count}
use Rattle.form.specs.Places.{no_place}
use Rattle.form.specs.Counts.{total_count}
use Rattle.pricing.specs.Rounding.{down, up}
use Rattle.value_places.specs.HeldValues.{values_held}
use Rattle.book_limits.specs.PlaceLimits.{fits_place}
use Rattle.book_totals.specs.KeptTotals.{sums_place, value_of_total}
use Rattle.book_state.specs.declared.Book.{Book}
use Rattle.book_state.specs.BookPlaces.{held_in}
use Rattle.book_promise.specs.Books.{filing_factors}

-- the book stands under what a valid filing says
pub record Under (k : Contents) (b : Book) : Type 0 where
  pub valid : Valid k
  pub rates-are : b.rates ≡ k.rates
  pub tiers-are : b.tiers ≡ k.tiers
  pub lower-is : b.factors.lower ≡ filing_factors down k
  pub upper_is : b.factors.upper ≡ filing_factors up k

-- a deposit that the place takes: a balance from 1 to its limit, a coupon within its limit, months of the row of the place's cell, a penalty within its
-- limit, 0 at a place without; with the values that it has under the filing
pub record Deposited (k : Contents) (place : ℕ) (held : SubBalance) : Type 0 where
  pub fits : fits_place place held.balance held.coupon held.remaining_months held.penalty ≡ true
  pub values-are : held.values ≡ values_held k place held

-- what a place holds: nothing, which is all 0, or such a deposit
abbrev pub Holds : Contents → ℕ → SubBalance → Type 0
Holds k place held = (held ≡ no_place) ⊎ Deposited k place held

pub record Standing (k : Contents) (b : Book) : Type 0 where
  pub under : Under k b
  pub size : length b.places ≡ sub_balance_count
  pub totals-size : length b.totals ≡ total_count
  pub places : (place : ℕ) → place < sub_balance_count → Holds k place (held_in b place)
  pub balance-is : b.balance ≡ sum_where everywhere (λ (place : ℕ). (held_in b place).balance) sub_balance_count
  pub total-is : (i : ℕ) → i < total_count → get_or b.totals i 0 ≡ sum_where (sums_place i) (λ (place : ℕ). get_or (held_in b place).values (value_of_total i) 0) sub_balance_count
