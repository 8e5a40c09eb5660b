-- An empty book, what a book holds at a place, and the book with something else there (02:CR 7). Definitions only.
use Rattle.std.specs.Prelude.{ℕ, List, set, replicate}
use Rattle.filing_contents.specs.declared.FiledTiers.{FiledTiers}
use Rattle.form.specs.declared.sub_balances.SubBalance.{SubBalance}
use Rattle.form.specs.PlaceOrder.{sub_balance_count}
use Rattle.form.specs.Places.{no_place, place_in}
use Rattle.form.specs.Counts.{total_count}
use Rattle.pricing.specs.declared.Bounds.{Bounds}
use Rattle.book_totals.specs.KeptTotals.{moved, totals_after}
use Rattle.book_state.specs.declared.Book.{Book}

-- an empty book under rates, tiers and discount factors
abbrev pub empty_under : List ℕ → FiledTiers → Bounds (List ℕ) → Book
empty_under rates tiers factors =
    record {
      places = replicate sub_balance_count no_place;
      balance = 0;
      totals = replicate total_count 0;
      rates = rates;
      tiers = tiers;
      factors = factors;
    }

-- what the book holds at a place
abbrev pub held_in : Book → ℕ → SubBalance
held_in b place = place_in b.places place

-- the book with something else at a place, and its totals moved by the difference
unfoldable pub with_place : Book → ℕ → SubBalance → Book
with_place b place held =
    record {
      places = set b.places place held;
      balance = moved b.balance (held_in b place).balance held.balance;
      totals = totals_after b.totals place (held_in b place).values held.values;
      rates = b.rates;
      tiers = b.tiers;
      factors = b.factors;
    }
