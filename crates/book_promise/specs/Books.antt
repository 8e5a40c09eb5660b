-- The book (02:CR 7): opened empty under a filing; a place valued under its sheets and tiers. Definitions only.
use Rattle.std.specs.Prelude.{ℕ, suc, List}
use Rattle.lists.specs.Tables.{table, joined}
use Rattle.form.specs.Limits.{months_limit}
use Rattle.form.specs.Shift.{scenario_count}
use Rattle.filing_contents.specs.Contents.{Contents}
use Rattle.filing.specs.Readings.{read_contents}
use Rattle.form.specs.declared.sub_balances.SubBalance.{SubBalance}
use Rattle.pricing.specs.Rounding.{Rounding, down, up}
use Rattle.pricing.specs.Run.{discount_factor_by}
use Rattle.value_places.specs.PlaceTerms.{month_yield}
use Rattle.book_state.specs.declared.Book.{Book}
use Rattle.book_state.specs.BookPlaces.{empty_under}
use Rattle.book_values.specs.Sheets.{values_under}

-- the discount factors of what a filing says (01:60), at a rounding, billionths: those of months 1 to 120, in the seven scenarios each
unfoldable pub filing_factors : Rounding → Contents → List ℕ
filing_factors ρ k =
    joined (table months_limit (λ (month : ℕ). table scenario_count (λ (scenario : ℕ). discount_factor_by ρ (month_yield k scenario) (suc month))))

-- the empty book under what a filing says: its rates, its tiers, and its lower and upper discount factors
unfoldable pub empty_book : Contents → Book
empty_book k = empty_under k.rates k.tiers (record { lower = filing_factors down k; upper = filing_factors up k })

-- the book that a filing's bytes open; those of a refused filing open the book of a filing that says nothing
unfoldable pub opened_book : List ℕ → Book
opened_book s = empty_book (read_contents s)

-- a place with its values under the book's sheets and tiers
unfoldable pub valued_in : Book → ℕ → SubBalance → SubBalance
valued_in b place held =
    record {
      balance = held.balance;
      coupon = held.coupon;
      remaining_months = held.remaining_months;
      penalty = held.penalty;
      values = values_under b.rates b.tiers b.factors.lower b.factors.upper place held;
    }
