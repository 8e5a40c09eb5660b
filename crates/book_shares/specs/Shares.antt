-- The changes that set a book to the thirty-six shares of a filing (02:CR 7), those with a balance; what the book then shows. Definitions only.
use Rattle.std.specs.Prelude.{ℕ, zero, suc, ◌≡◌, cond, List, [], ◌∷◌, ◌++◌, eqb}
use Rattle.lists.specs.Tables.{table, joined}
use Rattle.form.specs.Cells.{total_cell}
use Rattle.form.specs.Shift.{scenario_count}
use Rattle.answers.specs.Verdict.{accepted}
use Rattle.filing_decode.specs.Contents.{contents_of}
use Rattle.filing_contents.specs.Contents.{cell}
use Rattle.filing.specs.Verdict.{filing_verdict}
use Rattle.form.specs.PlaceOrder.{sub_balance_count}
use Rattle.shares.specs.SubBalances.{balance_at, coupon_at, months_at, penalty_at}
use Rattle.value_numbers.specs.Numbers.{scenario_totals}
use Rattle.book_state.specs.declared.Book.{Book}
use Rattle.book_promise.specs.Books.{opened_book}
use Rattle.book_promise.specs.Changes.{Change, set_place, book_after_all}

-- a place set to its share, by the cells of a filing; no change where the share has no balance
abbrev pub share_set : List ℕ → ℕ → Change
share_set cells place = set_place place (balance_at cells place) (coupon_at cells place) (months_at cells place) (penalty_at cells place)

unfoldable pub share_change : List ℕ → ℕ → List Change
share_change cells place = cond (eqb (balance_at cells place) 0) [] (share_set cells place ∷ [])

-- those of the first n places, one place after the other
unfoldable pub share_changes : List ℕ → ℕ → List Change
share_changes cells zero = []
share_changes cells (suc n) = share_changes cells n ++ share_change cells n

-- the book of an accepted filing with its thirty-six shares set
unfoldable pub book_of_shares : List ℕ → Book
book_of_shares s = book_after_all (opened_book s) (share_changes (contents_of s).cells sub_balance_count)

-- it shows the totals that the valuing call gives for that filing, and its total balance
unfoldable pub ShowsTotals : Type 0
ShowsTotals = (s : List ℕ) → filing_verdict s ≡ accepted
    → ((book_of_shares s).totals ≡ joined (table scenario_count (scenario_totals (contents_of s)))) × ((book_of_shares s).balance ≡ cell (contents_of s) total_cell)
