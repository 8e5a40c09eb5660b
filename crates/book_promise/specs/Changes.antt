-- The changes of a book (02:CR 7): the verdict on each and the book after it, and after any sequence of them. Definitions only.
use Rattle.std.specs.Prelude.{ℕ, Bool, false, cond, not, List, [], ◌∷◌, ltb}
use Rattle.answers.specs.Verdict.{Verdict, refused_if}
use Rattle.form.specs.declared.sub_balances.SubBalance.{SubBalance}
use Rattle.form.specs.PlaceOrder.{sub_balance_count}
use Rattle.form.specs.Places.{no_place, no_values}
use Rattle.book_state.specs.declared.Book.{Book}
use Rattle.book_limits.specs.PlaceLimits.{fits_place}
use Rattle.book_state.specs.BookPlaces.{with_place}
use Rattle.book_promise.specs.Books.{valued_in}

-- a place is set to a balance (thousands of dollars), a coupon (thousandths of a percent a year), months and a penalty (hundredths of a month), in this
-- order, or it is cleared; or what is asked of it is neither
pub data Change : Type 0 where
  set_place : ℕ → ℕ → ℕ → ℕ → ℕ → Change
  clear_place : ℕ → Change
  neither_at : ℕ → Change

-- the place that is changed
unfoldable pub changed_place : Change → ℕ
changed_place (set_place place balance coupon months penalty) = place
changed_place (clear_place place) = place
changed_place (neither_at place) = place

-- the place takes the change; none takes what is neither
unfoldable pub fits_change : Change → Bool
fits_change (set_place place balance coupon months penalty) = fits_place place balance coupon months penalty
fits_change (clear_place place) = ltb place sub_balance_count
fits_change (neither_at place) = false

-- a deposit that is not valued
abbrev pub unvalued : ℕ → ℕ → ℕ → ℕ → SubBalance
unvalued balance coupon months penalty =
    record { balance = balance; coupon = coupon; remaining_months = months; penalty = penalty; values = no_values }

-- what the place holds after the change: the deposit with its values, or nothing
unfoldable pub held_after : Book → Change → SubBalance
held_after b (set_place place balance coupon months penalty) = valued_in b place (unvalued balance coupon months penalty)
held_after b (clear_place place) = no_place
held_after b (neither_at place) = no_place

-- 17, at the place given
unfoldable pub change_verdict : Change → Verdict
change_verdict c = refused_if (not (fits_change c)) 17 (changed_place c)

-- the book after a change; a refused one alters nothing
unfoldable pub book_after : Book → Change → Book
book_after b c = cond (fits_change c) (with_place b (changed_place c) (held_after b c)) b

-- the book after a sequence of changes, the first one first
unfoldable pub book_after_all : Book → List Change → Book
book_after_all b [] = b
book_after_all b (c ∷ cs) = book_after_all (book_after b c) cs
