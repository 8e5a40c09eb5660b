-- The book that is opened stands under its filing, and it stands with something else at a place: the totals are the fresh sums. Assumes nothing.
use Prim.Native.Nat.{ℕ, zero, suc, ◌+◌, ◌*◌, ◌-◌, ◌^◌, ◌≤◌, ◌<◌}
use mathlib.Core.Path.{◌≡◌, refl, sym, ap, ◌∙◌}
use mathlib.Core.Logic.{inl}
use mathlib.Core.Bool.{Bool, true, false, cond}
use native.Mathlib.Nat.{le_trans}
use native.Mathlib.Omega.{arith}
use borrow.Author.Tests.{eqb-true, eqb-false}
use lib.Dec.{eqb}
use lib.ListN.{length, get_or, length-set, length-replicate, get_or-replicate}
use lib.Seq.{get_or-set_same, get_or-set_other}
use Rattle.lists.specs.Sums.{sum_where, everywhere}
use Rattle.lists.proofs.SumLaws.{sum_where-ext}
use Rattle.lists.proofs.TableLaws.{zeros-get_or, table-length, table-get_or, joined-le}
use Rattle.form.specs.Limits.{balance_limit}
use Rattle.filing_contents.specs.Contents.{Contents}
use Rattle.filing_contents.specs.Valid.{Valid}
use Rattle.form.specs.declared.sub_balances.SubBalance.{SubBalance}
use Rattle.form.specs.Places.{no_place}
use Rattle.form.specs.PlaceOrder.{sub_balance_count}
use Rattle.form.specs.Shift.{scenario_count}
use Rattle.form.specs.Counts.{place_value_count, total_count}
use Rattle.value_places.specs.RowTotals.{value_limit}
use Rattle.pricing.specs.Rounding.{down, up}
use Rattle.value_places.specs.HeldValues.{bounds_held, values_held}
use Rattle.value_places.proofs.HeldLaws.{held-le}
use Rattle.book_state.specs.declared.Book.{Book}
use Rattle.book_totals.specs.KeptTotals.{moved, sums_place, value_of_total, total_after, totals_after}
use Rattle.book_state.specs.BookPlaces.{held_in, with_place}
use Rattle.book_promise.specs.Books.{empty_book}
use Rattle.book_promise.specs.Standing.{Holds, Standing}
use Rattle.book_totals.proofs.ChangedSumLaws.{zeros-sum, sum-small, place-in-sum, sum-changed, moved-is}
use Rattle.book_promise.proofs.PlaceLaws.{Within, holds-within}

-- of a place with its values none is above the limit of a value
module _ (k : Contents) (place : ℕ) (held : SubBalance) (w : Within k place held) where
  bound-small : (s j : ℕ) → get_or (bounds_held k place held s) j 0 ≤ value_limit
  unfolding bounds_held
  bound-small s zero = held-le k place held w.limits w.balance-le down s
  bound-small s (suc zero) = held-le k place held w.limits w.balance-le up s
  bound-small s (suc (suc j)) = omega arith

  value-small : (i : ℕ) → get_or held.values i 0 ≤ value_limit
  unfolding values_held
  value-small i = rw w.values-are (joined-le 0 scenario_count (bounds_held k place held) value_limit (λ s j l u. bound-small s j) i)

module _ (k : Contents) (v : Valid k) where
  -- every place of the empty book holds nothing
  none-held : (place : ℕ) → place < sub_balance_count → held_in (empty_book k) place ≡ no_place
  unfolding empty_book
  none-held place h = get_or-replicate sub_balance_count place no_place _ h

  none-value : (i place : ℕ) → place < sub_balance_count → get_or (held_in (empty_book k) place).values (value_of_total i) 0 ≡ 0
  none-value i place h = rw (none-held place h) (zeros-get_or place_value_count (value_of_total i))

  -- the empty book holds nothing at each place, so that each sum over places is 0, as its totals are
  pub empty_stands : Standing k (empty_book k)
  unfolding empty_book
  empty_stands =
      record {
        under = record { valid = v; rates-are = refl; tiers-are = refl; lower-is = refl; upper_is = refl };
        size = length-replicate sub_balance_count no_place;
        totals-size = length-replicate {A = ℕ} total_count 0;
        places = λ place h. inl (none-held place h);
        balance-is = sym (sum_where-ext everywhere _ (λ _. 0) sub_balance_count (λ place h. ap (λ (p : SubBalance). p.balance) (none-held place h)) ∙ zeros-sum everywhere sub_balance_count);
        total-is = λ i h.
            get_or-replicate total_count i 0 0 h ∙ sym (sum_where-ext (sums_place i) _ (λ _. 0) sub_balance_count (λ place l. none-value i place l) ∙ zeros-sum (sums_place i) sub_balance_count);
      }

-- a standing book with something else at a place
module _ (k : Contents) (b : Book) (stands : Standing k b) (place : ℕ) (at : place < sub_balance_count) (held : SubBalance) (w : Holds k place held) where
  abbrev after : Book
  after = with_place b place held

  -- the place holds that, and every other place what it held
  pub here : held_in after place ≡ held
  unfolding with_place
  here = get_or-set_same b.places place held _ (rw stands.size at)

  pub elsewhere : (i : ℕ) → (i ≡ place → ⊥) → held_in b i ≡ held_in after i
  unfolding with_place
  elsewhere i other = sym (get_or-set_other b.places place i held _ other)

  holds_after : (i : ℕ) → i < sub_balance_count → Holds k i (held_in after i)
  holds_after i h = by (eqb i place) refl
    where
      by : (t : Bool) → eqb i place ≡ t → Holds k i (held_in after i)
      by true e = let same = eqb-true i place e in rw (same, here) w
      by false e = rw (← elsewhere i (eqb-false i place e)) (stands.places i h)

  within-after : (i : ℕ) → i < sub_balance_count → Within k i (held_in after i)
  within-after i h = holds-within k i (held_in after i) (holds_after i h)

  -- a sum over the places of one of their figures, moved by the difference
  module _ (test : ℕ → Bool) (figure : SubBalance → ℕ) (limit : ℕ) (small : limit * sub_balance_count ≤ 2 ^ 64 - 1)
      (each : (i : ℕ) → i < sub_balance_count → figure (held_in after i) ≤ limit) where
    -- only the place changes, so that the new sum and the old figure are the old sum and the new figure. The old figure is part of the total, so
    -- that taking it away leaves no less than 0, and the new sum is at most 36 limits, below 2^64: the moved total is the new sum
    figure-moved : (total : ℕ) → total ≡ sum_where test (λ (i : ℕ). figure (held_in b i)) sub_balance_count
        → cond (test place) (moved total (figure (held_in b place)) (figure held)) total ≡ sum_where test (λ (i : ℕ). figure (held_in after i)) sub_balance_count
    figure-moved total e =
        moved-is (test place) total (figure (held_in b place)) (figure held) (sum_where test (λ (i : ℕ). figure (held_in after i)) sub_balance_count)
        (rw e changed) (rw e (place-in-sum test (λ (i : ℕ). figure (held_in b i)) sub_balance_count place at))
        (le_trans (sum-small test (λ (i : ℕ). figure (held_in after i)) limit sub_balance_count each) small)
      where
        changed : sum_where test (λ (i : ℕ). figure (held_in after i)) sub_balance_count + cond (test place) (figure (held_in b place)) 0
            ≡ sum_where test (λ (i : ℕ). figure (held_in b i)) sub_balance_count + cond (test place) (figure held) 0
        changed =
            sum-changed test (λ (i : ℕ). figure (held_in b i)) (λ (i : ℕ). figure (held_in after i)) sub_balance_count place at (λ i other. ap figure (elsewhere i other))
            ∙ ap (λ (p : SubBalance). sum_where test (λ (i : ℕ). figure (held_in b i)) sub_balance_count + cond (test place) (figure p) 0) here

  total-after : (i : ℕ) → i < total_count
      → get_or (totals_after b.totals place (held_in b place).values held.values) i 0
      ≡ sum_where (sums_place i) (λ (p : ℕ). get_or (held_in after p).values (value_of_total i) 0) sub_balance_count
  unfolding totals_after total_after
  total-after i h =
      table-get_or total_count _ i 0 h
      ∙ figure-moved (sums_place i) (λ (p : SubBalance). get_or p.values (value_of_total i) 0) value_limit (omega arith)
      (λ p l. value-small k p (held_in after p) (within-after p l) (value_of_total i)) (get_or b.totals i 0) (stands.total-is i h)

  totals-length : length (totals_after b.totals place (held_in b place).values held.values) ≡ total_count
  unfolding totals_after
  totals-length = table-length 0 total_count _

  balance-after : moved b.balance (held_in b place).balance held.balance ≡ sum_where everywhere (λ (p : ℕ). (held_in after p).balance) sub_balance_count
  balance-after =
      figure-moved everywhere (λ (p : SubBalance). p.balance) balance_limit (omega arith) (λ p l. (within-after p l).balance-le) b.balance stands.balance-is

  -- it stands: the sheets and tiers are those of before, each place holds what it held but the one that is set, and each total, moved by the
  -- difference, is the sum over the places again
  pub changed-stands : Standing k (with_place b place held)
  unfolding with_place
  changed-stands =
      record {
        under =
            record {
              valid = stands.under.valid;
              rates-are = stands.under.rates-are;
              tiers-are = stands.under.tiers-are;
              lower-is = stands.under.lower-is;
              upper_is = stands.under.upper_is;
            };
        size = length-set b.places place held ∙ stands.size;
        totals-size = totals-length;
        places = holds_after;
        balance-is = balance-after;
        total-is = total-after;
      }
