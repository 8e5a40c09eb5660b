-- A book that stands under an accepted filing keeps its promise: its totals are fresh sums, and its figures enclose the exact ones within the widths.
-- Assumes nothing.
use Prim.Native.Nat.{ℕ, ◌+◌, ◌*◌, ◌%◌, ◌≤◌, ◌<◌}
use mathlib.Core.Path.{◌≡◌, refl, sym, ap, ◌∙◌}
use mathlib.Core.Bool.{Bool}
use mathlib.Core.List.{List}
use native.Mathlib.Omega.{arith}
use lib.Dec.{lit<}
use lib.ListN.{length, get_or}
use Rattle.lists.specs.Sums.{sum_where, everywhere}
use Rattle.lists.proofs.SumLaws.{sum_where-ext}
use Rattle.lists.proofs.TableLaws.{joined-get_or}
use Rattle.fraction.specs.Fraction.{Encloses}
use Rattle.fraction.specs.Totals.{total_where}
use Rattle.fraction.proofs.EnclosureLaws.{total-encloses}
use Rattle.filing_contents.specs.Contents.{Contents}
use Rattle.filing_decode.specs.Contents.{contents_of}
use Rattle.form.specs.PlaceOrder.{sub_balance_count, is_short, is_long}
use Rattle.form.specs.Shift.{scenario_count}
use Rattle.pricing.specs.Rounding.{down, up}
use Rattle.value_places.specs.HeldValues.{value_held, bounds_held, values_held}
use Rattle.value_places.proofs.HeldLaws.{held-encloses, held-width}
use Rattle.pricing.proofs.EnclosedValuesLaws.{values-enclosed}
use Rattle.book_state.specs.declared.Book.{Book}
use Rattle.book_totals.specs.KeptTotals.{sums_place, value_of_total}
use Rattle.book_state.specs.BookPlaces.{held_in}
use Rattle.book_promise.specs.Standing.{Standing}
use Rattle.book_promise.proofs.PlaceLaws.{holds-within}
use Rattle.book_promise.specs.Promise.{balance_in, lower_in, upper_in, total_in, exact_in, Kept}

-- total r of a scenario's four, short lower, short upper, long lower, long upper, is a fresh sum
module _ (k : Contents) (b : Book) (stands : Standing k b) (scenario : ℕ) (h : scenario < scenario_count) where
  -- of the places that pass a test, value j of the fourteen
  fresh : (r j : ℕ) (test : ℕ → Bool) → r < 4 → sums_place (4 * scenario + r) ≡ test → value_of_total (4 * scenario + r) ≡ j
      → total_in b r scenario ≡ sum_where test (λ (place : ℕ). get_or (held_in b place).values j 0) sub_balance_count
  unfolding total_in
  fresh r j test small e f = rw (← e, ← f) (stands.total-is (4 * scenario + r) (omega arith))

  pub short-lower-is : total_in b 0 scenario ≡ sum_where is_short (lower_in b scenario) sub_balance_count
  unfolding lower_in sums_place value_of_total
  short-lower-is = fresh 0 (2 * scenario) is_short (lit< tt) (let e : (4 * scenario + 0) % 4 ≡ 0 = omega arith in rw e) (omega arith)

  pub short-upper-is : total_in b 1 scenario ≡ sum_where is_short (upper_in b scenario) sub_balance_count
  unfolding upper_in sums_place value_of_total
  short-upper-is = fresh 1 (2 * scenario + 1) is_short (lit< tt) (let e : (4 * scenario + 1) % 4 ≡ 1 = omega arith in rw e) (omega arith)

  pub long-lower-is : total_in b 2 scenario ≡ sum_where is_long (lower_in b scenario) sub_balance_count
  unfolding lower_in sums_place value_of_total
  long-lower-is = fresh 2 (2 * scenario) is_long (lit< tt) (let e : (4 * scenario + 2) % 4 ≡ 2 = omega arith in rw e) (omega arith)

  pub long-upper-is : total_in b 3 scenario ≡ sum_where is_long (upper_in b scenario) sub_balance_count
  unfolding upper_in sums_place value_of_total
  long-upper-is = fresh 3 (2 * scenario + 1) is_long (lit< tt) (let e : (4 * scenario + 3) % 4 ≡ 3 = omega arith in rw e) (omega arith)

  bounds-length : (place s : ℕ) → length (bounds_held k place (held_in b place) s) ≡ 2
  unfolding bounds_held
  bounds-length place s = refl

  -- number r of a place's two values in the scenario
  bound-is : (place r : ℕ) → place < sub_balance_count → r < 2 → get_or (held_in b place).values (2 * scenario + r) 0 ≡ get_or (bounds_held k place (held_in b place) scenario) r 0
  unfolding values_held
  bound-is place r hp hr =
      rw (holds-within k place (held_in b place) (stands.places place hp)).values-are (joined-get_or 2 scenario_count (bounds_held k place (held_in b place)) (bounds-length place) scenario r 0 h hr)

  pub lower-is : (place : ℕ) → place < sub_balance_count → lower_in b scenario place ≡ value_held down k scenario place (held_in b place)
  unfolding lower_in bounds_held
  lower-is place hp =
      let e : 2 * scenario ≡ 2 * scenario + 0 = omega arith in
      ap (λ (i : ℕ). get_or (held_in b place).values i 0) e ∙ bound-is place 0 hp (lit< tt)

  pub upper_is : (place : ℕ) → place < sub_balance_count → upper_in b scenario place ≡ value_held up k scenario place (held_in b place)
  unfolding upper_in bounds_held
  upper_is place hp = bound-is place 1 hp (lit< tt)

  -- sums of lower and upper values
  lower-sum : (test : ℕ → Bool) → sum_where test (lower_in b scenario) sub_balance_count ≡ sum_where test (λ (place : ℕ). value_held down k scenario place (held_in b place)) sub_balance_count
  lower-sum test = sum_where-ext test (lower_in b scenario) (λ (place : ℕ). value_held down k scenario place (held_in b place)) sub_balance_count lower-is

  upper-sum : (test : ℕ → Bool) → sum_where test (upper_in b scenario) sub_balance_count ≡ sum_where test (λ (place : ℕ). value_held up k scenario place (held_in b place)) sub_balance_count
  upper-sum test = sum_where-ext test (upper_in b scenario) (λ (place : ℕ). value_held up k scenario place (held_in b place)) sub_balance_count upper_is

  width_is : (place : ℕ) → place < sub_balance_count → 250 * upper_in b scenario place ≤ 250 * lower_in b scenario place + (balance_in b place + 500)
  unfolding balance_in
  width_is place hp = rw (lower-is place hp, upper_is place hp) (held-width k place (held_in b place) (holds-within k place (held_in b place) (stands.places place hp)).limits scenario)

-- under an accepted filing
module _ (s : List ℕ) (b : Book) (stands : Standing (contents_of s) b) where
  place-encloses : (scenario place : ℕ) → scenario < scenario_count → place < sub_balance_count
      → Encloses (lower_in b scenario place) (exact_in s b scenario place) (upper_in b scenario place)
  unfolding exact_in
  place-encloses scenario place h hp =
      rw (lower-is (contents_of s) b stands scenario h place hp, upper_is (contents_of s) b stands scenario h place hp)
      (held-encloses (contents_of s) place (held_in b place) scenario)

  sums-enclose : (test : ℕ → Bool) (scenario : ℕ) → scenario < scenario_count
      → Encloses (sum_where test (lower_in b scenario) sub_balance_count) (total_where test (exact_in s b scenario) sub_balance_count) (sum_where test (upper_in b scenario) sub_balance_count)
  unfolding exact_in
  sums-enclose test scenario h =
      rw (lower-sum (contents_of s) b stands scenario h test, upper-sum (contents_of s) b stands scenario h test)
      (total-encloses test _ _ _ sub_balance_count (λ place. held-encloses (contents_of s) place (held_in b place) scenario))

  balance-sum : b.balance ≡ sum_where everywhere (balance_in b) sub_balance_count
  unfolding balance_in
  balance-sum = stands.balance-is

  -- each kept total is the sum over its places, each place encloses its exact value within the width of its balance, and so do the sums
  pub standing-kept : Kept s b
  standing-kept =
      record {
        standing = stands;
        balance-total = balance-sum;
        short-lower = short-lower-is (contents_of s) b stands;
        short-upper = short-upper-is (contents_of s) b stands;
        long-lower = long-lower-is (contents_of s) b stands;
        long-upper = long-upper-is (contents_of s) b stands;
        values-enclosed = values-enclosed sub_balance_count (balance_in b) (lower_in b) (upper_in b) (exact_in s b) b.balance place-encloses
            (λ scenario place h hp. width_is (contents_of s) b stands scenario h place hp) (sym balance-sum);
        short-encloses = λ scenario h.
            rw (short-lower-is (contents_of s) b stands scenario h, short-upper-is (contents_of s) b stands scenario h) (sums-enclose is_short scenario h);
        long-encloses = λ scenario h.
            rw (long-lower-is (contents_of s) b stands scenario h, long-upper-is (contents_of s) b stands scenario h) (sums-enclose is_long scenario h);
      }
