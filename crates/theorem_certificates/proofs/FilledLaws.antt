-- The cells that accepted certificates fill: each within document 01's limits, each WARM within its row, each mean between the least and the greatest
-- of its certificates, and no balance lost. Assumes nothing.
use Prim.Native.Nat.{ℕ, ◌≤◌, ◌<◌}
use mathlib.Core.Path.{◌≡◌}
use mathlib.Core.Bool.{true}
use mathlib.Core.List.{List}
use borrow.Author.Tests.{leb-true, le-leb, eqb-true}
use lib.Dec.{leb}
use Rattle.lists.proofs.TableLaws.{table-get_or}
use Rattle.form.specs.Cells.{position_at, within_row, least_months, most_months}
use Rattle.form.specs.Limits.{balance_limit, filed_coupon_limit, months_limit}
use Rattle.answers.proofs.VerdictLaws.{first-none}
use Rattle.certificate_calendar.specs.declared.Date.{Date}
use Rattle.certificate_terms.specs.Terms.{certificate_count, certificate_at, months_remaining, original_months, column_of, position_for, position_of}
use Rattle.certificate_cells.specs.declared.filled_cells.Totals.{Totals}
use Rattle.certificate_cells.specs.Means.{mean, balance_at, coupon_at, months_at}
use Rattle.certificates.specs.Sums.{stands_at, position_sum, balance_of, weighted_coupon, weighted_months, totals_of}
use Rattle.certificates.specs.EachVerdict.{each_verdict}
use Rattle.certificates.specs.Verdict.{count_verdict, certificates_verdict}
use Rattle.lists.proofs.TestLaws.{and-true}
use Rattle.lists.proofs.RangeLaws.{least-passes}
use Rattle.certificate_terms.proofs.FaultLaws.{Sound, sound-position}
use Rattle.certificates.proofs.SumLaws.{Passed, passed-sound, balance-sum-le}
use Rattle.theorem_certificates.proofs.WeightedLaws.{AtMost, AtLeast, mean-at-most, mean-at-least}
use Rattle.certificates.proofs.CallLaws.{each-passed}

-- a certificate's remaining months lie within the row of its position
position-row : (m column : ℕ) → position_for m column < 9 → within_row (position_at (position_for m column)).row m ≡ true
unfolding position_for
position-row m column h = (and-true _ _ (least-passes _ 0 9 h)).0

-- what lies within a row
pub row-both : (row m : ℕ) → within_row row m ≡ true → (least_months row ≤ m) × (m ≤ most_months row)
unfolding within_row
row-both row m h =
    let e = and-true (leb (least_months row) m) (leb m (most_months row)) h in
    (leb-true _ _ e.0, leb-true _ _ e.1)

pub row_within : (row m : ℕ) → least_months row ≤ m → m ≤ most_months row → within_row row m ≡ true
unfolding within_row
row_within row m l u = rw (le-leb (least_months row) m l, le-leb m (most_months row) u)

-- no refusal: each certificate passes
pub all-passed : (v : Date) (s : List ℕ) → (certificates_verdict v s).number ≡ 0 → Passed v s (certificate_count s)
unfolding certificates_verdict
all-passed v s h = each-passed v s (first-none (count_verdict s) (each_verdict v s) h).1

module _ (v : Date) (s : List ℕ) (accepted : (certificates_verdict v s).number ≡ 0) where
  sums : Totals
  sums = totals_of v s (certificate_count s)

  sound : (k : ℕ) → k < certificate_count s → Sound v (certificate_at s k)
  sound = passed-sound v s (certificate_count s) (all-passed v s accepted)

  module _ (i : ℕ) (h : i < 9) where
    -- the position's sums and means, as the definitions read them off the totals
    balance-is : balance_at (totals_of v s (certificate_count s)) i ≡ position_sum v s balance_of i (certificate_count s)
    unfolding balance_at totals_of
    balance-is = table-get_or 9 (λ (j : ℕ). position_sum v s balance_of j (certificate_count s)) i 0 h

    coupon-is : coupon_at (totals_of v s (certificate_count s)) i
        ≡ mean (position_sum v s weighted_coupon i (certificate_count s)) (position_sum v s balance_of i (certificate_count s))
    unfolding coupon_at totals_of
    coupon-is = rw (balance-is, table-get_or 9 (λ (j : ℕ). position_sum v s weighted_coupon j (certificate_count s)) i 0 h)

    months-is : months_at (totals_of v s (certificate_count s)) i
        ≡ mean (position_sum v s (weighted_months v) i (certificate_count s)) (position_sum v s balance_of i (certificate_count s))
    unfolding months_at totals_of
    months-is = rw (balance-is, table-get_or 9 (λ (j : ℕ). position_sum v s (weighted_months v) j (certificate_count s)) i 0 h)

    -- its balance is within the limit
    pub filled-balance-le : balance_at (totals_of v s (certificate_count s)) i ≤ balance_limit
    filled-balance-le = rw balance-is (balance-sum-le v s (certificate_count s) i (all-passed v s accepted))

    module _ (some : 0 < balance_at (totals_of v s (certificate_count s)) i) where
      -- its coupon and its months lie between the least and the greatest of its certificates with a balance
      pub filled-coupon-most : (most : ℕ) → AtMost v s (λ c. c.coupon) i most (certificate_count s)
          → coupon_at (totals_of v s (certificate_count s)) i ≤ most
      filled-coupon-most most f = rw coupon-is (mean-at-most v s (λ c. c.coupon) i most (certificate_count s) (rw balance-is at some) f)

      pub filled-coupon-least : (least : ℕ) → AtLeast v s (λ c. c.coupon) i least (certificate_count s)
          → least ≤ coupon_at (totals_of v s (certificate_count s)) i
      filled-coupon-least least f = rw coupon-is (mean-at-least v s (λ c. c.coupon) i least (certificate_count s) (rw balance-is at some) f)

      pub filled-months-most : (most : ℕ) → AtMost v s (months_remaining v) i most (certificate_count s)
          → months_at (totals_of v s (certificate_count s)) i ≤ most
      filled-months-most most f = rw months-is (mean-at-most v s (months_remaining v) i most (certificate_count s) (rw balance-is at some) f)

      pub filled-months-least : (least : ℕ) → AtLeast v s (months_remaining v) i least (certificate_count s)
          → least ≤ months_at (totals_of v s (certificate_count s)) i
      filled-months-least least f = rw months-is (mean-at-least v s (months_remaining v) i least (certificate_count s) (rw balance-is at some) f)

      -- so its coupon is within the limit
      pub filled-coupon-le : coupon_at (totals_of v s (certificate_count s)) i ≤ filed_coupon_limit
      filled-coupon-le = filled-coupon-most filed_coupon_limit (λ k l e p. (sound k l).coupon-le)

      -- and its months within its row
      in_row : (k : ℕ) → k < certificate_count s → stands_at v s i k ≡ true → within_row (position_at i).row (months_remaining v (certificate_at s k)) ≡ true
      unfolding stands_at position_of
      in_row k l e =
          let c = certificate_at s k in
          let at : position_for (months_remaining v c) (column_of (original_months c)) ≡ i = eqb-true _ _ e in
          rw at at (position-row (months_remaining v c) (column_of (original_months c)) (sound-position v c (sound k l)))

      pub filled-months-within : within_row (position_at i).row (months_at (totals_of v s (certificate_count s)) i) ≡ true
      filled-months-within =
          row_within (position_at i).row (months_at (totals_of v s (certificate_count s)) i)
          (filled-months-least (least_months (position_at i).row) (λ k l e p. (row-both _ _ (in_row k l e)).0))
          (filled-months-most (most_months (position_at i).row) (λ k l e p. (row-both _ _ (in_row k l e)).1))

      pub filled-months-le : months_at (totals_of v s (certificate_count s)) i ≤ months_limit
      filled-months-le = filled-months-most months_limit (λ k l e p. (sound k l).months-le)
