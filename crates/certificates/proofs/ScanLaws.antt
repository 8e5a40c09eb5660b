-- The scan of the certificates, step by step: what it has found and summed before certificate k, and how it goes on. Assumes nothing.
use Prim.Native.Nat.{ℕ, suc, ◌+◌, ◌*◌, ◌≤◌, ◌<◌}
use native.Mathlib.Nat.{not-suc-le-zero, le_antisymm}
use borrow.Author.Count.{below_more}
use borrow.Author.Tests.{lt-ltb, le-ltb}
use mathlib.Core.Path.{◌≡◌, sym, ap, ◌∙◌}
use mathlib.Core.Bool.{true, false}
use mathlib.Core.List.{List}
use native.Mathlib.Omega.{arith}
use lib.ListN.{get_or}
use lib.Seq.{ext_get_or}
use Rattle.std.specs.Array.{AllOfLen}
use Rattle.lists.specs.Sums.{sum_where}
use Rattle.lists.specs.Tables.{table}
use Rattle.lists.proofs.TableLaws.{table-length, table-get_or}
use Rattle.form.specs.Limits.{balance_limit, filed_coupon_limit, months_limit}
use Rattle.answers.specs.Verdict.{Verdict, accepted, refused, refused_if}
use Rattle.answers.proofs.VerdictLaws.{Untried, tried-start, tried_here, tried-next, tried-all, first-passed, first-refused, condition-holds, condition-refuses, condition-none}
use Rattle.answers.specs.declared.Refusal.{Refusal}
use Rattle.answers.specs.Answers.{number_of, location_of}
use Rattle.answers.proofs.AnswerLaws.{refusal-refuses}
use Rattle.certificate_calendar.specs.declared.Date.{Date}
use Rattle.certificate_terms.specs.declared.Certificate.{Certificate}
use Rattle.certificate_terms.specs.Terms.{certificate_count, certificate_at, column_of, months_remaining, original_months, position_for, position_of}
use Rattle.certificate_terms.specs.Faults.{own_verdict}
use Rattle.certificate_cells.specs.declared.filled_cells.Totals.{Totals}
use Rattle.certificates.specs.Sums.{position_sum, balance_of, weighted_coupon, weighted_months, totals_of}
use Rattle.certificates.specs.EachVerdict.{sum_over_limit, certificate_verdict, each_verdict}
use Rattle.certificates.specs.Inner.Totals.{totals_with}
use Rattle.certificate_terms.proofs.FaultLaws.{Sound, own-sound, sound-position}
use Rattle.certificates.proofs.SumLaws.{Passed, sum-here, balance-sum-le, coupon-sum-le, months-sum-le, totals-suc}

-- nine sums of nothing
abbrev pub Zeros : List ℕ → Type 0
Zeros xs = AllOfLen (λ (x : ℕ). x ≡ 0) xs 9

zeros-table : {xs : List ℕ} → Zeros xs → xs ≡ table 9 (λ (i : ℕ). 0)
zeros-table {xs} z =
    ext_get_or 0 xs (table 9 (λ (i : ℕ). 0)) (z.long ∙ sym (table-length 0 9 (λ (i : ℕ). 0)))
    (λ i l. let u : i < 9 = omega (arith, z.long) in z.at i 0 u ∙ sym (table-get_or 9 (λ (i : ℕ). 0) i 0 u))

same-totals : (t : Totals) {b c m : List ℕ} → t.balance ≡ b → t.coupon ≡ c → t.months ≡ m → t ≡ record { balance = b; coupon = c; months = m }
same-totals t p q r = rw (← p, ← q, ← r)

module _ (v : Date) (s : List ℕ) where
  -- before certificate k: no certificate is refused, and the sums are those of the certificates before it
  pub record Scanning (k : ℕ) (t : Totals) : Type 0 where
    pub untried : Untried (certificate_verdict v s) (certificate_count s) k
    pub passed : Passed v s k
    pub totals-are : t ≡ totals_of v s k

  -- before the first
  pub scan-start : (t : Totals) → Zeros t.balance → Zeros t.coupon → Zeros t.months → Scanning 0 t
  unfolding totals_of position_sum sum_where
  scan-start t balance coupon months =
      record {
        untried = tried-start (certificate_verdict v s) (certificate_count s);
        passed = λ k h. absurd (not-suc-le-zero h);
        totals-are = same-totals t (zeros-table balance) (zeros-table coupon) (zeros-table months);
      }

  -- all passed
  pub scan-all : (k : ℕ) (t : Totals) → Scanning k t → certificate_count s ≤ k → (accepted ≡ each_verdict v s) × (t ≡ totals_of v s (certificate_count s))
  unfolding each_verdict
  scan-all k t at h = (
    tried-all (certificate_verdict v s) (certificate_count s) k at.untried h,
    at.totals-are ∙ ap (totals_of v s) (le_antisymm at.untried.within h),
  )

  -- the sums at an index
  module _ (k : ℕ) (t : Totals) (at : Scanning k t) (i : ℕ) (h : i < 9) where
    sums_at : (amount : Certificate → ℕ) → get_or (table 9 (λ (j : ℕ). position_sum v s amount j k)) i 0 ≡ position_sum v s amount i k
    sums_at amount = table-get_or 9 (λ (j : ℕ). position_sum v s amount j k) i 0 h

    pub balance-at : get_or t.balance i 0 ≡ position_sum v s balance_of i k
    unfolding totals_of
    balance-at = rw at.totals-are (sums_at balance_of)

    coupon-at : get_or t.coupon i 0 ≡ position_sum v s weighted_coupon i k
    unfolding totals_of
    coupon-at = rw at.totals-are (sums_at weighted_coupon)

    months-at : get_or t.months i 0 ≡ position_sum v s (weighted_months v) i k
    unfolding totals_of
    months-at = rw at.totals-are (sums_at (weighted_months v))

    pub balance-at-le : get_or t.balance i 0 ≤ balance_limit
    balance-at-le = rw balance-at (balance-sum-le v s k i at.passed)

    pub coupon-at-le : get_or t.coupon i 0 ≤ filed_coupon_limit * get_or t.balance i 0
    coupon-at-le = rw (coupon-at, balance-at) (coupon-sum-le v s k i at.passed)

    pub months-at-le : get_or t.months i 0 ≤ months_limit * get_or t.balance i 0
    months-at-le = rw (months-at, balance-at) (months-sum-le v s k i at.passed)

  -- the position by months that are read from the dates
  pub position-same : (c : Certificate) {i m o : ℕ} → i ≡ position_for m (column_of o) → m ≡ months_remaining v c → o ≡ original_months c → i ≡ position_of v c
  unfolding position_of
  position-same c is e f = is ∙ rw (e, f)

  -- certificate k
  module _ (k : ℕ) (t : Totals) (at : Scanning k t) (h : k < certificate_count s) (c : Certificate) (e : c ≡ certificate_at s k) where
    refused-own : ((own_verdict v k c).number ≡ 0 → ⊥) → own_verdict v k c ≡ each_verdict v s
    unfolding each_verdict certificate_verdict
    refused-own r =
        let first : certificate_verdict v s k ≡ own_verdict v k c =
        rw e (first-refused (own_verdict v k (certificate_at s k)) (refused_if (sum_over_limit v s k) 5 k) (rw e at r)) in
        sym first
        ∙ tried_here (certificate_verdict v s) (certificate_count s) k at.untried h
        (λ z. r (ap (λ (u : Verdict). u.number) (sym first) ∙ z))

    -- a fault of its own answers
    pub scan-own : (f : Refusal) → refused (number_of f) (location_of f) ≡ own_verdict v k c → refused (number_of f) (location_of f) ≡ each_verdict v s
    scan-own f own = own ∙ refused-own (λ z. refusal-refuses f (ap (λ (u : Verdict). u.number) own ∙ z))

    module _ (passes : accepted ≡ own_verdict v k c) where
      none : (own_verdict v k c).number ≡ 0
      unfolding accepted
      none = ap (λ (u : Verdict). u.number) (sym passes)

      pub scan-sound : Sound v c
      scan-sound = own-sound v k c none

      -- the sum of its position with it
      sum_is : get_or t.balance (position_of v c) 0 + c.balance ≡ position_sum v s balance_of (position_of v (certificate_at s k)) (suc k)
      sum_is =
          rw (balance-at k t at (position_of v c) (sound-position v c scan-sound), e) (sym (sum-here v s balance_of k))

      verdict-is : certificate_verdict v s k ≡ refused_if (sum_over_limit v s k) 5 k
      unfolding certificate_verdict
      verdict-is = first-passed (own_verdict v k (certificate_at s k)) (refused_if (sum_over_limit v s k) 5 k) (rw e at none)

      -- past the limit
      pub scan-over : balance_limit < get_or t.balance (position_of v c) 0 + c.balance → refused 5 k ≡ each_verdict v s
      unfolding each_verdict sum_over_limit
      scan-over l =
          let over : sum_over_limit v s k ≡ true = lt-ltb _ _ (rw sum_is at l) in
          condition-holds (sum_over_limit v s k) 5 k over
          ∙ sym verdict-is
          ∙ tried_here (certificate_verdict v s) (certificate_count s) k at.untried h
          (λ z. condition-refuses (sum_over_limit v s k) 4 k over (ap (λ (u : Verdict). u.number) (sym verdict-is) ∙ z))

      -- within it: on to the next. The certificate has no fault of its own and its sum none, so that none up to it is refused, and the sums are
      -- those with it
      pub scan-next : get_or t.balance (position_of v c) 0 + c.balance ≤ balance_limit
          → Scanning (k + 1) (totals_with t (position_of v c) (months_remaining v c) c.balance c.coupon)
      unfolding sum_over_limit
      scan-next l =
          let within : sum_over_limit v s k ≡ false = le-ltb _ _ (rw sum_is at l) in
          let none_here : (certificate_verdict v s k).number ≡ 0 =
          ap (λ (u : Verdict). u.number) verdict-is ∙ condition-none (sum_over_limit v s k) 5 k within in
          record {
            untried = tried-next (certificate_verdict v s) (certificate_count s) k at.untried h none_here;
            passed = below_more _ _ at.passed none_here;
            totals-are = rw (at.totals-are, e) (totals-suc v s k (rw e at (sound-position v c scan-sound)));
          }
