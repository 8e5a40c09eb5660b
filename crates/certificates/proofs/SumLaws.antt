-- The sums of the positions, certificate by certificate: one more, their limits, and the tables that the scan keeps. Assumes nothing.
use Prim.Native.Nat.{ℕ, zero, suc, ◌+◌, ◌*◌, ◌≤◌, ◌<◌}
use native.Mathlib.Nat.{lt-suc_self, lt_trans, mul-le-mul_left}
use native.Mathlib.Numerals.{add-one}
use native.Mathlib.Omega.{arith}
use mathlib.Core.Path.{◌≡◌, refl, sym, subst, ◌∙◌}
use mathlib.Core.Bool.{Bool, true, false, cond}
use mathlib.Core.List.{List}
use borrow.Author.Tests.{eqb-true, eqb-false, eq-eqb, ne_eqb, ltb-false}
use lib.Dec.{eqb}
use lib.ListN.{length, get_or, length-set}
use lib.Seq.{get_or-set_same, get_or-set_other, ext_get_or}
use Rattle.lists.specs.Sums.{sum_where}
use Rattle.lists.specs.Tables.{table}
use Rattle.lists.proofs.SumLaws.{sum_where-mono, sum_where-mul}
use Rattle.lists.proofs.TableLaws.{table-length, table-get_or}
use Rattle.form.specs.Limits.{balance_limit, filed_coupon_limit, months_limit}
use Rattle.answers.proofs.VerdictLaws.{first-none, condition-fails}
use Rattle.certificate_calendar.specs.declared.Date.{Date}
use Rattle.certificate_terms.specs.declared.Certificate.{Certificate}
use Rattle.certificate_terms.specs.Terms.{certificate_at, months_remaining, position_of}
use Rattle.certificate_terms.specs.Faults.{own_verdict}
use Rattle.certificates.specs.Sums.{stands_at, position_sum, balance_of, weighted_coupon, weighted_months, totals_of}
use Rattle.certificates.specs.EachVerdict.{sum_over_limit, certificate_verdict}
use Rattle.certificates.specs.Inner.Totals.{added_at, totals_with}
use Rattle.certificate_terms.proofs.FaultLaws.{Sound, own-sound}

module _ (v : Date) (s : List ℕ) where
  -- one certificate more
  pub sum-suc : (amount : Certificate → ℕ) (i n : ℕ)
      → position_sum v s amount i (suc n)
      ≡ position_sum v s amount i n + cond (eqb (position_of v (certificate_at s n)) i) (amount (certificate_at s n)) 0
  unfolding position_sum sum_where stands_at
  sum-suc amount i n = refl

  -- at its own position
  pub sum-here : (amount : Certificate → ℕ) (n : ℕ)
      → position_sum v s amount (position_of v (certificate_at s n)) (suc n)
      ≡ position_sum v s amount (position_of v (certificate_at s n)) n + amount (certificate_at s n)
  sum-here amount n = sum-suc amount _ n ∙ simp (eq-eqb (position_of v (certificate_at s n)) _ refl)

  -- the first n certificates are not refused
  abbrev pub Passed : ℕ → Type 0
  Passed n = (k : ℕ) → k < n → (certificate_verdict v s k).number ≡ 0

  pub passed-sound : (n : ℕ) → Passed n → (k : ℕ) → k < n → Sound v (certificate_at s k)
  unfolding certificate_verdict
  passed-sound n p k h = own-sound v k (certificate_at s k) (first-none (own_verdict v k (certificate_at s k)) _ (p k h)).0

  pub passed-sum : (n : ℕ) → Passed n → (k : ℕ) → k < n
      → position_sum v s balance_of (position_of v (certificate_at s k)) (suc k) ≤ balance_limit
  unfolding certificate_verdict sum_over_limit
  passed-sum n p k h =
      ltb-false _ _ (condition-fails (sum_over_limit v s k) 4 k (first-none (own_verdict v k (certificate_at s k)) _ (p k h)).1)

  pub sum-none : (amount : Certificate → ℕ) (i : ℕ) → position_sum v s amount i 0 ≡ 0
  unfolding position_sum sum_where
  sum-none amount i = refl

  balance-sum-next : (n i : ℕ) → Passed (suc n) → position_sum v s balance_of i n ≤ balance_limit → position_sum v s balance_of i (suc n) ≤ balance_limit
  balance-sum-next n i p h = by (eqb (position_of v (certificate_at s n)) i) refl
    where
      by : (b : Bool) → eqb (position_of v (certificate_at s n)) i ≡ b → position_sum v s balance_of i (suc n) ≤ balance_limit
      by true e =
          subst (λ (j : ℕ). position_sum v s balance_of j (suc n) ≤ balance_limit) (eqb-true _ _ e) (passed-sum (suc n) p n (lt-suc_self n))
      by false e = rw (sum-suc balance_of i n, e) (omega arith)

  -- the balances of a position stay within the limit of a balance
  pub balance-sum-le : (n i : ℕ) → Passed n → position_sum v s balance_of i n ≤ balance_limit
  balance-sum-le zero i p = omega (arith, sum-none balance_of i)
  balance-sum-le (suc n) i p = balance-sum-next n i p (balance-sum-le n i (λ k h. p k (lt_trans h (lt-suc_self n))))

  -- an amount that is at most so many times the balance adds up to at most so many times the balances
  pub weighted-sum-le : (amount : Certificate → ℕ) (limit n i : ℕ)
      → ((k : ℕ) → k < n → amount (certificate_at s k) ≤ limit * (certificate_at s k).balance)
      → position_sum v s amount i n ≤ limit * position_sum v s balance_of i n
  unfolding position_sum
  weighted-sum-le amount limit n i h =
      rw (← sum_where-mul limit (stands_at v s i) (λ (k : ℕ). (certificate_at s k).balance) n)
      (sum_where-mono (stands_at v s i) (λ (k : ℕ). amount (certificate_at s k)) (λ (k : ℕ). limit * (certificate_at s k).balance) n h)

  pub coupon-sum-le : (n i : ℕ) → Passed n → position_sum v s weighted_coupon i n ≤ filed_coupon_limit * position_sum v s balance_of i n
  coupon-sum-le n i p =
      weighted-sum-le weighted_coupon filed_coupon_limit n i
      (λ k h. omega (arith, mul-le-mul_left (certificate_at s k).balance (passed-sound n p k h).coupon-le))

  pub months-sum-le : (n i : ℕ) → Passed n → position_sum v s (weighted_months v) i n ≤ months_limit * position_sum v s balance_of i n
  months-sum-le n i p =
      weighted-sum-le (weighted_months v) months_limit n i
      (λ k h. omega (arith, mul-le-mul_left (certificate_at s k).balance (passed-sound n p k h).months-le))

-- a table with an amount added at an index
module _ (n : ℕ) (f g : ℕ → ℕ) (i x : ℕ) (h : i < n) (e : (j : ℕ) → g j ≡ f j + cond (eqb i j) x 0) where
  added-long : length (added_at (table n f) i x) ≡ n
  unfolding added_at
  added-long = length-set (table n f) i (get_or (table n f) i 0 + x) ∙ table-length 0 n f

  added-same : get_or (added_at (table n f) i x) i 0 ≡ g i
  unfolding added_at
  added-same =
      get_or-set_same (table n f) i (get_or (table n f) i 0 + x) 0 (rw (table-length 0 n f) h)
      ∙ rw (table-get_or n f i 0 h, e i, eq-eqb i i refl)

  added-other : (j : ℕ) → j < n → (i ≡ j → ⊥) → get_or (added_at (table n f) i x) j 0 ≡ g j
  unfolding added_at
  added-other j l d =
      get_or-set_other (table n f) i j (get_or (table n f) i 0 + x) 0 (λ q. d (sym q))
      ∙ rw (table-get_or n f j 0 l, e j, ne_eqb i j d) (omega arith)

  added-at : (j : ℕ) → j < n → get_or (added_at (table n f) i x) j 0 ≡ g j
  added-at j l = by (eqb i j) refl
    where
      by : (b : Bool) → eqb i j ≡ b → get_or (added_at (table n f) i x) j 0 ≡ g j
      by true t = subst (λ (m : ℕ). get_or (added_at (table n f) i x) m 0 ≡ g m) (eqb-true i j t) added-same
      by false t = added-other j l (eqb-false i j t)

  added-table : added_at (table n f) i x ≡ table n g
  added-table =
      ext_get_or 0 (added_at (table n f) i x) (table n g) (added-long ∙ sym (table-length 0 n g))
      (λ j l. let u : j < n = rw added-long at l in added-at j u ∙ sym (table-get_or n g j 0 u))

module _ (v : Date) (s : List ℕ) (k : ℕ) (h : position_of v (certificate_at s k) < 9) where
  sums-suc : (amount : Certificate → ℕ)
      → added_at (table 9 (λ (i : ℕ). position_sum v s amount i k)) (position_of v (certificate_at s k)) (amount (certificate_at s k))
      ≡ table 9 (λ (i : ℕ). position_sum v s amount i (k + 1))
  sums-suc amount =
      added-table 9 _ (λ (i : ℕ). position_sum v s amount i (k + 1)) (position_of v (certificate_at s k)) (amount (certificate_at s k)) h
      (λ j. rw add-one (sum-suc v s amount j k))

  -- the sums with certificate k
  pub totals-suc :
      totals_with (totals_of v s k) (position_of v (certificate_at s k)) (months_remaining v (certificate_at s k)) (certificate_at s k).balance
      (certificate_at s k).coupon
      ≡ totals_of v s (k + 1)
  unfolding totals_of totals_with
  totals-suc = rw (sums-suc balance_of, sums-suc weighted_coupon, sums-suc (weighted_months v))
