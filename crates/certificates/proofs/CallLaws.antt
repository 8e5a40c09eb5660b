-- From the verdict on a list of certificates to the answer of the call. Assumes nothing.
use Prim.Native.Nat.{ℕ, ◌*◌, ◌≤◌, ◌<◌}
use native.Mathlib.Omega.{arith}
use mathlib.Core.Path.{◌≡◌, sym, ap, ◌∙◌}
use mathlib.Core.Logic.{⊎_elim}
use mathlib.Core.Bool.{Bool, true, false, cond, not}
use mathlib.Core.List.{List, []}
use borrow.Author.Tests.{eq-eqb}
use lib.Dec.{eqb}
use lib.ListN.{length, get_or, get_or-eq_default}
use Rattle.lists.specs.Tables.{table}
use Rattle.lists.proofs.OrderLaws.{lt-or-le}
use Rattle.lists.proofs.TableLaws.{table-length, table-get_or, table-le}
use Rattle.form.specs.Limits.{balance_limit, filed_coupon_limit, months_limit}
use Rattle.std.specs.Prelude.{Ok, Err}
use Rattle.answers.specs.declared.Refusal.{Refusal}
use Rattle.answers.specs.Verdict.{Verdict, accepted, refused}
use Rattle.answers.specs.Answers.{number_of, location_of}
use Rattle.answers.proofs.VerdictLaws.{first-passed, first-refused, tried-none, condition-holds, condition-refuses, condition-none}
use Rattle.certificate_calendar.specs.declared.Date.{Date}
use Rattle.certificate_terms.specs.Terms.{certificate_count}
use Rattle.certificate_cells.specs.declared.filled_cells.Cells.{Cells}
use Rattle.certificate_cells.specs.Cells.{cells_of, cell_array}
use Rattle.certificate_cells.specs.Inner.Listing.{Bounded, accepted_cells}
use Rattle.certificates.specs.Sums.{position_sum, balance_of, weighted_coupon, weighted_months, totals_of}
use Rattle.certificates.specs.EachVerdict.{certificate_verdict, each_verdict}
use Rattle.certificates.specs.Verdict.{count_verdict, certificates_verdict}
use Rattle.certificates.specs.Filled.{filled_cells}
use Rattle.certificates.specs.Promise.{Converted}
use Rattle.lists.specs.Ranges.{within}
use Rattle.certificate_cells.proofs.ListingLaws.{cells_count, counted-items}
use Rattle.certificates.proofs.SumLaws.{Passed, balance-sum-le, coupon-sum-le, months-sum-le}

module _ (v : Date) (s : List ℕ) where
  -- no refusal of the certificates in turn: each passes
  pub each-passed : (each_verdict v s).number ≡ 0 → Passed v s (certificate_count s)
  unfolding each_verdict
  each-passed h = tried-none (certificate_verdict v s) (certificate_count s) h

  -- the count decides, or the certificates in turn do
  pub count-refuses : within 1 1000 (certificate_count s) ≡ false → refused 5 0 ≡ certificates_verdict v s
  unfolding certificates_verdict count_verdict
  count-refuses h =
      let outside : not (within 1 1000 (certificate_count s)) ≡ true = ap not h in
      condition-holds _ 5 0 outside ∙ sym (first-refused (count_verdict s) (each_verdict v s) (condition-refuses _ 4 0 outside))

  pub count-passes : within 1 1000 (certificate_count s) ≡ true → certificates_verdict v s ≡ each_verdict v s
  unfolding certificates_verdict count_verdict
  count-passes h = first-passed (count_verdict s) (each_verdict v s) (condition-none _ 5 0 (ap not h))

  -- the sums of certificates that pass, entry by entry, past the ninth too
  weighted-le : (f g : ℕ → ℕ) (limit : ℕ) → ((i : ℕ) → f i ≤ limit * g i) → (i : ℕ) → get_or (table 9 f) i 0 ≤ limit * get_or (table 9 g) i 0
  weighted-le f g limit h i = ⊎_elim inside past (lt-or-le i 9)
    where
      inside : i < 9 → get_or (table 9 f) i 0 ≤ limit * get_or (table 9 g) i 0
      inside l = rw (table-get_or 9 f i 0 l, table-get_or 9 g i 0 l) (h i)

      past : 9 ≤ i → get_or (table 9 f) i 0 ≤ limit * get_or (table 9 g) i 0
      past l =
          let long : length (table 9 f) ≤ i = rw (table-length 0 9 f) l in
          rw (get_or-eq_default (table 9 f) 0 long) (omega arith)

  -- each sum of balances passed its test; a coupon is at most its limit, so that a sum of balances times coupons is at most the limit times the
  -- sum of the balances; the same of the months
  pub totals-bounded : (n : ℕ) → Passed v s n → Bounded (totals_of v s n)
  unfolding totals_of
  totals-bounded n p =
      record {
        nine = table-length 0 9 (λ (i : ℕ). position_sum v s balance_of i n);
        balance-le = table-le 0 9 (λ (i : ℕ). position_sum v s balance_of i n) balance_limit (λ j l u. balance-sum-le v s n j p);
        coupon-le =
            weighted-le (λ (i : ℕ). position_sum v s weighted_coupon i n) (λ (i : ℕ). position_sum v s balance_of i n) filed_coupon_limit
            (λ i. coupon-sum-le v s n i p);
        months-le =
            weighted-le (λ (i : ℕ). position_sum v s (weighted_months v) i n) (λ (i : ℕ). position_sum v s balance_of i n) months_limit
            (λ i. months-sum-le v s n i p);
      }

  pub filled-some : (certificates_verdict v s).number ≡ 0 → filled_cells v s ≡ cells_of (totals_of v s (certificate_count s))
  unfolding filled_cells
  filled-some h = rw (eq-eqb (certificates_verdict v s).number 0 h)

  -- a refusal
  pub call-refused : (r : Refusal) → refused (number_of r) (location_of r) ≡ certificates_verdict v s → Converted v s (Err r)
  call-refused r h = record { answer-is = h; count-is = tt; cells_are = tt; array-is = tt }

  -- acceptance
  pub call-accepted : (cells : Cells) → cells ≡ accepted_cells (totals_of v s (certificate_count s)) → accepted ≡ certificates_verdict v s
      → Converted v s (Ok cells)
  unfolding accepted accepted_cells
  call-accepted cells e h =
      let some = filled-some (sym (ap (λ (u : Verdict). u.number) h)) in
      let count : cells.count ≡ length (filled_cells v s) = rw (e, some) in
      let array : cells.cells ≡ cell_array (filled_cells v s) = rw (e, some) in
      record { answer-is = h; count-is = count; cells_are = counted-items (filled_cells v s) cells.count cells.cells count array; array-is = array }

  pub filled-count : length (filled_cells v s) ≤ 28
  unfolding filled_cells
  filled-count = by (eqb (certificates_verdict v s).number 0)
    where
      by : (b : Bool) → length (cond b (cells_of (totals_of v s (certificate_count s))) []) ≤ 28
      by true = cells_count (totals_of v s (certificate_count s))
      by false = omega arith
