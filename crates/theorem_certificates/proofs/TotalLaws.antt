-- The total of the nine balances: within its limit, and the sum of all certificates' balances; and the cells ascend. Assumes nothing.
use Prim.Native.Nat.{ℕ, zero, suc, ◌+◌, ◌*◌, ◌≤◌, ◌<◌}
use native.Mathlib.Nat.{lt-suc_self, lt_trans, eq-or-lt_of_le}
use native.Mathlib.Omega.{arith}
use mathlib.Core.Path.{◌≡◌, refl, sym, ap, ◌∙◌}
use mathlib.Core.Logic.{⊎_elim}
use mathlib.Core.Bool.{cond}
use mathlib.Core.List.{List}
use borrow.Author.Tests.{eq-eqb, ne_eqb}
use lib.Dec.{eqb}
use Rattle.lists.specs.Sums.{sum, sum_where, everywhere}
use Rattle.lists.specs.Tables.{table_from, table}
use Rattle.lists.proofs.TableLaws.{table-ext}
use Rattle.form.specs.Limits.{balance_limit, total_limit}
use Rattle.certificate_calendar.specs.declared.Date.{Date}
use Rattle.certificate_terms.specs.Terms.{certificate_count, certificate_at, position_of}
use Rattle.certificates.specs.Sums.{position_sum, balance_of, totals_of}
use Rattle.certificates.specs.Verdict.{certificates_verdict}
use Rattle.certificate_terms.proofs.FaultLaws.{sound-position}
use Rattle.certificates.proofs.SumLaws.{Passed, passed-sound, sum-none, sum-suc, balance-sum-le}
use Rattle.theorem_certificates.proofs.FilledLaws.{all-passed}

-- sums of tables: bounded, of two functions, and of one entry
table-sum-le : (i n limit : ℕ) (f : ℕ → ℕ) → ((j : ℕ) → f j ≤ limit) → sum (table_from i n f) ≤ limit * n
unfolding sum table_from
table-sum-le i zero limit f h = omega arith
table-sum-le i (suc n) limit f h = omega (arith, h i, table-sum-le (suc i) n limit f h)

table-sum-add : (i n : ℕ) (f g : ℕ → ℕ) → sum (table_from i n (λ j. f j + g j)) ≡ sum (table_from i n f) + sum (table_from i n g)
unfolding sum table_from
table-sum-add i zero f g = refl
table-sum-add i (suc n) f g = omega (arith, table-sum-add (suc i) n f g)

table-sum-none : (i n p x : ℕ) → p < i → sum (table_from i n (λ j. cond (eqb p j) x 0)) ≡ 0
unfolding sum table_from
table-sum-none i zero p x h = refl
table-sum-none i (suc n) p x h = rw (ne_eqb p i (λ e. omega arith)) (omega (arith, table-sum-none (suc i) n p x (omega arith)))

table-sum-one : (i n p x : ℕ) → i ≤ p → p < i + n → sum (table_from i n (λ j. cond (eqb p j) x 0)) ≡ x
unfolding sum table_from
table-sum-one i zero p x l u = absurd (omega arith)
table-sum-one i (suc n) p x l u =
    ⊎_elim (λ e. rw (eq-eqb p i (sym e)) (omega (arith, table-sum-none (suc i) n p x (omega arith))))
    (λ h. rw (ne_eqb p i (λ e. omega arith)) (omega (arith, table-sum-one (suc i) n p x h (omega arith)))) (eq-or-lt_of_le l)

nine-zeros : sum (table 9 (λ (i : ℕ). 0)) ≡ 0
unfolding sum table_from
nine-zeros = refl

module _ (v : Date) (s : List ℕ) where
  -- a certificate more adds its balance
  sums-suc : (n : ℕ) → position_of v (certificate_at s n) < 9
      → sum (table 9 (λ (i : ℕ). position_sum v s balance_of i (suc n)))
      ≡ sum (table 9 (λ (i : ℕ). position_sum v s balance_of i n)) + (certificate_at s n).balance
  sums-suc n h =
      let p = position_of v (certificate_at s n) in
      let x = (certificate_at s n).balance in
      ap sum (table-ext 9 (λ (i : ℕ). position_sum v s balance_of i (suc n)) (λ (i : ℕ). position_sum v s balance_of i n + cond (eqb p i) x 0) (λ i l. sum-suc v s balance_of i n))
      ∙ table-sum-add 0 9 (λ (i : ℕ). position_sum v s balance_of i n) (λ (i : ℕ). cond (eqb p i) x 0)
      ∙ ap (λ (m : ℕ). sum (table 9 (λ (i : ℕ). position_sum v s balance_of i n)) + m) (table-sum-one 0 9 p x (omega arith) h)

  -- the nine balances are those of all certificates
  pub nine-balances : (n : ℕ) → Passed v s n
      → sum (totals_of v s n).balance ≡ sum_where everywhere (λ (k : ℕ). (certificate_at s k).balance) n
  unfolding totals_of sum_where
  nine-balances zero p = none
    where
      none : sum (table 9 (λ (i : ℕ). position_sum v s balance_of i 0)) ≡ 0
      none = ap sum (table-ext 9 (λ (i : ℕ). position_sum v s balance_of i 0) (λ (i : ℕ). 0) (λ i l. sum-none v s balance_of i)) ∙ nine-zeros
  nine-balances (suc n) p =
      sums-suc n (sound-position v (certificate_at s n) (passed-sound v s (suc n) p n (lt-suc_self n)))
      ∙ ap (λ (m : ℕ). m + (certificate_at s n).balance) (nine-balances n (λ k h. p k (lt_trans h (lt-suc_self n))))

  module _ (accepted : (certificates_verdict v s).number ≡ 0) where
    pub filled-total-le : sum (totals_of v s (certificate_count s)).balance ≤ total_limit
    unfolding totals_of
    filled-total-le =
        omega (
          arith,
          table-sum-le 0 9 balance_limit (λ (i : ℕ). position_sum v s balance_of i (certificate_count s))
              (λ i. balance-sum-le v s (certificate_count s) i (all-passed v s accepted)),
        )

    pub filled-total : sum (totals_of v s (certificate_count s)).balance ≡ sum_where everywhere (λ (k : ℕ). (certificate_at s k).balance) (certificate_count s)
    filled-total = nine-balances (certificate_count s) (all-passed v s accepted)
