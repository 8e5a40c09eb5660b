-- Laws of a sum over places of which one changes, and of a total that is moved by the difference. Assumes nothing.
use Prim.Native.Nat.{ℕ, zero, suc, ◌+◌, ◌*◌, ◌-◌, ◌^◌, ◌≤◌, ◌<◌, zero-le}
use mathlib.Core.Path.{◌≡◌, refl, sym, ◌∙◌}
use mathlib.Core.Logic.{⊎_elim}
use mathlib.Core.Bool.{Bool, true, false, cond}
use native.Mathlib.Nat.{min-eq_right, not-suc-le-zero, le_of_suc-le-suc, eq-or-lt_of_le, ne_of_lt, lt_trans, lt-suc_self}
use native.Mathlib.Omega.{arith}
use Rattle.lists.specs.Sums.{sum_where}
use Rattle.lists.proofs.SumLaws.{sum_where-ext}
use Rattle.lists.proofs.TestLaws.{either}
use Rattle.book_totals.specs.KeptTotals.{moved}

-- no sum of 0s
pub zeros-sum : (test : ℕ → Bool) (n : ℕ) → sum_where test (λ _. 0) n ≡ 0
unfolding sum_where
zeros-sum test zero = refl
zeros-sum test (suc n) = rw (zeros-sum test n) (by (test n))
  where
    by : (b : Bool) → 0 + cond b 0 0 ≡ 0
    by true = refl
    by false = refl

-- n places of at most the limit each
pub sum-small : (test : ℕ → Bool) (f : ℕ → ℕ) (limit n : ℕ) → ((i : ℕ) → i < n → f i ≤ limit) → sum_where test f n ≤ limit * n
unfolding sum_where
sum-small test f limit zero h = omega arith
sum-small test f limit (suc n) h =
    omega (arith, sum-small test f limit n (λ i l. h i (lt_trans l (lt-suc_self n))), either (λ (x : ℕ). x ≤ limit) (test n) (h n (lt-suc_self n)) zero-le)

-- a place has no more than all places together
pub place-in-sum : (test : ℕ → Bool) (f : ℕ → ℕ) (n p : ℕ) → p < n → cond (test p) (f p) 0 ≤ sum_where test f n
unfolding sum_where
place-in-sum test f zero p h = absurd (not-suc-le-zero h)
place-in-sum test f (suc n) p h =
    ⊎_elim (λ e. rw e (omega arith)) (λ l. omega (arith, place-in-sum test f n p l)) (eq-or-lt_of_le (le_of_suc-le-suc h))

-- where only place p changes, the sum loses what p had and gains what it has
pub sum-changed : (test : ℕ → Bool) (f g : ℕ → ℕ) (n p : ℕ) → p < n → ((i : ℕ) → (i ≡ p → ⊥) → f i ≡ g i)
    → sum_where test g n + cond (test p) (f p) 0 ≡ sum_where test f n + cond (test p) (g p) 0
unfolding sum_where
sum-changed test f g zero p h same = absurd (not-suc-le-zero h)
sum-changed test f g (suc n) p h same =
    ⊎_elim (λ e. rw e (omega (arith, sum_where-ext test f g n (λ i l. same i (λ q. ne_of_lt l (q ∙ e))))))
    (λ l. rw (same n (λ q. ne_of_lt l (sym q))) (omega (arith, sum-changed test f g n p l same))) (eq-or-lt_of_le (le_of_suc-le-suc h))

-- a total that sums the place is moved, another is left: it is the sum after the change
pub moved-is : (b : Bool) (total old new after : ℕ) → after + cond b old 0 ≡ total + cond b new 0 → cond b old 0 ≤ total → after ≤ 2 ^ 64 - 1
    → cond b (moved total old new) total ≡ after
unfolding moved
moved-is true total old new after e l fits =
    let left : total - old + new ≡ after = omega arith in
    rw left (min-eq_right fits)
moved-is false total old new after e l fits = omega arith
