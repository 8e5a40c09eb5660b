-- Survival is the largest whole number that the power rule passes (01:51). Assumes nothing.
use Prim.Native.Nat.{ℕ, zero, suc, ◌+◌, ◌*◌, ◌-◌, ◌^◌, ◌≤◌, ◌<◌, zero-le}
use mathlib.Core.Path.{◌≡◌, refl}
use mathlib.Core.Bool.{Bool, true, false, not, cond, ◌&&◌}
use mathlib.Core.List.{List}
use native.Mathlib.Nat.{le_trans, le_antisymm, lt_of_not-le, not-le_of_lt, sub-le, mul-le-mul_right, mul-lt-mul_of_pos_right, pow-le-pow_left, le_of_suc-le-suc, pow-suc}
use native.Mathlib.Omega.{arith}
use lib.Dec.{T, T_not, leb→le, le→leb, lit<}
use lib.ListN.{length, get_or}
use Rattle.lists.proofs.TableLaws.{table-get_or}
use Rattle.lists.proofs.TestLaws.{both, every_entry, entry-passes}
use Rattle.lists.proofs.FillLaws.{fill-all}
use Rattle.form.specs.Limits.{withdrawal_limit}
use Rattle.withdrawal.specs.Survival.{full_survival, survives, with_bits, survival, survival_figures}

-- r is the largest number that passes the test
pub record Largest (test : ℕ → Bool) (r : ℕ) : Type 0 where
  pub passes : T (test r)
  pub above : (x : ℕ) → T (test x) → x ≤ r

-- what holds of both arms, each where its side of the test holds, holds of the choice
pub cond_cases : (P : ℕ → Type 0) (b : Bool) (x y : ℕ) → (T b → P x) → (T (not b) → P y) → P (cond b x y)
cond_cases P true x y f g = f tt
cond_cases P false x y f g = g tt

module _ (test : ℕ → Bool) (down : (a b : ℕ) → a ≤ b → T (test b) → T (test a)) where
  -- Of a test that passes below whatever passes: q passes, and what passes is below q + 2^k. Then q with its lower k bits is the largest
  with-bits-largest : (k q : ℕ) → T (test q) → ((x : ℕ) → T (test x) → x < q + 2 ^ k) → Largest test (with_bits test k q)
  unfolding with_bits
  with-bits-largest zero q t h = record { passes = t; above = λ x p. omega (arith, h x p) }
  with-bits-largest (suc k) q t h =
      cond_cases (λ r. Largest test (with_bits test k r)) (test (q + 2 ^ k)) (q + 2 ^ k) q
      (λ p. with-bits-largest k (q + 2 ^ k) p (λ x px. omega (arith, h x px, pow-suc 2 k)))
      (λ n. with-bits-largest k q t (λ x px. lt_of_not-le (λ l. T_not (test (q + 2 ^ k)) n (down (q + 2 ^ k) x l px))))

-- what the power rule passes is below any number whose twelfth power is above 10^108
survives-lt : (w q b : ℕ) → 10 ^ 108 < b ^ 12 → T (survives w q) → q < b
unfolding survives
survives-lt w q b h p = lt_of_not-le
    (λ l. not-le_of_lt (mul-lt-mul_of_pos_right h (lit< tt))
    (le_trans (mul-le-mul_right 1000 (pow-le-pow_left l 12))
    (le_trans (leb→le _ _ p) (mul-le-mul_right (10 ^ 108) (sub-le 1000 w)))))

survives-down : (w a b : ℕ) → a ≤ b → T (survives w b) → T (survives w a)
unfolding survives
survives-down w a b l p = le→leb _ _ (le_trans (mul-le-mul_right 1000 (pow-le-pow_left l 12)) (leb→le _ _ p))

-- survival of w passes the power rule, and whatever passes it is at most that
pub survival-is-largest : (w : ℕ) → Largest (survives w) (survival w)
unfolding survives survival
survival-is-largest w =
    with-bits-largest (survives w) (survives-down w) 30 0 (le→leb 0 ((1000 - w) * 10 ^ 108) zero-le) (λ x p. survives-lt w x (2 ^ 30) (lit< tt) p)

-- survival is at most the whole
pub survival-le : (w : ℕ) → survival w ≤ full_survival
survival-le w = le_of_suc-le-suc (survives-lt w (survival w) (full_survival + 1) (lit< tt) (survival-is-largest w).passes)

-- nothing withdrawn: all survives (01:70)
pub survival-of-zero : survival 0 ≡ full_survival
unfolding survives with_bits survival
survival-of-zero = refl

-- q passes the power rule and q + 1 does not
unfoldable pub is_survival : ℕ → ℕ → Bool
is_survival w q = survives w q && not (survives w (suc q))

-- such a q is the survival of w
survival-of-rule : (w q : ℕ) → T (is_survival w q) → q ≡ survival w
unfolding is_survival
survival-of-rule w q t =
    le_antisymm ((survival-is-largest w).above q rule.0)
    (le_of_suc-le-suc (lt_of_not-le (λ l. T_not (survives w (suc q)) rule.1 (survives-down w (suc q) (survival w) l (survival-is-largest w).passes))))
  where
    rule : T (survives w q) × T (not (survives w (suc q)))
    rule = both (survives w q) (not (survives w (suc q))) t

-- figures that all obey the rule are the survival figures
pub figures-are : (figures : List ℕ) → T (every_entry is_survival figures) → length figures ≡ suc withdrawal_limit → figures ≡ survival_figures
unfolding survival_figures
figures-are figures t e =
    fill-all survival 0 (suc withdrawal_limit) figures
    (record { long = e; holds = λ w h. survival-of-rule w (get_or figures w 0) (entry-passes is_survival figures t w (rw e h)) })

-- the figure of an annual withdrawal
pub figure-at : (w : ℕ) → w ≤ withdrawal_limit → get_or survival_figures w 0 ≡ survival w
unfolding survival_figures
figure-at w h = table-get_or (suc withdrawal_limit) survival w 0 (omega arith)
