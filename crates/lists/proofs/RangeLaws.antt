-- Numbers within two others, and what a search among whole numbers finds. Assumes nothing.
use Prim.Native.Nat.{ℕ, zero, suc, ◌+◌, ◌-◌, ◌≤◌, ◌<◌}
use native.Mathlib.Numerals.{add-one}
use native.Mathlib.Nat.{eq-or-lt_of_le}
use native.Mathlib.Omega.{arith}
use mathlib.Core.Path.{◌≡◌, refl, sym, subst}
use mathlib.Core.Logic.{⊎_elim}
use mathlib.Core.Bool.{Bool, true, false, cond}
use borrow.Author.Tests.{leb-true, le-leb, lt-leb}
use lib.Dec.{leb}
use Rattle.lists.specs.Ranges.{within, first_from}
use Rattle.lists.proofs.TestLaws.{and-true}

module _ (least most x : ℕ) where
  -- a number within two others is at least the one and at most the other
  pub within_both : within least most x ≡ true → (least ≤ x) × (x ≤ most)
  unfolding within
  within_both h =
      let e = and-true (leb least x) (leb x most) h in
      (leb-true least x e.0, leb-true x most e.1)

  pub within-is : least ≤ x → x ≤ most → within least most x ≡ true
  unfolding within
  within-is l u = rw (le-leb least x l, le-leb x most u)

  pub within-below : x < least → within least most x ≡ false
  unfolding within
  within-below h = rw (lt-leb least x h)

  pub within-above : least ≤ x → most < x → within least most x ≡ false
  unfolding within
  within-above l h = rw (le-leb least x l, lt-leb x most h)

-- at least k, and not k
pub above : {i : ℕ} (k : ℕ) → k ≤ i → (i ≡ k → ⊥) → suc k ≤ i
above k l h = omega (arith, h)

-- a number that passes, where none below it does, is the least
pub least-is : (test : ℕ → Bool) (from n m : ℕ) → from ≤ m → m < from + n → test m ≡ true
    → ((k : ℕ) → from ≤ k → k < m → test k ≡ false)
    → first_from from n test ≡ m
unfolding first_from
least-is test from zero m l u t f = absurd (omega arith)
least-is test from (suc n) m l u t f =
    ⊎_elim here
    (λ h. rw (f from (omega arith) h) (least-is test (suc from) n m h (omega arith) t (λ k a b. f k (omega arith) b))) (eq-or-lt_of_le l)
  where
    here : from ≡ m → first_from from (suc n) test ≡ m
    here e = rw (rw (sym e) at t) e

-- what is found before the search ends passes the test: it is the first number, where that passes, or what is found behind it
pub least-passes : (test : ℕ → Bool) (from n : ℕ) → first_from from n test < from + n → test (first_from from n test) ≡ true
unfolding first_from
least-passes test from zero h = absurd (omega arith)
least-passes test from (suc n) h = by (test from) refl (λ u. least-passes test (suc from) n u) h
  where
    by : (b : Bool) → test from ≡ b
        → (first_from (suc from) n test < suc from + n → test (first_from (suc from) n test) ≡ true)
        → cond b from (first_from (suc from) n test) < from + suc n
        → test (cond b from (first_from (suc from) n test)) ≡ true
    by true e r u = e
    by false e r u = r (omega arith)

-- a search from i to e, step by step: it stops at i, goes on, or has nothing left
module _ (test : ℕ → Bool) (i e : ℕ) where
  left-suc : i < e → e - i ≡ suc (e - (i + 1))
  left-suc h = omega arith

  pub search-here : i < e → test i ≡ true → first_from i (e - i) test ≡ i
  unfolding first_from
  search-here h t = rw (left-suc h, t)

  pub search-next : i < e → test i ≡ false → first_from i (e - i) test ≡ first_from (i + 1) (e - (i + 1)) test
  unfolding first_from
  search-next h t = rw (left-suc h, t, add-one)

  pub search-end : e ≤ i → first_from i (e - i) test ≡ i
  unfolding first_from
  search-end h =
      let none : e - i ≡ 0 = omega arith in
      rw none

-- what is found lies between the start and the end of the search
pub least-ge : (test : ℕ → Bool) (from n : ℕ) → from ≤ first_from from n test
unfolding first_from
least-ge test from zero = omega arith
least-ge test from (suc n) = by (test from) (least-ge test (suc from) n)
  where
    by : (b : Bool) → suc from ≤ first_from (suc from) n test → from ≤ cond b from (first_from (suc from) n test)
    by true h = omega arith
    by false h = omega arith

pub least-le : (test : ℕ → Bool) (from n : ℕ) → first_from from n test ≤ from + n
unfolding first_from
least-le test from zero = omega arith
least-le test from (suc n) = by (test from) (least-le test (suc from) n)
  where
    by : (b : Bool) → first_from (suc from) n test ≤ suc from + n → cond b from (first_from (suc from) n test) ≤ from + suc n
    by true h = omega arith
    by false h = omega arith

-- what was passed over fails the test
pub least-fails : (test : ℕ → Bool) (from n k : ℕ) → from ≤ k → k < first_from from n test → test k ≡ false
unfolding first_from
least-fails test from zero k l u = absurd (omega arith)
least-fails test from (suc n) k l u = by (test from) refl (λ h g. least-fails test (suc from) n k h g) u
  where
    by : (b : Bool) → test from ≡ b → (from < k → k < first_from (suc from) n test → test k ≡ false)
        → k < cond b from (first_from (suc from) n test)
        → test k ≡ false
    by true e r g = absurd (omega arith)
    by false e r g = ⊎_elim (λ q. subst (λ (m : ℕ). test m ≡ false) q e) (λ h. r h g) (eq-or-lt_of_le l)
