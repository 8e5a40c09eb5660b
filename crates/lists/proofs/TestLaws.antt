-- A test over a range of numbers, or over all entries of a list, is computed once and carried to each of them; what is chosen by a test.
-- Assumes nothing.
use Prim.Native.Nat.{ℕ, zero, suc, ◌+◌, ◌-◌, ◌≤◌, ◌<◌, zero-le}
use mathlib.Core.Path.{◌≡◌, refl, sym, subst, ◌∙◌}
use mathlib.Core.Logic.{⊎_elim}
use mathlib.Core.Bool.{Bool, true, false, cond, or-true, ◌&&◌, ◌||◌, true≢false}
use mathlib.Core.List.{List, [], ◌∷◌}
use native.Mathlib.Nat.{add-zero, suc-add, add-suc, le_of_suc-le-suc, not-suc-le-zero, eq-or-lt_of_le}
use native.Mathlib.Numerals.{add-one}
use native.Mathlib.Omega.{arith}
use lib.Dec.{T, leb, leb→le}
use lib.ListN.{length, get_or, set}
use Rattle.lists.specs.Tables.{any_below}

-- both sides of a conjunction that holds
pub both : (a b : Bool) → T (a && b) → T a × T b
both true b t = (tt, t)
both false b t = absurd t

-- both of two tests pass, and neither does
pub and-true : (a b : Bool) → (a && b) ≡ true → (a ≡ true) × (b ≡ true)
and-true true b e = (refl, e)
and-true false b e = absurd (true≢false (sym e))

pub neither : (a b : Bool) → (a || b) ≡ false → (a ≡ false) × (b ≡ false)
neither true b e = absurd (true≢false e)
neither false b e = (refl, e)

-- what holds of both holds of either
pub either {ℓ} : {A : Type ℓ} (P : A → Type 0) (b : Bool) {x y : A} → P x → P y → P (cond b x y)
either P true hx hy = hx
either P false hx hy = hy

-- the test passes at i, i + 1, .., n of them
unfoldable pub all_from : ℕ → ℕ → (ℕ → Bool) → Bool
all_from i zero test = true
all_from i (suc n) test = test i && all_from (suc i) n test

all-plus : (i n : ℕ) (test : ℕ → Bool) → T (all_from i n test) → (k : ℕ) → k < n → T (test (i + k))
unfolding all_from
all-plus i zero test t k h = absurd (not-suc-le-zero h)
all-plus i (suc n) test t zero h = rw add-zero (both (test i) (all_from (suc i) n test) t).0
all-plus i (suc n) test t (suc k) h =
    rw (add-suc, ← suc-add) (all-plus (suc i) n test (both (test i) (all_from (suc i) n test) t).1 k (le_of_suc-le-suc h))

-- a test that passes over a range passes at each of its numbers
pub all-at : (i n : ℕ) (test : ℕ → Bool) → T (all_from i n test) → (j : ℕ) → i ≤ j → j < i + n → T (test j)
all-at i n test t j l u =
    let e : i + (j - i) ≡ j = omega arith in
    subst (λ (m : ℕ). T (test m)) e (all-plus i n test t (j - i) (omega arith))

-- the test passes at each index of the list and its entry
abbrev pub every_entry : (ℕ → ℕ → Bool) → List ℕ → Bool
every_entry test [] = true
every_entry test (x ∷ xs) = test 0 x && every_entry (λ i. test (suc i)) xs

-- a test that passes at every entry passes at the entry k
pub entry-passes : (test : ℕ → ℕ → Bool) (xs : List ℕ) → T (every_entry test xs) → (k : ℕ) → k < length xs → T (test k (get_or xs k 0))
entry-passes test [] t k h = absurd (not-suc-le-zero h)
entry-passes test (x ∷ xs) t zero h = (both (test 0 x) (every_entry (λ i. test (suc i)) xs) t).0
entry-passes test (x ∷ xs) t (suc k) h =
    entry-passes (λ i. test (suc i)) xs (both (test 0 x) (every_entry (λ i. test (suc i)) xs) t).1 k (le_of_suc-le-suc h)

-- entries that are all at most b: so is what is read at any index, past the end too
pub entries-le : (xs : List ℕ) (b : ℕ) → T (every_entry (λ i x. leb x b) xs) → (k : ℕ) → get_or xs k 0 ≤ b
entries-le [] b t k = zero-le
entries-le (x ∷ xs) b t zero = leb→le x b (both (leb x b) (every_entry (λ i y. leb y b) xs) t).0
entries-le (x ∷ xs) b t (suc k) = entries-le xs b (both (leb x b) (every_entry (λ i y. leb y b) xs) t).1 k

-- one of the numbers below n passes a test
module _ (test : ℕ → Bool) where
  -- the next number does not pass either
  pub any_none : (n : ℕ) → any_below test n ≡ false → test n ≡ false → any_below test (n + 1) ≡ false
  unfolding any_below
  any_none n e h = rw (add-one, e) h

  any-first : (n : ℕ) → test n ≡ true → (any_below test n || test n) ≡ true
  any-first n h = rw h (or-true (any_below test n))

  -- one that passes is enough
  pub any_here : (n i : ℕ) → i < n → test i ≡ true → any_below test n ≡ true
  unfolding any_below
  any_here zero i l h = absurd (not-suc-le-zero l)
  any_here (suc n) i l h =
      ⊎_elim (λ e. any-first n (rw e at h)) (λ m. rw (any_here n i m h)) (eq-or-lt_of_le (le_of_suc-le-suc l))

  -- where none passes, each fails
  pub any-fails : (n : ℕ) → any_below test n ≡ false → (i : ℕ) → i < n → test i ≡ false
  any-fails n h i l = by (test i) refl
    where
      by : (b : Bool) → test i ≡ b → b ≡ false
      by true e = absurd (true≢false (sym (any_here n i l e) ∙ h))
      by false e = refl

-- numbers that are all at most b: so are they with one more stored
pub stored-le : (xs : List ℕ) (i v b : ℕ) → ((k : ℕ) → get_or xs k 0 ≤ b) → v ≤ b → (k : ℕ) → get_or (set xs i v) k 0 ≤ b
stored-le [] i v b h l k = h k
stored-le (x ∷ xs) zero v b h l zero = l
stored-le (x ∷ xs) zero v b h l (suc k) = h (suc k)
stored-le (x ∷ xs) (suc i) v b h l zero = h 0
stored-le (x ∷ xs) (suc i) v b h l (suc k) = stored-le xs i v b (λ j. h (suc j)) l k
