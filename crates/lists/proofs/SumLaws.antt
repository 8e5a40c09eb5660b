-- Laws of sums of whole numbers: of a list, and of a function over the indices that pass a test. Assumes nothing.
use Prim.Native.Nat.{ℕ, zero, suc, ◌+◌, ◌*◌, ◌≤◌, ◌<◌}
use mathlib.Core.Path.{◌≡◌, refl, ◌∙◌}
use mathlib.Core.Bool.{Bool, true, false, cond, not}
use mathlib.Core.List.{List, [], ◌∷◌}
use native.Mathlib.Nat.{add-zero, zero-add, add-suc, suc-add, lt-suc_self, lt_trans}
use native.Mathlib.Numerals.{add-one}
use native.Mathlib.Omega.{arith}
use lib.ListN.{get_or, take}
use lib.Seq.{take-nil}
use Rattle.lists.specs.Sums.{sum, sum_where, everywhere}
use Rattle.lists.specs.Tables.{table, table_from}

-- an element is at most the sum
pub sum-get_or-le : (xs : List ℕ) (i : ℕ) → get_or xs i 0 ≤ sum xs
unfolding sum
sum-get_or-le [] i = omega arith
sum-get_or-le (x ∷ xs) zero = omega arith
sum-get_or-le (x ∷ xs) (suc i) = omega (arith, sum-get_or-le xs i)

-- the sum of one element more
pub sum-take-suc : (xs : List ℕ) (i : ℕ) → sum (take (i + 1) xs) ≡ sum (take i xs) + get_or xs i 0
unfolding sum
sum-take-suc [] i = simp take-nil
sum-take-suc (x ∷ xs) zero = omega arith
sum-take-suc (x ∷ xs) (suc i) = rw suc-add (omega (arith, sum-take-suc xs i))

-- the sum of the first elements is at most that of all
pub sum-take-le : (xs : List ℕ) (i : ℕ) → sum (take i xs) ≤ sum xs
unfolding sum
sum-take-le [] i = rw take-nil (omega arith)
sum-take-le (x ∷ xs) zero = omega arith
sum-take-le (x ∷ xs) (suc i) = omega (arith, sum-take-le xs i)

sum-table : (s n : ℕ) (f : ℕ → ℕ) → sum (table_from s (suc n) f) ≡ sum (table_from s n f) + f (s + n)
unfolding sum table_from
sum-table s zero f = let e : s + 0 ≡ s = add-zero s in rw e (omega arith)
sum-table s (suc n) f = rw (add-suc, ← suc-add) (omega (arith, sum-table (suc s) n f))

-- the sum of a table of one entry more
pub sum-table-suc : (s n : ℕ) (f : ℕ → ℕ) → sum (table_from s (n + 1) f) ≡ sum (table_from s n f) + f (s + n)
sum-table-suc s n f = rw add-one (sum-table s n f)

-- the sum of a table is that of its function over all indices
pub sum-everywhere : (f : ℕ → ℕ) (n : ℕ) → sum (table n f) ≡ sum_where everywhere f n
unfolding sum sum_where table_from
sum-everywhere f zero = refl
sum-everywhere f (suc n) = sum-table 0 n f ∙ rw (sum-everywhere f n, zero-add n)

-- functions that agree have the same sum
pub sum_where-ext : (test : ℕ → Bool) (f g : ℕ → ℕ) (n : ℕ) → ((i : ℕ) → i < n → f i ≡ g i) → sum_where test f n ≡ sum_where test g n
unfolding sum_where
sum_where-ext test f g zero h = refl
sum_where-ext test f g (suc n) h =
    rw (sum_where-ext test f g n (λ i l. h i (lt_trans l (lt-suc_self n))), h n (lt-suc_self n))

cond-le : (b : Bool) {x y : ℕ} → x ≤ y → cond b x 0 ≤ cond b y 0
cond-le true h = h
cond-le false h = omega arith

-- a function that is nowhere larger has no larger sum
pub sum_where-mono : (test : ℕ → Bool) (f g : ℕ → ℕ) (n : ℕ) → ((i : ℕ) → i < n → f i ≤ g i) → sum_where test f n ≤ sum_where test g n
unfolding sum_where
sum_where-mono test f g zero h = omega arith
sum_where-mono test f g (suc n) h =
    omega (arith, sum_where-mono test f g n (λ i l. h i (lt_trans l (lt-suc_self n))), cond-le (test n) (h n (lt-suc_self n)))

cond-add : (b : Bool) (x y : ℕ) → cond b (x + y) 0 ≡ cond b x 0 + cond b y 0
cond-add true x y = refl
cond-add false x y = omega arith

-- the sum of two functions is the sum of their sums
pub sum_where-add : (test : ℕ → Bool) (f g : ℕ → ℕ) (n : ℕ) → sum_where test (λ i. f i + g i) n ≡ sum_where test f n + sum_where test g n
unfolding sum_where
sum_where-add test f g zero = omega arith
sum_where-add test f g (suc n) = omega (arith, sum_where-add test f g n, cond-add (test n) (f n) (g n))

cond-mul : (m : ℕ) (b : Bool) (x : ℕ) → cond b (m * x) 0 ≡ m * cond b x 0
cond-mul m true x = refl
cond-mul m false x = omega arith

-- a common factor stands before the sum
pub sum_where-mul : (m : ℕ) (test : ℕ → Bool) (f : ℕ → ℕ) (n : ℕ) → sum_where test (λ i. m * f i) n ≡ m * sum_where test f n
unfolding sum_where
sum_where-mul m test f zero = omega arith
sum_where-mul m test f (suc n) = omega (arith, sum_where-mul m test f n, cond-mul m (test n) (f n))

cond-not : (b : Bool) (x : ℕ) → cond b x 0 + cond (not b) x 0 ≡ x
cond-not true x = omega arith
cond-not false x = omega arith

-- the indices that pass a test and those that do not are all indices
pub sum_where-split : (test : ℕ → Bool) (f : ℕ → ℕ) (n : ℕ)
    → sum_where test f n + sum_where (λ i. not (test i)) f n ≡ sum_where everywhere f n
unfolding sum_where
sum_where-split test f zero = omega arith
sum_where-split test f (suc n) = omega (arith, sum_where-split test f n, cond-not (test n) (f n))
