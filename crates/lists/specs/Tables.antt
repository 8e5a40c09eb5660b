-- Lists made from a function, and tests over lists. Definitions only.
use Rattle.std.specs.Prelude.{ℕ, zero, suc, ◌-◌, Bool, false, cond, ◌||◌, List, [], ◌∷◌, ◌++◌, eqb, length, replicate}

-- f i, f (i + 1), .., n of them
unfoldable pub table_from {ℓ} : {A : Type ℓ} → ℕ → ℕ → (ℕ → A) → List A
table_from i zero f = []
table_from i (suc n) f = f i ∷ table_from (suc i) n f

-- f 0, f 1, .., f (n - 1)
abbrev pub table {ℓ} : {A : Type ℓ} → ℕ → (ℕ → A) → List A
table n f = table_from 0 n f

-- the lists one after the other
unfoldable pub joined {ℓ} : {A : Type ℓ} → List (List A) → List A
joined [] = []
joined (l ∷ ls) = l ++ joined ls

-- a list brought to n elements with x behind it
unfoldable pub padded {ℓ} : {A : Type ℓ} → ℕ → A → List A → List A
padded n x l = l ++ replicate (n - length l) x

-- the elements that pass the test, in their order
unfoldable pub those {ℓ} : {A : Type ℓ} → (A → Bool) → List A → List A
those test [] = []
those test (x ∷ xs) = cond (test x) (x ∷ those test xs) (those test xs)

-- x is among the numbers of the list
unfoldable pub contains : List ℕ → ℕ → Bool
contains [] x = false
contains (y ∷ ys) x = eqb x y || contains ys x

-- one of the numbers below n passes the test
unfoldable pub any_below : (ℕ → Bool) → ℕ → Bool
any_below test zero = false
any_below test (suc n) = any_below test n || test n
