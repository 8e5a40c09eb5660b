-- Sums of whole numbers: of a list, of a function over the first n indices, and of those indices that pass a test.
-- Definitions only.
use Rattle.std.specs.Prelude.{ℕ, zero, suc, ◌+◌, Bool, true, cond, List, [], ◌∷◌}

-- x₀ + x₁ + ..
unfoldable pub sum : List ℕ → ℕ
sum [] = 0
sum (x ∷ xs) = x + sum xs

-- f 0 + f 1 + .. + f (n - 1), of the indices i whose test passes
unfoldable pub sum_where : (ℕ → Bool) → (ℕ → ℕ) → ℕ → ℕ
sum_where test f zero = 0
sum_where test f (suc n) = sum_where test f n + cond (test n) (f n) 0

-- the test that passes at every index
abbrev pub everywhere : ℕ → Bool
everywhere i = true
