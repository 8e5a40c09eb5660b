-- Whole numbers from one to another: whether a number is among them, and the first that passes a test. Definitions only.
use Rattle.std.specs.Prelude.{ℕ, zero, suc, Bool, cond, ◌&&◌, leb}

-- x is one of least, least + 1, .., most
unfoldable pub within : ℕ → ℕ → ℕ → Bool
within least most x = leb least x && leb x most

-- the first of from, from + 1, .., n of them, that passes the test; from + n where none does
unfoldable pub first_from : ℕ → ℕ → (ℕ → Bool) → ℕ
first_from from zero test = from
first_from from (suc n) test = cond (test from) from (first_from (suc from) n test)
