-- What holds at each of the first n indices, from its n proofs. Assumes nothing.
use Prim.Native.Nat.{ℕ, zero, suc, ◌<◌}
use native.Mathlib.Nat.{not-suc-le-zero, le_of_suc-le-suc}

-- P 0, P 1, .., P (n - 1)
abbrev pub Each : ℕ → (ℕ → Type 0) → Type 0
Each zero P = Unit {0}
Each (suc n) P = P 0 × Each n (λ i. P (suc i))

-- n proofs, one for each index below n, prove it of every index below n
pub each-lt : (n : ℕ) (P : ℕ → Type 0) → Each n P → (i : ℕ) → i < n → P i
each-lt zero P e i h = absurd (not-suc-le-zero h)
each-lt (suc n) P e zero h = e.0
each-lt (suc n) P e (suc i) h = each-lt n (λ j. P (suc j)) e.1 i (le_of_suc-le-suc h)
