-- Tiers whose edges fall from the first on: the house's, and those of which each edge is above the next one's. Assumes nothing.
use Prim.Native.Nat.{ℕ, zero, suc, ◌+◌, ◌≤◌, ◌<◌}
use mathlib.Core.List.{List, [], ◌∷◌}
use native.Mathlib.Nat.{le_refl, le_of_lt, lt_of_lt_of_le}
use native.Mathlib.Omega.{arith}
use lib.Dec.{lit<}
use Rattle.lists.specs.Tables.{table_from}
use Rattle.withdrawal.specs.Tiers.{WithdrawalTier, Below, Falling, tier, house_tiers}

pub house-falling : Falling house_tiers.tiers
unfolding house_tiers tier
house-falling = ((lit< tt, (lit< tt, (lit< tt, (lit< tt, (lit< tt, tt))))), ((lit< tt, (lit< tt, (lit< tt, (lit< tt, tt)))), ((lit< tt, (lit< tt, (lit< tt, tt))), ((lit< tt, (lit< tt, tt)), ((lit< tt, tt), (tt, tt))))))

below-mono : {a b : ℕ} → a ≤ b → (xs : List WithdrawalTier) → Below a xs → Below b xs
below-mono h [] l = tt
below-mono h (x ∷ xs) l = (lt_of_lt_of_le l.0 h, below-mono h xs l.1)

-- tiers of which each is above the next
pub falling-from : (s n : ℕ) (f : ℕ → WithdrawalTier) → ((i : ℕ) → s ≤ i → suc i < s + n → (f (suc i)).edge < (f i).edge) → Falling (table_from s n f)
unfolding table_from
falling-from s zero f h = tt
falling-from s (suc zero) f h = (tt, tt)
falling-from s (suc (suc n)) f h =
    let rest = falling-from (suc s) (suc n) f (λ i l u. h i (omega arith) (omega arith)) in
    let next = h s (le_refl s) (omega arith) in
    ((next, below-mono (le_of_lt next) (table_from (suc (suc s)) n f) rest.0), rest)
