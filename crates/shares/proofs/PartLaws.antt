-- Laws of a column's parts, retail and brokered in turn: what stands at a part, and that the parts add up to the column's balances where no
-- brokered share exceeds its balance. Assumes nothing.
use Prim.Native.Nat.{ℕ, zero, suc, ◌+◌, ◌*◌, ◌-◌, ◌≤◌}
use mathlib.Core.Path.{◌≡◌, refl}
use mathlib.Core.List.{List, [], ◌∷◌}
use native.Mathlib.Nat.{suc_inj}
use native.Mathlib.Omega.{arith}
use lib.ListN.{length, get_or, take}
use lib.Seq.{take-nil}
use Rattle.lists.specs.Sums.{sum}
use Rattle.lists.proofs.SumLaws.{sum-take-suc}
use Rattle.shares.specs.SubBalances.{account_parts}

-- the parts add up to the balances
pub parts-sum : (bs ks : List ℕ) → length ks ≡ length bs → ((i : ℕ) → get_or ks i 0 ≤ get_or bs i 0) → sum (account_parts bs ks) ≡ sum bs
unfolding account_parts sum
parts-sum [] ks e h = refl
parts-sum (b ∷ bs) [] e h = omega arith
parts-sum (b ∷ bs) (k ∷ ks) e h = omega (arith, parts-sum bs ks (suc_inj e) (λ i. h (suc i)), h 0)

-- part 2 × i is the retail balance of row i, counted from 0
pub retail-part : (bs ks : List ℕ) → length ks ≡ length bs → (i : ℕ) → get_or (account_parts bs ks) (2 * i) 0 ≡ get_or bs i 0 - get_or ks i 0
unfolding account_parts
retail-part [] ks e i = omega arith
retail-part (b ∷ bs) [] e i = omega arith
retail-part (b ∷ bs) (k ∷ ks) e zero = refl
retail-part (b ∷ bs) (k ∷ ks) e (suc i) =
    let two : 2 * suc i ≡ suc (suc (2 * i)) = omega arith in
    rw (two, retail-part bs ks (suc_inj e) i)

-- part 2 × i + 1 is its brokered balance
pub brokered-part : (bs ks : List ℕ) → length ks ≡ length bs → (i : ℕ) → get_or (account_parts bs ks) (2 * i + 1) 0 ≡ get_or ks i 0
unfolding account_parts
brokered-part [] [] e i = refl
brokered-part [] (k ∷ ks) e i = omega arith
brokered-part (b ∷ bs) [] e i = refl
brokered-part (b ∷ bs) (k ∷ ks) e zero = refl
brokered-part (b ∷ bs) (k ∷ ks) e (suc i) =
    let two : 2 * suc i + 1 ≡ suc (suc (2 * i + 1)) = omega arith in
    rw (two, brokered-part bs ks (suc_inj e) i)

-- the parts above row i add up to the balances above it
pub parts-above : (bs ks : List ℕ) → length ks ≡ length bs → ((i : ℕ) → get_or ks i 0 ≤ get_or bs i 0)
    → (i : ℕ) → sum (take (2 * i) (account_parts bs ks)) ≡ sum (take i bs)
unfolding account_parts sum
parts-above [] ks e h i = simp take-nil
parts-above (b ∷ bs) [] e h i = omega arith
parts-above (b ∷ bs) (k ∷ ks) e h zero = refl
parts-above (b ∷ bs) (k ∷ ks) e h (suc i) =
    let two : 2 * suc i ≡ suc (suc (2 * i)) = omega arith in
    rw two (omega (arith, parts-above bs ks (suc_inj e) (λ j. h (suc j)) i, h 0))

-- with its retail balance they add up to the balances above it and that
pub parts-through-retail : (bs ks : List ℕ) → length ks ≡ length bs → ((i : ℕ) → get_or ks i 0 ≤ get_or bs i 0)
    → (i : ℕ) → sum (take (2 * i + 1) (account_parts bs ks)) ≡ sum (take i bs) + (get_or bs i 0 - get_or ks i 0)
parts-through-retail bs ks e h i =
    omega (arith, sum-take-suc (account_parts bs ks) (2 * i), parts-above bs ks e h i, retail-part bs ks e i)
