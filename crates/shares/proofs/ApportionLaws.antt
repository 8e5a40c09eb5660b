-- Laws of an amount split over parts by cumulative shares, for any amount and any parts: the shares add up to the amount, and none exceeds its
-- part. Assumes nothing.
use Prim.Native.Nat.{ℕ, zero, suc, ◌+◌, ◌*◌, ◌/◌, ◌≤◌}
use mathlib.Core.Path.{◌≡◌, refl, ap, ◌∙◌}
use mathlib.Core.List.{List, [], ◌∷◌}
use native.Mathlib.Nat.{le-add_right, div-zero, zero-div, div-mul-le_self, lt-div-mul-add, le-div_iff_mul-le, div-lt_iff_lt-mul, mul-div_cancel, add-zero, add_assoc, sub_self, mul-zero, mul-le-mul_left, mul-le-mul_right, zero-add, zero-lt-suc}
use native.Mathlib.Omega.{arith}
use lib.ListN.{length, get_or, take}
use lib.Seq.{take-nil}
use Rattle.lists.specs.Sums.{sum}
use Rattle.shares.specs.Apportion.{cumulative_share, share_behind, shares_from, apportion}

-- the share of more parts is not smaller
pub cumulative-mono : (amount total : ℕ) {running more : ℕ} → running ≤ more → cumulative_share amount total running ≤ cumulative_share amount total more
unfolding cumulative_share
cumulative-mono amount zero {running} {more} h = omega (arith, div-zero (amount * running), div-zero (amount * more))
cumulative-mono amount (suc n) {running} {more} h =
    (le-div_iff_mul-le {y = amount * more} (zero-lt-suc n)).1
    (omega (arith, div-mul-le_self (amount * running) (suc n), mul-le-mul_left amount h))

-- no parts have no share
cumulative-none : (amount total : ℕ) → cumulative_share amount total 0 ≡ 0
unfolding cumulative_share
cumulative-none amount total = rw (mul-zero, zero-div)

-- all parts share the whole amount
cumulative-all : (amount total : ℕ) → amount ≤ total → cumulative_share amount total total ≡ amount
unfolding cumulative_share
cumulative-all amount zero h = omega (arith, div-zero (amount * 0))
cumulative-all amount (suc n) h = mul-div_cancel amount (zero-lt-suc n)

-- the shares of the parts behind a sum of `before` are what the cumulative share grows by
shares_from-sum : (amount total before : ℕ) (parts : List ℕ)
    → cumulative_share amount total before + sum (shares_from amount total before parts) ≡ cumulative_share amount total (before + sum parts)
unfolding shares_from sum
shares_from-sum amount total before [] = simp add-zero
shares_from-sum amount total before (x ∷ xs) =
    omega (
      arith,
      shares_from-sum amount total (before + x) xs,
      ap (cumulative_share amount total) (add_assoc before x (sum xs)),
      cumulative-mono amount total (le-add_right before x),
    )

-- a part x has a share of at most x: amount × (running + x) ≤ amount × running + total × x < (the share + 1 + x) × total
pub share-le : (amount total before x : ℕ) → amount ≤ total → share_behind amount total before x ≤ x
unfolding cumulative_share
share-le amount zero before x h = omega (arith, div-zero (amount * (before + x)))
share-le amount (suc n) before x h =
    omega (
      arith,
      (div-lt_iff_lt-mul {x = amount * (before + x)} {y = amount * before / suc n + x + 1} (zero-lt-suc n)).1
          (omega (arith, lt-div-mul-add {a = amount * before} (zero-lt-suc n), mul-le-mul_right x h)),
    )

shares_from-le : (amount total before : ℕ) (parts : List ℕ) → amount ≤ total
    → (i : ℕ) → get_or (shares_from amount total before parts) i 0 ≤ get_or parts i 0
unfolding shares_from
shares_from-le amount total before [] h i = omega arith
shares_from-le amount total before (x ∷ xs) h zero = share-le amount total before x h
shares_from-le amount total before (x ∷ xs) h (suc i) = shares_from-le amount total (before + x) xs h i

shares_from-length : (amount total before : ℕ) (parts : List ℕ) → length (shares_from amount total before parts) ≡ length parts
unfolding shares_from
shares_from-length amount total before [] = refl
shares_from-length amount total before (x ∷ xs) = ap suc (shares_from-length amount total (before + x) xs)

shares_from-get_or : (amount total before : ℕ) (parts : List ℕ) (i : ℕ)
    → get_or (shares_from amount total before parts) i 0 ≡ share_behind amount total (before + sum (take i parts)) (get_or parts i 0)
unfolding shares_from sum
shares_from-get_or amount total before [] i = simp (take-nil, add-zero, sub_self)
shares_from-get_or amount total before (x ∷ xs) zero = simp add-zero
shares_from-get_or amount total before (x ∷ xs) (suc i) =
    shares_from-get_or amount total (before + x) xs i
    ∙ ap (λ (b : ℕ). share_behind amount total b (get_or xs i 0)) (add_assoc before x (sum (take i xs)))

-- the shares add up to the amount
pub apportion-sum : (amount : ℕ) (parts : List ℕ) → amount ≤ sum parts → sum (apportion amount parts) ≡ amount
unfolding apportion
apportion-sum amount parts h =
    omega (
      arith,
      rw zero-add at (shares_from-sum amount (sum parts) 0 parts),
      cumulative-none amount (sum parts),
      cumulative-all amount (sum parts) h,
    )

-- no share exceeds its part
pub apportion-le : (amount : ℕ) (parts : List ℕ) → amount ≤ sum parts → (i : ℕ) → get_or (apportion amount parts) i 0 ≤ get_or parts i 0
unfolding apportion
apportion-le amount parts h i = shares_from-le amount (sum parts) 0 parts h i

-- a share is that of its part behind the sum of the parts before it
pub apportion-get_or : (amount : ℕ) (parts : List ℕ) (i : ℕ)
    → get_or (apportion amount parts) i 0 ≡ share_behind amount (sum parts) (sum (take i parts)) (get_or parts i 0)
unfolding apportion
apportion-get_or amount parts i = shares_from-get_or amount (sum parts) 0 parts i ∙ simp zero-add

-- there is a share for each part
pub apportion-length : (amount : ℕ) (parts : List ℕ) → length (apportion amount parts) ≡ length parts
unfolding apportion
apportion-length amount parts = shares_from-length amount (sum parts) 0 parts
