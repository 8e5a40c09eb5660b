-- The decimal digits of a number: its digits but the last, and the last; how many there are; and numbers with a sign. Assumes nothing.
use Prim.Native.Nat.{ℕ, zero, suc, ◌-◌, ◌/◌, ◌%◌, ◌^◌, ◌≤◌, ◌<◌}
use mathlib.Core.Path.{◌≡◌, refl, sym}
use mathlib.Core.Bool.{Bool, true, false}
use mathlib.Core.List.{[], ◌∷◌, ◌++◌}
use native.Mathlib.Nat.{pow-suc, pow-zero}
use native.Mathlib.Omega.{arith}
use lib.Dec.{ltb}
use Rattle.std.specs.Int.{abs_diff}
use lib.IntN.{sub_ℕ}
use lib.ListN.{length, length-append}
use borrow.Author.Tests.{lt-ltb, le-ltb, ltb-true, ltb-false}
use Rattle.text.specs.Decimal.{digit, digits_within, decimal, signed}

none_within : (m : ℕ) → digits_within m 0 ≡ []
unfolding digits_within
none_within zero = refl
none_within (suc m) = refl

-- as many digits as there may be are as good as more
within-enough : (m k n : ℕ) → n ≤ m → n ≤ k → digits_within m n ≡ digits_within k n
unfolding digits_within
within-enough zero k n hm hk =
    let e : n ≡ 0 = omega arith in
    rw e (sym (none_within k))
within-enough (suc m) zero n hm hk =
    let e : n ≡ 0 = omega arith in
    rw e
within-enough (suc m) (suc k) zero hm hk = refl
within-enough (suc m) (suc k) (suc n) hm hk = rw (within-enough m k (suc n / 10) (omega arith) (omega arith))

decimal-within : (m n : ℕ) → 0 < n → n ≤ m → decimal n ≡ digits_within m n
unfolding decimal
decimal-within m zero some h = absurd (omega arith)
decimal-within m (suc n) some h = within-enough (suc n) m (suc n) (omega arith) h

-- a number of one digit
pub decimal_one : (n : ℕ) → n < 10 → decimal n ≡ digit (n % 10) ∷ []
unfolding decimal digits_within
decimal_one zero h = refl
decimal_one (suc n) h =
    let q : suc n / 10 ≡ 0 = omega arith in
    let r : suc n % 10 ≡ suc n = omega arith in
    rw (q, r, none_within n)

-- a number of more digits
pub decimal_more : (n : ℕ) → 10 ≤ n → decimal n ≡ decimal (n / 10) ++ (digit (n % 10) ∷ [])
unfolding decimal digits_within
decimal_more zero h = absurd (omega arith)
decimal_more (suc n) h = rw (decimal-within n (suc n / 10) (omega arith) (omega arith))

length-within : (k n : ℕ) → n < 10 ^ suc k → length (decimal n) ≤ suc k
length-within zero n fits = rw (decimal_one n (omega (arith, pow-suc 10 0, pow-zero 10))) (omega arith)
length-within (suc k) n fits = by (ltb n 10) refl (length-within k (n / 10) (omega (arith, pow-suc 10 (suc k))))
  where
    by : (b : Bool) → ltb n 10 ≡ b → length (decimal (n / 10)) ≤ suc k → length (decimal n) ≤ suc (suc k)
    by true t h = rw (decimal_one n (ltb-true n 10 t)) (omega arith)
    by false t h = rw (decimal_more n (ltb-false n 10 t), length-append) (omega arith)

-- twenty digits hold a 64-bit number
pub decimal_length : (n : ℕ) → n < 2 ^ 64 → length (decimal n) ≤ 20
decimal_length n h = length-within 19 n (omega arith)

-- and nineteen its digits but the last
pub decimal_front_length : (n : ℕ) → n < 2 ^ 64 → length (decimal (n / 10)) ≤ 19
decimal_front_length n h = length-within 18 (n / 10) (omega arith)

-- a difference that is not negative, and one that is
pub signed_difference : (a b : ℕ) → b ≤ a → signed (sub_ℕ a b) ≡ decimal (abs_diff a b)
unfolding signed
signed_difference a b h =
    let e : abs_diff a b ≡ a - b = grind arith in
    rw (le-ltb a b h, e)

pub signed_negative : (a b : ℕ) → a < b → signed (sub_ℕ a b) ≡ 45 ∷ decimal (abs_diff a b)
unfolding signed
signed_negative a b h =
    let e : suc (b - suc a) ≡ abs_diff a b = grind arith in
    rw (lt-ltb a b h, e)
