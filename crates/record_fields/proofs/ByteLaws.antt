-- Numbers in bytes: one byte more, the bound of a number, and a read past the end.
-- Assumes nothing.
use Prim.Native.Nat.{ℕ, zero, suc, ◌+◌, ◌*◌, ◌-◌, ◌^◌, ◌≤◌, ◌<◌}
use native.Mathlib.Nat.{pow-succ', pow-le-pow_right}
use native.Mathlib.Omega.{arith}
use mathlib.Core.Path.{◌≡◌, refl}
use mathlib.Core.List.{List}
use mir.Syntax.{w8}
use mir.Val.{Fits}
use lib.Dec.{lit<}
use lib.ListN.{length, get_or, get_or-eq_default}
use Rattle.record_fields.specs.Bytes.{number_at}

-- every element is a byte
abbrev pub Bytes : List ℕ → Type 0
Bytes s = (i : ℕ) → Fits w8 (get_or s i 0)

-- a number of n bytes is below 256 ^ n
pub number_lt : (s : List ℕ) (i n : ℕ) → Bytes s → number_at s i n < 256 ^ n
unfolding number_at
number_lt s i zero h = lit< tt
number_lt s i (suc n) h = omega (arith, (h i).fits, number_lt s (i + 1) n h, pow-succ' 256 n)

-- with one byte more, a number of fewer than 8 bytes stays below 2 ^ 64
pub number-byte-le : (s : List ℕ) (i n : ℕ) → Bytes s → n < 8 → number_at s i n * 256 + 256 ≤ 2 ^ 64
number-byte-le s i n h l =
    omega (arith, number_lt s i n h, pow-succ' 256 n, pow-le-pow_right (lit< {m = 0} {n = 256} tt) l)

-- a number that starts past the end is 0
pub number_past : (s : List ℕ) (i n : ℕ) → length s ≤ i → number_at s i n ≡ 0
unfolding number_at
number_past s i zero h = refl
number_past s i (suc n) h =
    omega (arith, number_past s (i + 1) n (omega arith), get_or-eq_default s 0 {n = i} h)

-- the bytes from `left` on, with the one before them
pub number_step : (s : List ℕ) (at width left : ℕ) → 0 < left → left ≤ width
    → number_at s (at + (left - 1)) (width - (left - 1)) ≡ number_at s (at + left) (width - left) * 256 + get_or s (at + (left - 1)) 0
unfolding number_at
number_step s at width left p l =
    let n : width - (left - 1) ≡ suc (width - left) = omega arith in
    let i : at + (left - 1) + 1 ≡ at + left = omega arith in
    rw (n, i) (omega arith)

-- eight bytes as two halves
pub number-halves : (s : List ℕ) (i : ℕ) → number_at s i 8 ≡ number_at s i 4 + 4294967296 * number_at s (i + 4) 4
unfolding number_at
number-halves s i =
    let e : i + 1 + 1 + 1 + 1 ≡ i + 4 = omega arith in
    rw e (omega arith)
