-- The bits of a word with one bit set, and the members of a set with one number put into it.
-- Assumes nothing.
use Prim.Native.Nat.{ℕ, zero, suc, ◌+◌, ◌-◌, ◌*◌, ◌/◌, ◌%◌, ◌^◌, ◌<◌, max}
use native.Mathlib.Nat.{pow-succ', mod-lt, div-eq_of_lt, div_self, mul-mod_right}
use native.Mathlib.Omega.{arith}
use mathlib.Core.Path.{◌≡◌, refl, ap, ◌∙◌}
use mathlib.Core.Bool.{Bool, true, false, ◌||◌}
use mathlib.Core.List.{List}
use borrow.Author.Tests.{eqb-true, eqb-false, eq-eqb, ne_eqb, ltb-true, ltb-false}
use lib.Bits.{bit_or, or_step, or_shr}
use lib.Dec.{eqb, ltb, lit<}
use lib.ListN.{length, get_or}
use lib.Pow.{pow_pos, pow-lt, pow-add, shl_exact, shl-shr}
use lib.Seq.{get_or-set_same, get_or-set_other}
use Rattle.record_checks.specs.Members.{bit, member, with_member}

-- the lowest bit of a union: a union is twice that of the halves and the larger of the lowest bits, each of which is 0 or 1
or-odd : (a b : ℕ) → bit_or a b % 2 ≡ max (a % 2) (b % 2)
or-odd a b =
    ap (λ (x : ℕ). x % 2) (or_step a b) ∙ digit (bit_or (a / 2) (b / 2)) (a % 2) (b % 2) (mod-lt a (lit< tt)) (mod-lt b (lit< tt))
  where
    digit : (q x y : ℕ) → x < 2 → y < 2 → (q * 2 + max x y) % 2 ≡ max x y
    digit q zero zero h k = omega arith
    digit q zero (suc zero) h k = omega arith
    digit q zero (suc (suc y)) h k = absurd (omega arith)
    digit q (suc zero) zero h k = omega arith
    digit q (suc zero) (suc zero) h k = omega arith
    digit q (suc zero) (suc (suc y)) h k = absurd (omega arith)
    digit q (suc (suc x)) y h k = absurd (omega arith)

-- a power of two has its own bit and no other: a lower one divided by 2^k is 0, a higher one is even
power-other : (b k : ℕ) → (k ≡ b → ⊥) → 2 ^ b / 2 ^ k % 2 ≡ 0
power-other b k other = by (ltb b k) refl
  where
    by : (below : Bool) → ltb b k ≡ below → 2 ^ b / 2 ^ k % 2 ≡ 0
    by true e = ap (λ (x : ℕ). x % 2) (div-eq_of_lt (pow-lt (ltb-true b k e)))
    by false e =
        let above = ltb-false b k e in
        let m = b - k - 1 in
        let is : b ≡ suc m + k = omega arith in
        rw (is, pow-add 2 (suc m) k, shl-shr (2 ^ suc m) k, pow-succ' 2 m) (mul-mod_right 2 (2 ^ m))

-- a word with one bit set: bit k of a union is the larger of the two bits; of 2^b it is 1 at b, which makes it 1, and 0 elsewhere, which leaves
-- the word's
bit-or : (word b k : ℕ) → bit (bit_or word (2 ^ b)) k ≡ (eqb k b || bit word k)
unfolding bit
bit-or word b k = rw (or_shr word (2 ^ b) k, or-odd (word / 2 ^ k) (2 ^ b / 2 ^ k)) (by (eqb k b) refl (mod-lt (word / 2 ^ k) (lit< tt)))
  where
    set_to : (x : ℕ) → x < 2 → eqb (max x 1) 1 ≡ true
    set_to zero h = refl
    set_to (suc zero) h = refl
    set_to (suc (suc x)) h = absurd (omega arith)

    left_as : (x : ℕ) → x < 2 → eqb (max x 0) 1 ≡ eqb x 1
    left_as zero h = refl
    left_as (suc zero) h = refl
    left_as (suc (suc x)) h = absurd (omega arith)

    by : (same : Bool) → eqb k b ≡ same → word / 2 ^ k % 2 < 2
        → eqb (max (word / 2 ^ k % 2) (2 ^ b / 2 ^ k % 2)) 1 ≡ (same || eqb (word / 2 ^ k % 2) 1)
    by true e h = rw (eqb-true k b e, div_self (pow_pos b)) (set_to (word / 2 ^ b % 2) (mod-lt (word / 2 ^ b) (lit< tt)))
    by false e h = rw (power-other b k (eqb-false k b e)) (left_as (word / 2 ^ k % 2) h)

-- two numbers of one word are the same where their bits are
same_bit : (v n : ℕ) → v / 64 ≡ n / 64 → eqb (v % 64) (n % 64) ≡ eqb v n
same_bit v n e = by (eqb v n) refl
  where
    by : (same : Bool) → eqb v n ≡ same → eqb (v % 64) (n % 64) ≡ same
    by true s = eq-eqb (v % 64) (n % 64) (ap (λ (x : ℕ). x % 64) (eqb-true v n s))
    by false s = ne_eqb (v % 64) (n % 64) (λ q. eqb-false v n s (omega arith))

-- a set with a number put into it has that number, and otherwise what it had: a number of the same word is told by its bit there, one of
-- another word by a word that is left
pub member-with : (words : List ℕ) (n v : ℕ) → n / 64 < length words → member (with_member words n) v ≡ (eqb v n || member words v)
unfolding member with_member
member-with words n v h = by (eqb (v / 64) (n / 64)) refl
  where
    word : ℕ
    word = get_or words (n / 64) 0

    by : (same : Bool) → eqb (v / 64) (n / 64) ≡ same → member (with_member words n) v ≡ (eqb v n || member words v)
    by true e =
        let i = eqb-true (v / 64) (n / 64) e in
        rw (i, get_or-set_same words (n / 64) (bit_or word (2 ^ (n % 64))) 0 h, ← same_bit v n i) (bit-or word (n % 64) (v % 64))
    by false e =
        let i = eqb-false (v / 64) (n / 64) e in
        rw (get_or-set_other words (n / 64) (v / 64) (bit_or word (2 ^ (n % 64))) 0 i, ne_eqb v n (λ q. i (ap (λ (x : ℕ). x / 64) q)))

-- a bit of a word of 64, as the code shifts it
pub one_shifted : (n : ℕ) → 1 * 2 ^ (n % 64) % 18446744073709551616 ≡ 2 ^ (n % 64)
one_shifted n = shl_exact 1 (n % 64) 64 (lit< tt) (omega arith) ∙ omega arith
