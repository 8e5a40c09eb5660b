-- Numbers in bytes that are put together. Assumes nothing.
use Prim.Native.Nat.{ℕ, zero, suc, ◌+◌, ◌/◌, ◌%◌, ◌^◌, ◌≤◌, ◌<◌}
use native.Mathlib.Nat.{add_assoc, pow-suc, pow-zero}
use native.Mathlib.Omega.{arith}
use mathlib.Core.Path.{◌≡◌, refl, ap, ◌∙◌}
use mathlib.Core.List.{List, [], ◌∷◌, ◌++◌}
use lib.ListN.{length, get_or-append}
use lib.Seq.{get_or-append-add}
use Rattle.record_fields.specs.Bytes.{number_at}
use Rattle.theorem_certificates.specs.Filed.{bytes}

-- a number behind other bytes, and one in front of others
pub number_behind : (p q : List ℕ) (i n : ℕ) → number_at (p ++ q) (length p + i) n ≡ number_at q i n
unfolding number_at
number_behind p q i zero = refl
number_behind p q i (suc n) = rw (get_or-append-add p q i 0, add_assoc (length p) i 1, number_behind p q (i + 1) n)

pub number-front : (p q : List ℕ) (i n : ℕ) → i + n ≤ length p → number_at (p ++ q) i n ≡ number_at p i n
unfolding number_at
number-front p q i zero h = refl
number-front p q i (suc n) h =
    let l : i < length p = omega arith in
    rw (get_or-append p q 0 i l, number-front p q (i + 1) n (omega arith))

pub bytes-length : (n x : ℕ) → length (bytes n x) ≡ n
unfolding bytes
bytes-length zero x = refl
bytes-length (suc n) x = ap suc (bytes-length n (x / 256))

-- the bytes of a number spell it
pub number-bytes : (n x : ℕ) → x < 256 ^ n → number_at (bytes n x) 0 n ≡ x
unfolding number_at bytes
number-bytes zero x h = omega (arith, pow-zero 256)
number-bytes (suc n) x h =
    let rest = number_behind (x % 256 ∷ []) (bytes n (x / 256)) 0 n in
    let small : x / 256 < 256 ^ n = omega (arith, pow-suc 256 n) in
    rw (rest, number-bytes n (x / 256) small) (omega arith)

-- in front of other bytes
pub number-first : (n x : ℕ) (q : List ℕ) → x < 256 ^ n → number_at (bytes n x ++ q) 0 n ≡ x
number-first n x q h = number-front (bytes n x) q 0 n (rw (bytes-length n x) (omega arith)) ∙ number-bytes n x h
