-- Hexadecimal digits, one after the other. Assumes nothing.
use Prim.Native.Nat.{ℕ, zero, suc, ◌+◌, ◌-◌, ◌*◌, ◌/◌, ◌%◌, ◌^◌, ◌≤◌, ◌<◌}
use native.Mathlib.Nat.{not-suc-le-zero}
use native.Mathlib.Omega.{arith}
use mathlib.Core.Path.{◌≡◌, refl, ap}
use mathlib.Core.List.{[], ◌∷◌, ◌++◌}
use borrow.Author.Tests.{lt-ltb, le-ltb}
use lib.ListN.{length}
use Rattle.text_quote.specs.ReplyLines.{hex_digit, hexadecimal}

-- below 10, and from 10 on
pub digit_low : (d : ℕ) → d < 10 → 48 + d ≡ hex_digit d
unfolding hex_digit
digit_low d h = rw (lt-ltb d 10 h)

pub digit_high : (d : ℕ) → 10 ≤ d → 87 + d ≡ hex_digit d
unfolding hex_digit
digit_high d h = rw (le-ltb d 10 h)

-- as many digits as places
pub places_length : (n x : ℕ) → length (hexadecimal n x) ≡ n
unfolding hexadecimal
places_length zero x = refl
places_length (suc n) x = ap suc (places_length n x)

-- the first digit, and the others
pub places_first : (n x : ℕ) → 0 < n → hexadecimal n x ≡ (hex_digit (x / 2 ^ (4 * (n - 1)) % 16) ∷ []) ++ hexadecimal (n - 1) x
unfolding hexadecimal
places_first zero x h = absurd (not-suc-le-zero h)
places_first (suc n) x h =
    let e : suc n - 1 ≡ n = omega arith in
    rw e

-- no digit
pub places_none : (x : ℕ) → hexadecimal 0 x ≡ []
unfolding hexadecimal
places_none x = refl
