-- Decimal numbers in a text: their bytes, their value digit by digit, and where they end. Assumes nothing.
use Prim.Native.Nat.{ℕ, zero, suc, ◌+◌, ◌*◌, ◌-◌, ◌^◌, ◌≤◌, ◌<◌}
use native.Mathlib.Nat.{not-suc-le-zero, le_of_suc-le-suc, add-zero, add-suc}
use native.Mathlib.Numerals.{add-one}
use native.Mathlib.Omega.{arith}
use mathlib.Core.Path.{◌≡◌, refl, sym, ◌∙◌}
use mathlib.Core.Bool.{Bool, true, false, not, cond}
use mathlib.Core.List.{List, [], ◌∷◌}
use borrow.Author.Tests.{lt-ltb, le-ltb, leb-true, leb-false}
use lib.Dec.{leb}
use Rattle.std.specs.Prelude.{min, max}
use Rattle.std.proofs.lemmas.List.Sums.{prefix_len-le-length}
use lib.ListN.{length, get_or, take, drop, drop_of_length-le, length-drop}
use lib.Seq.{drop-cons, get_or-take, get_or-drop}
use Rattle.std.proofs.Common.{take_all}
use Rattle.std.specs.Prelude.{Some, None}
use Rattle.std.specs.Char.{is_ascii_digit}
use Rattle.std.specs.List.{prefix_len}
use Rattle.lists.specs.Ranges.{first_from}
use Rattle.lists.proofs.RangeLaws.{least-le}
use Rattle.text_numerals.specs.Numerals.{byte_at, is_digit, number_end, decimal}
use Rattle.text_numerals.specs.Inner.Fields.{whole_of}

-- within a list it does not matter what stands past its end
get_or-inside : (s : List ℕ) (i d e : ℕ) → i < length s → get_or s i d ≡ get_or s i e
get_or-inside [] i d e h = absurd (not-suc-le-zero h)
get_or-inside (x ∷ xs) zero d e h = refl
get_or-inside (x ∷ xs) (suc i) d e h = get_or-inside xs i d e (le_of_suc-le-suc h)

pub byte_inside : (s : List ℕ) (i : ℕ) → i < length s → get_or s i 0 ≡ byte_at s i
unfolding byte_at
byte_inside s i h = get_or-inside s i 0 10 h

-- one digit more, as it stands in the part of the text from an index to another
pub decimal_next : (s : List ℕ) (at i end : ℕ) → i < end - at → end ≤ length s
    → decimal s at (i + 1) ≡ 10 * decimal s at i + (get_or (take (end - at) (drop at s)) i 0 - 48)
unfolding decimal
decimal_next s at i end h u =
    let inside : at + i < length s = omega arith in
    rw (add-one i, get_or-take (end - at) (drop at s) i 0 h, get_or-drop, byte_inside s (at + i) inside)

-- more digits never count less
pub decimal_mono : (s : List ℕ) (at n m : ℕ) → decimal s at n ≤ decimal s at (n + m)
unfolding decimal
decimal_mono s at n zero = rw add-zero (omega arith)
decimal_mono s at n (suc m) = rw add-suc (omega (arith, decimal_mono s at n m))

-- the value of all digits, and that some of them are too large already
pub whole_value : (s : List ℕ) (at end : ℕ) → decimal s at (end - at) < 2 ^ 64 → Some (decimal s at (end - at)) ≡ whole_of s at end
unfolding whole_of
whole_value s at end h = rw (lt-ltb (decimal s at (end - at)) (2 ^ 64) h)

pub whole_large : (s : List ℕ) (at k end : ℕ) → at + k ≤ end → 2 ^ 64 ≤ decimal s at k → None ≡ whole_of s at end
unfolding whole_of
whole_large s at k end u h =
    let e : k + (end - at - k) ≡ end - at = omega arith in
    let more : decimal s at k ≤ decimal s at (end - at) = rw (sym e) (decimal_mono s at k (end - at - k)) in
    rw (le-ltb (decimal s at (end - at)) (2 ^ 64) (omega (arith, h, more)))

-- the digits from an index on, one by one
module _ (s : List ℕ) where
  here : (at more : ℕ) (b : Bool) → cond (not b) at (suc at + more) ≡ at + cond b (1 + more) 0
  here at more true = omega arith
  here at more false = omega arith

  digits-from : (n at : ℕ) → length s - at ≡ n → first_from at n (λ (i : ℕ). not (is_digit (byte_at s i))) ≡ at + prefix_len is_ascii_digit (drop at s)
  unfolding first_from is_digit byte_at
  digits-from zero at e = rw (drop_of_length-le s {i = at} (omega arith)) (omega arith)
  digits-from (suc n) at e =
      rw (drop-cons s at 10 (omega arith), digits-from n (suc at) (omega arith)) (here at (prefix_len is_ascii_digit (drop (suc at) s)) (is_ascii_digit (get_or s at 10)))

  pub number_end_is : (at : ℕ) → number_end s at ≡ at + prefix_len is_ascii_digit (drop at s)
  unfolding number_end
  number_end_is at = digits-from (length s - at) at refl

  -- they are read from the index on, or from the text's end, where it ends before
  module _ (at start n : ℕ) (start-is : start ≡ min at (length s)) (counted : n ≡ prefix_len is_ascii_digit (take (length s - start) (drop start s))) where
    n-is : n ≡ prefix_len is_ascii_digit (drop start s)
    n-is =
        let whole : length (drop start s) ≤ length s - start = omega (arith, length-drop start s) in
        counted ∙ rw take_all

    few : n ≤ length s - start
    few = rw n-is (omega (arith, prefix_len-le-length is_ascii_digit (drop start s), length-drop start s))

    pub digits_within : at + n ≤ max at (length s)
    digits_within = omega (arith, few)

    pub number_end_read : at + n ≡ number_end s at
    number_end_read = by (leb at (length s)) refl
      where
        by : (b : Bool) → leb at (length s) ≡ b → at + n ≡ number_end s at
        by true e =
            let within : at ≤ length s = leb-true at (length s) e in
            let same : start ≡ at = omega arith in
            rw (number_end_is at, n-is, same)
        by false e =
            let past : length s < at = leb-false at (length s) e in
            rw (number_end_is at, drop_of_length-le s {i = at} (omega arith)) (omega (arith, few))

-- a number that begins within the text ends within it
pub number_end_le : (s : List ℕ) (at : ℕ) → at < number_end s at → number_end s at ≤ length s
unfolding number_end
number_end_le s at h = omega (arith, least-le (λ (i : ℕ). not (is_digit (byte_at s i))) at (length s - at))
