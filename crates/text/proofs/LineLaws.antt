-- The rest of a line, number by number. Assumes nothing.
use Prim.Native.Nat.{ℕ, zero, suc, ◌+◌, ◌*◌, ◌^◌, ◌≤◌, ◌<◌}
use mathlib.Core.Path.{◌≡◌}
use mathlib.Core.List.{List, [], ◌∷◌, ◌++◌, append_assoc}
use native.Mathlib.Numerals.{add-one}
use native.Mathlib.Omega.{arith}
use lib.ListN.{length, get_or, drop, length-append}
use lib.Seq.{drop-cons, drop-length}
use Rattle.text.specs.Decimal.{decimal}
use Rattle.text.specs.Lines.{spaced, rest_of_line, refused_word, refusal_line}
use Rattle.text.proofs.DecimalLaws.{decimal_length}

-- from number i on
pub rest_number : (ns : List ℕ) (i : ℕ) → i < length ns → rest_of_line (drop i ns) ≡ (32 ∷ decimal (get_or ns i 0)) ++ rest_of_line (drop (i + 1) ns)
unfolding rest_of_line spaced
rest_number ns i h = rw (add-one i, drop-cons ns i 0 h, append_assoc)

-- behind the last number
pub rest_end : (ns : List ℕ) (i : ℕ) → i ≡ length ns → rest_of_line (drop i ns) ≡ 10 ∷ []
unfolding rest_of_line spaced
rest_end ns i e = rw (e, drop-length)

-- the line of a refusal: seven letters, and the rest
pub refusal_length : (number location : ℕ) → length (refusal_line number location) ≡ 7 + length (rest_of_line (number ∷ location ∷ []))
unfolding refusal_line refused_word
refusal_length number location = length-append refused_word (rest_of_line (number ∷ location ∷ []))

-- 64-bit numbers, each behind a space
spaced-length : (ns : List ℕ) → ((i : ℕ) → i < length ns → get_or ns i 0 < 2 ^ 64) → length (spaced ns) ≤ 21 * length ns
unfolding spaced
spaced-length [] fits = omega arith
spaced-length (n ∷ ns) fits = rw length-append (omega (arith, decimal_length n (fits 0 (omega arith)), spaced-length ns (λ i h. fits (suc i) (omega arith))))

-- the rest of a line of 64-bit numbers
pub rest-length : (ns : List ℕ) → ((i : ℕ) → i < length ns → get_or ns i 0 < 2 ^ 64) → length (rest_of_line ns) ≤ 21 * length ns + 1
unfolding rest_of_line
rest-length ns fits = rw length-append (omega (arith, spaced-length ns fits))

-- the line of a refusal with 64-bit numbers: 7 bytes of its word, 21 for each of two numbers behind a space, and the line feed
pub refusal_short : (number location : ℕ) → number < 2 ^ 64 → location < 2 ^ 64 → length (refusal_line number location) ≤ 50
refusal_short number location hn hp =
    omega (
      arith,
      refusal_length number location,
      rest-length (number ∷ location ∷ []) (each_of number location hn hp),
    )
  where
    each_of : (n p : ℕ) → n < 2 ^ 64 → p < 2 ^ 64 → (i : ℕ) → i < 2 → get_or (n ∷ p ∷ []) i 0 < 2 ^ 64
    each_of n p hn hp zero h = hn
    each_of n p hn hp (suc zero) h = hp
    each_of n p hn hp (suc (suc i)) h = absurd (omega arith)
