-- A difference of n units, rounded, times a weight short of 1, rounded, is at most the n units: so what is added to a price does not pass the other price.
-- Nothing here is about prices. Assumes nothing.
use Prim.Native.Nat.{ℕ, ◌+◌, ◌-◌, ◌*◌, ◌/◌, ◌^◌, ◌≤◌, ◌<◌}
use native.Mathlib.Nat.{le_refl, le_of_lt, le_trans, mul-one, mul-pos, mul-le-mul, lt_of_le_of_lt, lt_of_lt_of_le, lt_of_not-le, not-le_of_lt, mul-le-mul_left, mul-le-mul_right, div-mul-le_self, lt-div-mul-add, le-div_iff_mul-le}
use native.Mathlib.Omega.{arith}
use mathlib.Core.Path.{◌≡◌, refl, sym}
use mathlib.Core.Logic.{⊎_elim}
use lib.Pow.{pow-add, pow_pos, pow_mono, pow-lt, shr_lt}
use lib.Ieee.{Format, prec, low, size}
use lib.Ieee.Digits.{size-lt, size_reaches}
use lib.Ieee.Scale.{grid, overflow}
use Rattle.lists.proofs.OrderLaws.{lt-or-le}
use Rattle.quote_prices.proofs.RoundingLaws.{Held, round-le}

-- n between two neighbours of a grid of r + 1 digits
record Coarse (r n : ℕ) : Type 0 where
  digits : ℕ
  shift : ℕ
  least : 2 ^ r ≤ digits
  most : digits < 2 ^ (r + 1)
  above : digits * 2 ^ shift ≤ n
  below : n < (digits + 1) * 2 ^ shift

coarse : (r n : ℕ) → 2 ^ (r + 2) ≤ n → Coarse r n
coarse r n h =
    let z = size n in
    let long : r + 2 < z = lt_of_not-le (λ (l : z ≤ r + 2). not-le_of_lt (lt_of_lt_of_le (size-lt n) (pow_mono l)) h) in
    let j = z - (r + 1) in
    let most : r + 1 + j ≡ z = omega arith in
    let reached : 2 ^ (r + j) ≤ n = size_reaches n (r + j) (omega arith) in
    record {
      digits = n / 2 ^ j;
      shift = j;
      least = (le-div_iff_mul-le (pow_pos j)).1 (rw (sym (pow-add 2 r j)) reached);
      most = shr_lt (r + 1) j (rw most (size-lt n));
      above = div-mul-le_self n (2 ^ j);
      below = omega (arith, lt-div-mul-add {a = n} (pow_pos j));
    }

-- w is at most 1 - 1 / 2^17, in units of which u are 1
abbrev pub Short : ℕ → ℕ → Type 0
Short u w = 131072 * w ≤ 131071 * u

-- d × w is at most n where d is, and at most q × p where d is at most (q + 1) × p and q has 17 digits or more
times-whole : (d n u w : ℕ) → Short u w → d ≤ n → d * w * u ≤ n * (u * u)
times-whole d n u w short h =
    let less : w ≤ u = omega arith in
    omega (arith, mul-le-mul_right u (mul-le-mul h less))

times-grid : (d q p u w : ℕ) → 131071 ≤ q → Short u w → d ≤ (q + 1) * p → d * w * u ≤ q * p * (u * u)
times-grid d q p u w wide short h =
    let first = mul-le-mul_right w h in
    let second = mul-le-mul_left ((q + 1) * p) short in
    let third = mul-le-mul_right (p * u) wide in
    let all : 131072 * (d * w) ≤ 131072 * (q * p * u) = omega (arith, first, second, third) in
    let one : d * w ≤ q * p * u = omega arith in
    omega (arith, mul-le-mul_right u one)

-- the upper neighbour is at most twice n
twice-le : (q p n : ℕ) → 1 ≤ q → q * p ≤ n → (q + 1) * p ≤ 2 * n
twice-le q p n some h = omega (arith, mul-le-mul_right p some)

module _ (f : Format) (r : ℕ) (kept : prec f ≡ r + 2) (wide : 131072 ≤ 2 ^ r) where
  -- a number of units on such a grid is held
  on-grid : (q j : ℕ) → q ≤ 2 ^ (r + 1) → q * 2 ^ j < overflow f → Held f (q * 2 ^ j)
  on-grid q j few under =
      record { digits = q; shift = j; few = rw kept (lt_of_le_of_lt few (pow-lt (omega arith))); under = under; is = refl }

  -- The difference d of n units is n itself where n has few digits, and then d × w is at most n. Otherwise n stands between two neighbours q × 2^j and
  -- (q + 1) × 2^j of a grid; d is at most the upper one, so d × w is at most the lower one, which is at most n
  pub step-le : (n w : ℕ) → 2 * n < overflow f → Short (2 ^ low f) w → grid f (grid f n (2 ^ low f) * w) (2 ^ low f * 2 ^ low f) ≤ n
  step-le n w under short = ⊎_elim exact between (lt-or-le n (2 ^ (r + 2)))
    where
      exact : n < 2 ^ (r + 2) → grid f (grid f n (2 ^ low f) * w) (2 ^ low f * 2 ^ low f) ≤ n
      exact few =
          let u = 2 ^ low f in
          let held : Held f n = record { digits = n; shift = 0; few = rw kept few; under = lt_of_le_of_lt (omega arith) under; is = sym (mul-one n) } in
          round-le f (grid f n u * w) (u * u) n (mul-pos (pow_pos (low f)) (pow_pos (low f))) held
          (times-whole (grid f n u) n u w short (round-le f n u n (pow_pos (low f)) held (le_refl (n * u))))

      between : 2 ^ (r + 2) ≤ n → grid f (grid f n (2 ^ low f) * w) (2 ^ low f * 2 ^ low f) ≤ n
      between many =
          let u = 2 ^ low f in
          let c = coarse r n many in
          let q = c.digits in
          let p = 2 ^ c.shift in
          let lower = on-grid q c.shift (le_of_lt c.most) (lt_of_le_of_lt c.above (lt_of_le_of_lt (omega arith) under)) in
          let upper = on-grid (q + 1) c.shift (omega (arith, c.most)) (lt_of_le_of_lt (twice-le q p n (omega (arith, c.least)) c.above) under) in
          let d = round-le f n u ((q + 1) * p) (pow_pos (low f)) upper (mul-le-mul_right u (le_of_lt c.below)) in
          le_trans
          (round-le f (grid f n u * w) (u * u) (q * p) (mul-pos (pow_pos (low f)) (pow_pos (low f))) lower (times-grid (grid f n u) q p u w (omega (arith, c.least)) short d))
          c.above
