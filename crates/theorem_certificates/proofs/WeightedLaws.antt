-- Balance-weighted means: each lies between the least and the greatest of its certificates. Assumes nothing.
use Prim.Native.Nat.{ℕ, zero, suc, ◌+◌, ◌*◌, ◌/◌, ◌≤◌, ◌<◌}
use native.Mathlib.Nat.{lt-suc_self, lt_trans, mul-le-mul_left, div-lt_iff_lt-mul, le-div_iff_mul-le}
use native.Mathlib.Omega.{arith}
use mathlib.Core.Path.{◌≡◌, refl}
use mathlib.Core.Bool.{Bool, true, false, cond}
use mathlib.Core.List.{List}
use lib.Dec.{eqb}
use Rattle.certificate_calendar.specs.declared.Date.{Date}
use Rattle.certificate_terms.specs.declared.Certificate.{Certificate}
use Rattle.certificate_terms.specs.Terms.{certificate_at, position_of}
use Rattle.certificate_cells.specs.Means.{mean}
use Rattle.certificates.specs.Sums.{stands_at, position_sum, balance_of}
use Rattle.certificates.proofs.SumLaws.{sum-none, sum-suc}

-- a weighted sum of at most so many times the weight has at most that mean, one of at least so many times at least
pub mean-le : (weighted weight most : ℕ) → 0 < weight → weighted ≤ most * weight → mean weighted weight ≤ most
unfolding mean
mean-le weighted weight most p h =
    let less : 2 * weighted + weight < suc most * (2 * weight) = omega (arith, h) in
    let q : (2 * weighted + weight) / (2 * weight) < suc most = (div-lt_iff_lt-mul {k = 2 * weight} (omega arith)).1 less in
    omega (arith, q)

pub mean-ge : (weighted weight least : ℕ) → 0 < weight → least * weight ≤ weighted → least ≤ mean weighted weight
unfolding mean
mean-ge weighted weight least p h =
    let enough : least * (2 * weight) ≤ 2 * weighted + weight = omega (arith, h) in
    (le-div_iff_mul-le {k = 2 * weight} (omega arith)).1 enough

-- one amount more, weighted by a balance, where it counts: it keeps the bound unless the balance is 0
one-le : (b : Bool) (balance x most total weighted : ℕ) → weighted ≤ most * total → (b ≡ true → 0 < balance → x ≤ most)
    → weighted + cond b (balance * x) 0 ≤ most * (total + cond b balance 0)
one-le false balance x most total weighted h f = omega (arith, h)
one-le true zero x most total weighted h f = omega (arith, h)
one-le true (suc n) x most total weighted h f = omega (arith, h, mul-le-mul_left (suc n) (f refl (omega arith)))

one-ge : (b : Bool) (balance x least total weighted : ℕ) → least * total ≤ weighted → (b ≡ true → 0 < balance → least ≤ x)
    → least * (total + cond b balance 0) ≤ weighted + cond b (balance * x) 0
one-ge false balance x least total weighted h f = omega (arith, h)
one-ge true zero x least total weighted h f = omega (arith, h)
one-ge true (suc n) x least total weighted h f = omega (arith, h, mul-le-mul_left (suc n) (f refl (omega arith)))

module _ (v : Date) (s : List ℕ) (amount : Certificate → ℕ) (i : ℕ) where
  abbrev weighted : Certificate → ℕ
  weighted c = c.balance * amount c

  -- each certificate of the position with a balance has at most this amount, or at least this
  abbrev pub AtMost : ℕ → ℕ → Type 0
  AtMost most n = (k : ℕ) → k < n → stands_at v s i k ≡ true → 0 < (certificate_at s k).balance → amount (certificate_at s k) ≤ most

  abbrev pub AtLeast : ℕ → ℕ → Type 0
  AtLeast least n = (k : ℕ) → k < n → stands_at v s i k ≡ true → 0 < (certificate_at s k).balance → least ≤ amount (certificate_at s k)

  pub sum-le-most : (most n : ℕ) → AtMost most n → position_sum v s weighted i n ≤ most * position_sum v s balance_of i n
  unfolding stands_at
  sum-le-most most zero f = omega (arith, sum-none v s weighted i, sum-none v s balance_of i)
  sum-le-most most (suc n) f =
      rw (sum-suc v s weighted i n, sum-suc v s balance_of i n)
      (one-le (eqb (position_of v (certificate_at s n)) i) (certificate_at s n).balance (amount (certificate_at s n)) most
      (position_sum v s balance_of i n) (position_sum v s weighted i n) (sum-le-most most n (λ k h. f k (lt_trans h (lt-suc_self n))))
      (λ e p. f n (lt-suc_self n) e p))

  pub sum-ge-least : (least n : ℕ) → AtLeast least n → least * position_sum v s balance_of i n ≤ position_sum v s weighted i n
  unfolding stands_at
  sum-ge-least least zero f = rw (sum-none v s balance_of i) (omega arith)
  sum-ge-least least (suc n) f =
      rw (sum-suc v s weighted i n, sum-suc v s balance_of i n)
      (one-ge (eqb (position_of v (certificate_at s n)) i) (certificate_at s n).balance (amount (certificate_at s n)) least
      (position_sum v s balance_of i n) (position_sum v s weighted i n) (sum-ge-least least n (λ k h. f k (lt_trans h (lt-suc_self n))))
      (λ e p. f n (lt-suc_self n) e p))

  -- the mean lies between the least and the greatest
  pub mean-at-most : (most n : ℕ) → 0 < position_sum v s balance_of i n → AtMost most n
      → mean (position_sum v s weighted i n) (position_sum v s balance_of i n) ≤ most
  mean-at-most most n p f = mean-le (position_sum v s weighted i n) (position_sum v s balance_of i n) most p (sum-le-most most n f)

  pub mean-at-least : (least n : ℕ) → 0 < position_sum v s balance_of i n → AtLeast least n
      → least ≤ mean (position_sum v s weighted i n) (position_sum v s balance_of i n)
  mean-at-least least n p f = mean-ge (position_sum v s weighted i n) (position_sum v s balance_of i n) least p (sum-ge-least least n f)
