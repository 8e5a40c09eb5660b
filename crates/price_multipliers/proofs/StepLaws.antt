-- Multipliers make the month of the run. Assumes nothing.
use Prim.Native.Nat.{ℕ, zero, suc, ◌+◌, ◌*◌, ◌-◌, ◌/◌, ◌^◌, ◌≤◌, ◌<◌, zero-le}
use mathlib.Core.Path.{◌≡◌, refl, sym, ap, ◌∙◌}
use mathlib.Core.Bool.{Bool, true, false, cond}
use lib.Dec.{eqb, leb, lit<}
use borrow.Author.Tests.{leb-true, ne_eqb}
use native.Mathlib.Nat.{zero-add, add-zero, mul-zero, mul-add, mul-le-mul, mul-le-mul_left, mul-add-div_right, zero-lt-suc, add-sub_of_le, le_refl, suc-ne-zero, zero-div}
use native.Mathlib.Numerals.{add-one}
use native.Mathlib.Omega.{arith}
use Rattle.pricing.specs.declared.Run.{Run}
use Rattle.pricing.specs.Scales.{par, growth_limit, servicing_limit}
use Rattle.pricing.specs.Rounding.{Rounding, down, up, quotient}
use Rattle.pricing.specs.Inner.Month.{next_balance, next_flow, next_run, Small, figure_limit}
use Rattle.pricing.proofs.RoundingLaws.{ceiling-ge, ceiling-lt, quotient_le, quotient-zero}
use Rattle.pricing.proofs.MultiplierLaws.{floor-near, ceiling-near, halved}
use Rattle.price_multipliers.specs.Multipliers.{part_by, carried_of, beyond, par_multiplier, multipliers_of, stands_for, factor_of, Discounts, paid_by, left_by, product_by, step_by, last_by}
use Rattle.price_multipliers.specs.declared.MonthMultipliers.{MonthMultipliers}

-- rounded up, of something by something
pub part-some : (s x m : ℕ) → 0 < x → 0 < m → part_by up s x m ≡ suc (x * (m - 1) / s)
unfolding part_by
part-some s zero m hx hm = absurd (omega arith)
part-some s (suc x) zero hx hm = absurd (omega arith)
part-some s (suc x) (suc m) hx hm = let e : suc m - 1 ≡ m = omega arith in rw e

-- by nothing
part-by-none : (s x : ℕ) → part_by up s x 0 ≡ 0
unfolding part_by
part-by-none s zero = refl
part-by-none s (suc x) = refl

-- rounded up, of something, by a multiplier and what is carried
pub part-carried : (s x m : ℕ) → 0 < x → x * (m - carried_of m) / s + carried_of m ≡ part_by up s x m
unfolding part_by carried_of
part-carried s zero m hx = absurd (omega arith)
part-carried s (suc x) zero hx = rw (mul-zero, zero-div)
part-carried s (suc x) (suc m) hx =
    let e : suc m - 1 ≡ m = omega arith in
    rw (ne_eqb (suc m) 0 (suc-ne-zero m), e, add-one)

-- what is carried is at most the multiplier, and 1
pub carried-le : (m : ℕ) → carried_of m ≤ m
unfolding carried_of
carried-le zero = zero-le
carried-le (suc m) = rw (ne_eqb (suc m) 0 (suc-ne-zero m)) (omega arith)

pub carried-le-one : (m : ℕ) → carried_of m ≤ 1
unfolding carried_of
carried-le-one m = cond-le (eqb m 0)
  where
    cond-le : (b : Bool) → cond b 0 1 ≤ 1
    cond-le true = zero-le
    cond-le false = le_refl 1

-- of nothing comes nothing
none_left : (m : MonthMultipliers) → left_by up m 0 ≡ 0
unfolding left_by part_by
none_left m = by m.whole
  where
    by : (b : Bool) → cond b 0 0 + 0 ≡ 0
    by true = refl
    by false = refl

none-paid : (m : MonthMultipliers) → paid_by up m 0 ≡ 0
unfolding paid_by part_by
none-paid m = refl

none-product : (n : ℕ) → product_by up n 0 ≡ 0
unfolding product_by part_by
none-product n = refl

-- a balance that is gone stays so
pub step_gone : (m : MonthMultipliers) (n : ℕ) (run : Run) → run.balance ≡ 0 → run ≡ step_by up m n run
unfolding step_by
step_gone m n run e =
    ap (λ (b : ℕ). record { balance = b; price = run.price }) balance-same
    ∙ ap (λ (p : ℕ). record { balance = left_by up m run.balance; price = p }) price-same
  where
    balance-same : run.balance ≡ left_by up m run.balance
    balance-same = rw e (sym (none_left m))

    price-same : run.price ≡ run.price + product_by up n (paid_by up m run.balance)
    price-same = rw (e, none-paid m, none-product n, add-zero)

-- and brings nothing in the last month
pub last-gone : (m : MonthMultipliers) (n : ℕ) (run : Run) → run.balance ≡ 0 → run.price ≡ last_by up m n run
unfolding last_by
last-gone m n run e = rw (e, none-paid m, none_left m, none-product n, add-zero)

-- a product of the upper run, of something
pub product-some : (n flow : ℕ) → 0 < flow → 2 * flow * n / 2 ^ 64 + 1 ≡ product_by up n flow
unfolding product_by stands_for
product-some n flow h =
    let e : suc n - 1 ≡ n = omega arith in
    rw (part-some (2 ^ 64) (2 * flow) (suc n) (omega arith) (zero-lt-suc n), e, add-one)

-- a multiplier of a / w in units of 1 / s, rounded up, gives x a / w at either rounding where x w is below s
module _ (s w a : ℕ) (pos : 0 < w) (some : 0 < s) where
  part-down : (x : ℕ) → x * w < s → part_by down s x (quotient up (a * s) w) ≡ quotient down (x * a) w
  unfolding part_by
  part-down x near =
      let h : quotient up (a * s) w * w ≤ a * s + w = omega (arith, ceiling-lt (a * s) w pos) in
      floor-near x a w s (quotient up (a * s) w) pos some (ceiling-ge (a * s) w pos) (omega (arith, mul-le-mul_left x h, near))

  -- with m the multiplier, a s <= m w < a s + w: then x a s <= x m w < x a s + s by x w < s, which leaves x a / w as the quotient rounded up; 0 apart
  part_up : (x m : ℕ) → x * w < s → m ≡ quotient up (a * s) w → part_by up s x m ≡ quotient up (x * a) w
  unfolding part_by
  part_up zero m near e = sym (quotient-zero up a w pos)
  part_up (suc x) zero near e = sym (none a (omega (arith, ceiling-ge (a * s) w pos, ap (λ (v : ℕ). v * w) e)))
    where
      none : (b : ℕ) → b * s ≤ 0 → quotient up (suc x * b) w ≡ 0
      none zero h = rw mul-zero (quotient-zero up 0 w pos)
      none (suc b) h = absurd (omega arith)
  part_up (suc x) (suc m) near e =
      let ge : a * s ≤ suc m * w = rw e (ceiling-ge (a * s) w pos) in
      let lt : suc m * w < a * s + w = rw e (ceiling-lt (a * s) w pos) in
      ceiling-near (suc x) a w s m pos some (zero-lt-suc x) (omega (arith, lt)) (omega (arith, mul-le-mul_left (suc x) ge, near))

  pub part-is : (ρ : Rounding) (x : ℕ) → x * w < s → part_by ρ s x (quotient up (a * s) w) ≡ quotient ρ (x * a) w
  part-is down x near = part-down x near
  part-is up x near = part_up x (quotient up (a * s) w) near refl

-- of twice x in units of 1 / 2^64: of x in units of 1 / 2^63
part-halved : (ρ : Rounding) (x m : ℕ) → part_by ρ (2 ^ 64) (2 * x) m ≡ part_by ρ (2 ^ 63) x m
unfolding part_by
part-halved down x m = halved x m
part-halved up zero m = refl
part-halved up (suc x) zero = part-by-none (2 ^ 64) (2 * suc x)
part-halved up (suc x) (suc m) =
    part-some (2 ^ 64) (2 * suc x) (suc m) (omega arith) (omega arith)
    ∙ ap suc (halved (suc x) (suc m - 1))
    ∙ sym (part-some (2 ^ 63) (suc x) (suc m) (omega arith) (omega arith))

-- the whole and what is beyond it
quotient-add : (ρ : Rounding) (b n d : ℕ) → 0 < d → quotient ρ (b * d + n) d ≡ b + quotient ρ n d
unfolding quotient
quotient-add down b n d pos = mul-add-div_right pos b n
quotient-add up b n d pos = let e : b * d + n + (d - 1) ≡ b * d + (n + (d - 1)) = omega arith in rw e (mul-add-div_right pos b (n + (d - 1)))

-- what is left: the whole and the part beyond it. With n the share in 3 × 10^9: where n is 3 × 10^9 or more the balance stays whole and the
-- rest of n gives a part of it, and b + b (n - 3 × 10^9) / (3 × 10^9) = b n / (3 × 10^9); else n itself gives the part
left_is : (ρ : Rounding) (growth servicing q b : ℕ) → b * (3 * par) < 2 ^ 64
    → left_by ρ (multipliers_of growth servicing q) b ≡ quotient ρ (b * (growth + 3 * q)) (3 * par)
unfolding left_by multipliers_of beyond
left_is ρ growth servicing q b near = by (leb (3 * par) n) refl
  where
    n : ℕ
    n = growth + 3 * q

    by : (t : Bool) → leb (3 * par) n ≡ t
        → cond t b 0 + part_by ρ (2 ^ 64) b (quotient up (cond t (n - 3 * par) n * 2 ^ 64) (3 * par)) ≡ quotient ρ (b * n) (3 * par)
    by true e =
        rw (part-is (2 ^ 64) (3 * par) (n - 3 * par) (lit< tt) (lit< tt) ρ b near)
        (sym (quotient-add ρ b (b * (n - 3 * par)) (3 * par) (lit< tt))
        ∙ ap (λ (v : ℕ). quotient ρ v (3 * par)) (sym (mul-add b (3 * par) (n - 3 * par)) ∙ ap (λ (v : ℕ). b * v) (add-sub_of_le (leb-true _ _ e))))
    by false e = rw (zero-add, part-is (2 ^ 64) (3 * par) n (lit< tt) (lit< tt) ρ b near)

-- a share in billionths, by its multiplier of twice the number
share-is : (ρ : Rounding) (x n : ℕ) → x * par < 2 ^ 63 → part_by ρ (2 ^ 64) (2 * x) (par_multiplier n) ≡ quotient ρ (x * n) par
share-is ρ x n near = part-halved ρ x (par_multiplier n) ∙ part-is (2 ^ 63) par n (lit< tt) (lit< tt) ρ x near

-- what is paid
paid-is : (ρ : Rounding) (growth servicing q b : ℕ) → b * par < 2 ^ 63
    → paid_by ρ (multipliers_of growth servicing q) b ≡ quotient ρ (b * (servicing + par - q)) par
unfolding paid_by multipliers_of
paid-is ρ growth servicing q b near = share-is ρ b (servicing + par - q) near

-- a flow times its discount factor
product_is : (ρ : Rounding) (n flow : ℕ) → Discounts ρ n → flow * par < 2 ^ 63 → product_by ρ n flow ≡ quotient ρ (flow * factor_of ρ n) par
unfolding product_by
product_is ρ n flow d near = rw d (share-is ρ flow (factor_of ρ n) near)

-- a month within the limits, with what a table holds of its discount factor
module _ (ρ : Rounding) (growth servicing q n : ℕ) (run : Run) (d : Discounts ρ n) (small : Small run growth servicing q (factor_of ρ n)) where
  paid-le : quotient ρ (run.balance * (servicing + par - q)) par ≤ figure_limit
  paid-le =
      let share : servicing + par - q ≤ par + servicing_limit = omega (arith, small.servicing-le) in
      quotient_le ρ _ par figure_limit (lit< tt) (omega (arith, mul-le-mul small.balance-le share))

  left_le : quotient ρ (run.balance * (growth + 3 * q)) (3 * par) ≤ figure_limit
  left_le =
      let share : growth + 3 * q ≤ growth_limit + 3 * par = omega (arith, small.growth-le, small.survival-le) in
      quotient_le ρ _ (3 * par) figure_limit (lit< tt) (omega (arith, mul-le-mul small.balance-le share))

  -- the month's multipliers give the run one month on
  pub step_is : step_by ρ (multipliers_of growth servicing q) n run ≡ next_run ρ growth servicing q (factor_of ρ n) false run
  unfolding step_by next_run next_balance next_flow
  step_is =
      rw (
        left_is ρ growth servicing q run.balance (omega (arith, small.balance-le)),
        paid-is ρ growth servicing q run.balance (omega (arith, small.balance-le)),
        product_is ρ n (quotient ρ (run.balance * (servicing + par - q)) par) d (omega (arith, paid-le)),
        add-zero,
      )

  -- and the price after the last month
  pub last-is : last_by ρ (multipliers_of growth servicing q) n run ≡ (next_run ρ growth servicing q (factor_of ρ n) true run).price
  unfolding last_by next_run next_balance next_flow
  last-is =
      rw (
        left_is ρ growth servicing q run.balance (omega (arith, small.balance-le)),
        paid-is ρ growth servicing q run.balance (omega (arith, small.balance-le)),
        product_is ρ n (quotient ρ (run.balance * (servicing + par - q)) par + quotient ρ (run.balance * (growth + 3 * q)) (3 * par)) d
            (omega (arith, paid-le, left_le)),
      )

-- a multiplier by the whole part and the rest of s / d
pub multiplier-split : (n whole rest s d : ℕ) → 0 < d → whole * d + rest ≡ s → whole * n + (rest * n + (d - 1)) / d ≡ quotient up (n * s) d
unfolding quotient
multiplier-split n whole rest s d pos e =
    let same : whole * n * d + (rest * n + (d - 1)) ≡ n * s + (d - 1) = omega (arith, ap (λ (v : ℕ). n * v) e) in
    sym (mul-add-div_right pos (whole * n) (rest * n + (d - 1))) ∙ ap (λ (v : ℕ). v / d) same

-- the multiplier of what is left fits 64 bits
pub left-fits : (n y : ℕ) → n < 3 * par → y ≤ 709551616 → 6148914691 * n + y < 2 ^ 64
left-fits n y hn hy = omega (arith, hn, hy)

pub rest_le : (n : ℕ) → n < 3 * par → (709551616 * n + (3 * par - 1)) / (3 * par) ≤ 709551616
unfolding quotient
rest_le n h = quotient_le up (709551616 * n) (3 * par) 709551616 (lit< tt) (omega (arith, h))

-- something is paid of every balance that is serviced
pub paid-pos : (growth servicing q : ℕ) → 0 < servicing → q ≤ par → 0 < (multipliers_of growth servicing q).paid
unfolding multipliers_of
paid-pos growth servicing q h l =
    let n : 0 < servicing + par - q = omega (arith, h, l) in
    pos-of-mul (quotient up ((servicing + par - q) * 2 ^ 63) par) (omega (arith, n, ceiling-ge ((servicing + par - q) * 2 ^ 63) par (lit< tt)))
  where
    pos-of-mul : (m : ℕ) → 0 < m * par → 0 < m
    pos-of-mul zero h = absurd (omega arith)
    pos-of-mul (suc m) h = zero-lt-suc m
