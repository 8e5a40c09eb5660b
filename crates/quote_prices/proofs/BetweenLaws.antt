-- The price between two lines is a price, and within those of its neighbours. Assumes nothing.
use Prim.Native.Nat.{ℕ, suc, ◌+◌, ◌-◌, ◌*◌, ◌^◌, ◌≤◌, ◌<◌}
use native.Mathlib.Nat.{lt_of_le_of_lt, lt_of_lt_of_le, le-add_right, mul_comm, le_of_lt, mul-le-mul_right, mul-lt-mul_of_pos_right, mul-one, mul-pos, le_of_mul-le-mul_right}
use native.Mathlib.Omega.{arith}
use mathlib.Core.Path.{◌≡◌, refl, sym, ap, ◌∙◌, subst}
use mathlib.Core.Logic.{⊎_elim}
use mathlib.Core.Bool.{Bool, true, false}
use borrow.Author.Tests.{not-false}
use lib.Dec.{T, lit<, lit≤, ltb→lt, lt→ltb}
use lib.IntN.{pos}
use lib.Pow.{pow-add, pow_pos, pow_mono}
use lib.Ieee.{Float, nan, inf, fin, Format, binary32, binary64, prec, emax, low, up, down, lt, le, of_int, fits}
use lib.Ieee.Back.{round_whole}
use lib.Ieee.Bits.{is_true}
use lib.Ieee.Exact.{HasValue}
use lib.Ieee.Fits.{up_pos}
use lib.Ieee.Order.{le_of_values}
use lib.Ieee.Positive.{positive, positive_of_value, value_pos, first_pos}
use lib.Ieee.Scale.{grid, overflow}
use Rattle.lists.proofs.OrderLaws.{lt-or-le}
use Rattle.lists.proofs.TestLaws.{and-true}
use Rattle.quote_prices.specs.declared.PriceLine.{PriceLine}
use Rattle.quote_prices.specs.PriceLines.{price_in, whole, price_limit, faulty_price}
use Rattle.quote_prices.specs.Interpolation.{weight, along, price_between}
use Rattle.quote_prices.specs.Neighbours.{BetweenPrices}
use Rattle.quote_prices.proofs.RoundingLaws.{Units, Held, le-values, round-le, round-units}
use Rattle.quote_prices.proofs.OperationLaws.{units_of, fits-units, div-whole}
use Rattle.quote_prices.proofs.StepLaws.{Short}
use Rattle.quote_prices.proofs.AlongLaws.{along-rising, along-falling}

-- ---- the weight k / n, for k < n ≤ 65,535: at most 65,534 / 65,535, which is less than 1 - 1 / 2^17
module _ (k n : ℕ) (less : k < n) (most : n ≤ 65535) where
  weight-le : (v u : ℕ) → u ≡ 131072 * v → k * u ≤ 131071 * v * n
  weight-le v u e =
      let numbers : k * 131072 ≤ 131071 * n = omega arith in
      omega (arith, mul-le-mul_right v numbers, ap (λ (m : ℕ). k * m) e)

  short-of-one : (f : Format) → 17 ≤ low f → 131071 < 2 ^ prec f → (grid f k n < overflow f) × Short (2 ^ low f) (grid f k n)
  short-of-one f fine wide =
      let v = 2 ^ (low f - 17) in
      let scale : 2 ^ low f ≡ 131072 * v = ap (λ (j : ℕ). 2 ^ j) (split (low f) fine) ∙ pow-add 2 17 (low f - 17) in
      let under : 131071 * v < overflow f = lt_of_lt_of_le (rw scale (fewer v (pow_pos (low f - 17)))) (pow_mono (le-add_right (low f) (suc (emax f)))) in
      let held : Held f (131071 * v) = record { digits = 131071; shift = low f - 17; few = wide; under = under; is = refl } in
      let at_most = round-le f k n (131071 * v) (omega (arith, less)) held (weight-le v (2 ^ low f) scale) in
      (lt_of_le_of_lt at_most under, short v (2 ^ low f) (grid f k n) scale at_most)
    where
      split : (z : ℕ) → 17 ≤ z → z ≡ 17 + (z - 17)
      split z h = omega arith

      fewer : (v : ℕ) → 0 < v → 131071 * v < 131072 * v
      fewer v h = omega arith

      short : (v u g : ℕ) → u ≡ 131072 * v → g ≤ 131071 * v → 131072 * g ≤ 131071 * u
      short v u g e h = omega arith

-- ---- prices in units
-- up to 1,000, twice a price does not overflow
price-under : (f : Format) (g : ℕ) → g ≤ 1000 * 2 ^ low f → 2 * g < overflow f
price-under f g h =
    let twice : 2 * g ≤ 2000 * 2 ^ low f = omega arith in
    let power = pow-add 2 (low f) (suc (emax f)) in
    lt_of_le_of_lt twice (rw (power, mul_comm (2 ^ low f)) (mul-lt-mul_of_pos_right (room f) (pow_pos (low f))))
  where
    room : (f : Format) → 2000 < 2 ^ suc (emax f)
    room binary32 = lit< tt
    room binary64 = lit< tt

-- 1,000 is exact
limit-value : HasValue (whole price_limit) false 1000 1
unfolding of_int
limit-value = round_whole binary64 false 1000 (lit≤ tt)

-- a price that is not faulty passes both tests
passed : (b : Bool) → b ≡ true → T b
passed b e = subst T (sym e) tt

sound-tests : (p : Float) → faulty_price p ≡ false → T (lt (whole 0) p) × T (le p (whole price_limit))
unfolding faulty_price
sound-tests p h =
    let tests = and-true (lt (whole 0) p) (le p (whole price_limit)) (not-false _ h) in
    (passed _ tests.0, passed _ tests.1)

-- such a price is finite and above 0
sound-positive : (p : Float) → T (lt (whole 0) p) → T (le p (whole price_limit)) → T (positive p)
unfolding lt le of_int
sound-positive nan above below = absurd above
sound-positive (inf true) above below = absurd above
sound-positive (inf false) above below = absurd below
sound-positive (fin true m e) above below = absurd above
sound-positive (fin false m e) above below =
    let some : 0 < m * up e = omega (arith, ltb→lt (0 * up (pos 0) * down e) (m * up e * 1) above) in
    lt→ltb 0 m (first_pos m (up e) some)

-- a float of the format that is above 0 in units
positive-units : (x : Float) → T (fits binary64 x) → T (positive x) → Units binary64 x false (units_of binary64 x) × Held binary64 (units_of binary64 x)
positive-units nan t p = absurd p
positive-units (inf s) t p = absurd p
positive-units (fin true m e) t p = absurd p
positive-units (fin false m e) t p = fits-units binary64 false m e t

record Priced (p : Float) : Type 0 where
  count : ℕ
  units : Units binary64 p false count
  held : Held binary64 count
  some : 0 < count
  most : count ≤ 1000 * 2 ^ low binary64

priced : (p : Float) → T (fits binary64 p) → faulty_price p ≡ false → Priced p
priced p t h =
    let tests = sound-tests p h in
    let above = sound-positive p tests.0 tests.1 in
    let u = 2 ^ low binary64 in
    let own = positive-units p t above in
    record {
      count = units_of binary64 p;
      units = own.0;
      held = own.1;
      some = value_pos p (units_of binary64 p) u above (pow_pos (low binary64)) own.0;
      most = rw (sym (mul-one (units_of binary64 p))) (le-values p (whole price_limit) (units_of binary64 p) u 1000 1 own.0 limit-value tests.1);
    }

-- a float of units within the limits of a price is no faulty price
above_zero : (x : Float) → T (positive x) → T (lt (whole 0) x)
unfolding lt of_int
above_zero nan p = absurd p
above_zero (inf s) p = absurd p
above_zero (fin true m e) p = absurd p
above_zero (fin false m e) p =
    let some : 0 < m * up e = mul-pos (ltb→lt 0 m p) (up_pos e) in
    lt→ltb (0 * up (pos 0) * down e) (m * up e * 1) (omega arith)

not-faulty : (z : Float) (g : ℕ) → Units binary64 z false g → 0 < g → g ≤ 1000 * 2 ^ low binary64 → faulty_price z ≡ false
unfolding faulty_price
not-faulty z g v some most =
    let above = above_zero z (positive_of_value z g (2 ^ low binary64) v some) in
    let below = le_of_values z (whole price_limit) g (2 ^ low binary64) 1000 1 (pow_pos (low binary64)) (omega arith) v limit-value (rw (mul-one g) most) in
    rw (is_true (lt (whole 0) z) above, is_true (le z (whole price_limit)) below)

-- ---- between two prices
-- c is between g and h, whichever is the larger
record Amid (g h c : ℕ) : Type 0 where
  rising : g ≤ h → (g ≤ c) × (c ≤ h)
  falling : h ≤ g → (h ≤ c) × (c ≤ g)

amid-rising : (g h c : ℕ) → g ≤ c → c ≤ h → Amid g h c
amid-rising g h c l m = record { rising = λ e. (l, m); falling = λ e. (omega arith, omega arith) }

amid-falling : (g h c : ℕ) → h ≤ c → c ≤ g → Amid g h c
amid-falling g h c l m = record { rising = λ e. (omega arith, omega arith); falling = λ e. (l, m) }

record Counted (z : Float) (g h : ℕ) : Type 0 where
  count : ℕ
  units : Units binary64 z false count
  amid : Amid g h count

module _ (first second weight : Float) (w : ℕ) (a : Priced first) (b : Priced second) (v : Units binary64 weight false w) (short : Short (2 ^ low binary64) w) where
  counted : Counted (along first second weight) a.count b.count
  unfolding along
  counted = ⊎_elim falling rising (lt-or-le b.count a.count)
    where
      falling : b.count < a.count → Counted (along first second weight) a.count b.count
      falling l =
          let z = along-falling binary64 51 refl (lit≤ tt) weight w v short first second a.count b.count a.units b.units a.held b.held l (price-under binary64 a.count a.most) in
          record { count = z.count; units = z.units; amid = amid-falling a.count b.count z.count z.above z.below }

      rising : a.count ≤ b.count → Counted (along first second weight) a.count b.count
      rising l =
          let z = along-rising binary64 51 refl (lit≤ tt) weight w v short first second a.count b.count a.units b.units a.held b.held l (price-under binary64 b.count b.most) in
          record { count = z.count; units = z.units; amid = amid-rising a.count b.count z.count z.above z.below }

  -- in the order of the floats
  u-pos : 0 < 2 ^ low binary64
  u-pos = pow_pos (low binary64)

  units-le : (x y : Float) (g h : ℕ) → Units binary64 x false g → Units binary64 y false h → le x y ≡ true → g ≤ h
  units-le x y g h p q e = le_of_mul-le-mul_right (le-values x y g (2 ^ low binary64) h (2 ^ low binary64) p q (passed _ e)) u-pos

  le-units : (x y : Float) (g h : ℕ) → Units binary64 x false g → Units binary64 y false h → g ≤ h → le x y ≡ true
  le-units x y g h p q l = is_true _ (le_of_values x y g (2 ^ low binary64) h (2 ^ low binary64) u-pos u-pos p q (mul-le-mul_right (2 ^ low binary64) l))

  along-between : BetweenPrices first second (along first second weight)
  along-between =
      let z = counted in
      let g = a.count in
      let h = b.count in
      let x = along first second weight in
      record {
        sound = not-faulty x z.count z.units (least g h z.count z.amid a.some b.some) (most g h z.count _ z.amid a.most b.most);
        rising = λ e.
            let both = z.amid.rising (units-le first second g h a.units b.units e) in
            (le-units first x g z.count a.units z.units both.0, le-units x second z.count h z.units b.units both.1);
        falling = λ e.
            let both = z.amid.falling (units-le second first h g b.units a.units e) in
            (le-units second x h z.count b.units z.units both.0, le-units x first z.count g z.units a.units both.1);
      }
    where
      least : (g h c : ℕ) → Amid g h c → 0 < g → 0 < h → 0 < c
      least g h c m G H = ⊎_elim (λ l. omega (arith, (m.falling (le_of_lt l)).0)) (λ l. omega (arith, (m.rising l).0)) (lt-or-le h g)

      most : (g h c n : ℕ) → Amid g h c → g ≤ n → h ≤ n → c ≤ n
      most g h c n m G H = ⊎_elim (λ l. omega (arith, (m.falling (le_of_lt l)).1)) (λ l. omega (arith, (m.rising l).1)) (lt-or-le h g)

-- the price of a month between two lines whose prices in the scenario are not faulty: a price within theirs
pub price-between : (before after : PriceLine) (month scenario : ℕ) → before.months < month → month < after.months → after.months ≤ 65535
    → T (fits binary64 (price_in before scenario)) → T (fits binary64 (price_in after scenario))
    → faulty_price (price_in before scenario) ≡ false → faulty_price (price_in after scenario) ≡ false
    → BetweenPrices (price_in before scenario) (price_in after scenario) (price_between before after month scenario)
unfolding price_between weight of_int
price-between before after month scenario since until most t t' h h' =
    let k = month - before.months in
    let n = after.months - before.months in
    let short = short-of-one k n (omega arith) (omega arith) binary64 (lit≤ tt) (lit< tt) in
    let value = div-whole binary64 (whole k) (whole n) k n (omega arith) (round_whole binary64 false k (omega arith)) (round_whole binary64 false n (omega arith)) in
    along-between (price_in before scenario) (price_in after scenario) (weight before after month) (grid binary64 k n)
    (priced (price_in before scenario) t h) (priced (price_in after scenario) t' h') (rw value (round-units binary64 false k n short.0)) short.1
