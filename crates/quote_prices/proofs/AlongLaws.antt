-- p1 + (p2 - p1) × w, each operation rounded once, for a weight short of 1: it stays within p1 and p2. Assumes nothing.
use Prim.Native.Nat.{ℕ, ◌+◌, ◌-◌, ◌*◌, ◌^◌, ◌≤◌, ◌<◌}
use native.Mathlib.Nat.{lt_of_le_of_lt, mul-le-mul_right}
use native.Mathlib.Omega.{arith}
use mathlib.Core.Path.{◌≡◌, refl, ap, ◌∙◌}
use mathlib.Core.Bool.{Bool, true, false}
use lib.Pow.{pow_pos}
use lib.Ieee.{Float, Format, prec, low, unlike, round, add, sub, mul}
use lib.Ieee.Scale.{grid, overflow}
use Rattle.quote_prices.proofs.RoundingLaws.{Units, Held, round-le, round-ge, round-units}
use Rattle.quote_prices.proofs.OperationLaws.{add-both, add_left, sub-left, sub-lacking, mul-values}
use Rattle.quote_prices.proofs.StepLaws.{Short, step-le}

-- a float that is not negative, with at least `least` and at most `most` units
pub record Within (f : Format) (x : Float) (least most : ℕ) : Type 0 where
  pub count : ℕ
  pub units : Units f x false count
  pub above : least ≤ count
  pub below : count ≤ most

unlike-plus : (s : Bool) → unlike s false ≡ s
unlike-plus true = refl
unlike-plus false = refl

module _ (f : Format) (r : ℕ) (kept : prec f ≡ r + 2) (wide : 131072 ≤ 2 ^ r) where
  -- a whole number of units between two that are held rounds to between them
  rounded-within : (least n most : ℕ) → Held f least → Held f most → least ≤ n → n ≤ most → Within f (round f false n (2 ^ low f)) least most
  rounded-within least n most low_held high_held l h =
      let u = 2 ^ low f in
      let below = round-le f n u most (pow_pos (low f)) high_held (mul-le-mul_right u h) in
      let under = lt_of_le_of_lt below high_held.under in
      record { count = grid f n u; units = round-units f false n u under; above = round-ge f n u least (pow_pos (low f)) low_held (mul-le-mul_right u l) under; below = below }

  -- a difference of n units with a sign, rounded, times the weight, rounded: at most n units with that sign
  record Step (x : Float) (s : Bool) (n : ℕ) : Type 0 where
    count : ℕ
    units : Units f x s count
    below : count ≤ n

  module _ (weight : Float) (w : ℕ) (v : Units f weight false w) (short : Short (2 ^ low f) w) where
    step : (s : Bool) (n most : ℕ) → Held f most → n ≤ most → 2 * n < overflow f → Step (mul f (round f s n (2 ^ low f)) weight) s n
    step s n most held h under =
        let u = 2 ^ low f in
        let U = pow_pos (low f) in
        let d = round-units f s n u (lt_of_le_of_lt (round-le f n u most U held (mul-le-mul_right u h)) held.under) in
        let product = mul-values f (round f s n u) weight s false (grid f n u) u w u U U d v ∙ ap (λ (t : Bool). round f t (grid f n u * w) (u * u)) (unlike-plus s) in
        let below = step-le f r kept wide n w under short in
        record {
          count = grid f (grid f n u * w) (u * u);
          units = rw product (round-units f s (grid f n u * w) (u * u) (lt_of_le_of_lt below (lt_of_le_of_lt h held.under)));
          below = below;
        }

    -- two prices, of g and h units
    module _ (first second : Float) (g h : ℕ) (p : Units f first false g) (q : Units f second false h) (G : Held f g) (H : Held f h) where
      -- the second is at least the first: first + x, where x is at most the difference
      pub along-rising : g ≤ h → 2 * h < overflow f → Within f (add f first (mul f (sub f second first) weight)) g h
      along-rising l under =
          let x = step false (h - g) h H (omega arith) (lt_of_le_of_lt (omega arith) under) in
          let fits : x.count ≤ h - g = x.below in
          let total = ap (λ (d : Float). add f first (mul f d weight)) (sub-left f second first h g q p l) ∙ add-both f first _ g x.count p x.units in
          rw total (rounded-within g (g + x.count) h G H (omega arith) (omega arith))

      -- the second is less: first - x
      pub along-falling : h < g → 2 * g < overflow f → Within f (add f first (mul f (sub f second first) weight)) h g
      along-falling l under =
          let x = step true (g - h) g G (omega arith) (lt_of_le_of_lt (omega arith) under) in
          let fits : x.count ≤ g - h = x.below in
          let total = ap (λ (d : Float). add f first (mul f d weight)) (sub-lacking f second first h g q p l) ∙ add_left f first _ g x.count p x.units (omega arith) in
          rw total (rounded-within h (g - x.count) g H G (omega arith) (omega arith))
