-- A product by the halves of its factors. Assumes nothing.
use Prim.Native.Nat.{ℕ, ◌+◌, ◌*◌, ◌/◌, ◌%◌, ◌≤◌, ◌<◌}
use mathlib.Core.Path.{◌≡◌, ap, ◌∙◌}
use native.Mathlib.Nat.{div-add-mod', div-eq_of_lt-le, div-le_of_le-mul, mul_comm, mul-le-mul_left, mul-le-mul_right, mod-lt}
use native.Mathlib.Omega.{arith}

module _ (b : ℕ) (pos : 0 < b) where
  -- With x = xh b + xl, y = yh b + yl, xl yl = a b + r, xh yl + a = t b + s and xl yh + s = k b + l:
  -- x y = (xh yh + t + k) b² + l b + r, and l b + r < b²
  by-halves : (xh xl yh yl a r t s k l : ℕ) → a * b + r ≡ xl * yl → r < b → t * b + s ≡ xh * yl + a → k * b + l ≡ xl * yh + s → l < b
      → (xh * b + xl) * (yh * b + yl) / (b * b) ≡ xh * yh + t + k
  by-halves xh xl yh yl a r t s k l ea hr et ek hl =
      let et' = ap (λ (v : ℕ). v * b) et in
      let ek' = ap (λ (v : ℕ). v * b) ek in
      let most = mul-le-mul_right b hl in
      div-eq_of_lt-le (b * b) (omega arith) (omega arith)

  -- the upper half of x y, with what is carried into the middle
  pub upper-half-is : (x y carried middle : ℕ) → carried ≡ x / b * (y % b) + x % b * (y % b) / b → middle ≡ x % b * (y / b) + carried % b
      → x / b * (y / b) + carried / b + middle / b ≡ x * y / (b * b)
  upper-half-is x y carried middle ec em =
      let whole = by-halves (x / b) (x % b) (y / b) (y % b) (x % b * (y % b) / b) (x % b * (y % b) % b) (carried / b) (carried % b) (middle / b) (middle % b)
      (div-add-mod' _ b) (mod-lt _ pos) (div-add-mod' carried b ∙ ec) (div-add-mod' middle b ∙ em) (mod-lt middle pos) in
      rw (← whole, div-add-mod' x b, div-add-mod' y b)

-- divided by no less than one factor, a product is at most the other
pub quotient-le-factor : (x y k : ℕ) → y ≤ k → x * y / k ≤ x
quotient-le-factor x y k h = div-le_of_le-mul k (rw (mul_comm k x) (mul-le-mul_left x h))
