-- `price_rounding::products::upper_half` meets its contract: no product of halves, with what is carried into it, leaves 64 bits. Assumes nothing.
use Prim.Native.Nat.{◌*◌, ◌-◌, ◌/◌, ◌%◌, ◌^◌, ◌≤◌}
use mathlib.Core.Path.{refl}
use native.Mathlib.Nat.{mul-le-mul}
use native.Mathlib.Omega.{arith}
use lib.Dec.{lit<}
use Rattle.pricing.proofs.ProductLaws.{upper-half-is, quotient-le-factor}
use Rattle.price_rounding.proofs.products.upper_half.Goals as goal

pub overflow_mul-carried : goal.overflow_mul-carried
overflow_mul-carried c =
    let halves-le : (c.args.x / 2 ^ 32 ≤ 2 ^ 32 - 1) × (c.args.x % 2 ^ 32 ≤ 2 ^ 32 - 1) × (c.args.y / 2 ^ 32 ≤ 2 ^ 32 - 1) × (c.args.y % 2 ^ 32 ≤ 2 ^ 32 - 1) = (omega arith, omega arith, omega arith, omega arith) in
    let products-le : (c.args.x / 2 ^ 32 * (c.args.y % 2 ^ 32) ≤ (2 ^ 32 - 1) * (2 ^ 32 - 1))
    × (c.args.x % 2 ^ 32 * (c.args.y % 2 ^ 32) ≤ (2 ^ 32 - 1) * (2 ^ 32 - 1))
    × (c.args.x % 2 ^ 32 * (c.args.y / 2 ^ 32) ≤ (2 ^ 32 - 1) * (2 ^ 32 - 1))
    × (c.args.x / 2 ^ 32 * (c.args.y / 2 ^ 32) ≤ (2 ^ 32 - 1) * (2 ^ 32 - 1)) = let h = halves-le in
    (mul-le-mul h.0 h.3, mul-le-mul h.1 h.3, mul-le-mul h.1 h.2, mul-le-mul h.0 h.2) in
    omega (arith, products-le)

pub overflow_mul-carried-2 : goal.overflow_mul-carried-2
overflow_mul-carried-2 c =
    let halves-le : (c.args.x / 2 ^ 32 ≤ 2 ^ 32 - 1) × (c.args.x % 2 ^ 32 ≤ 2 ^ 32 - 1) × (c.args.y / 2 ^ 32 ≤ 2 ^ 32 - 1) × (c.args.y % 2 ^ 32 ≤ 2 ^ 32 - 1) = (omega arith, omega arith, omega arith, omega arith) in
    let products-le : (c.args.x / 2 ^ 32 * (c.args.y % 2 ^ 32) ≤ (2 ^ 32 - 1) * (2 ^ 32 - 1))
    × (c.args.x % 2 ^ 32 * (c.args.y % 2 ^ 32) ≤ (2 ^ 32 - 1) * (2 ^ 32 - 1))
    × (c.args.x % 2 ^ 32 * (c.args.y / 2 ^ 32) ≤ (2 ^ 32 - 1) * (2 ^ 32 - 1))
    × (c.args.x / 2 ^ 32 * (c.args.y / 2 ^ 32) ≤ (2 ^ 32 - 1) * (2 ^ 32 - 1)) = let h = halves-le in
    (mul-le-mul h.0 h.3, mul-le-mul h.1 h.3, mul-le-mul h.1 h.2, mul-le-mul h.0 h.2) in
    omega (arith, products-le)

pub overflow_add-carried : goal.overflow_add-carried
overflow_add-carried c =
    let halves-le : (c.args.x / 2 ^ 32 ≤ 2 ^ 32 - 1) × (c.args.x % 2 ^ 32 ≤ 2 ^ 32 - 1) × (c.args.y / 2 ^ 32 ≤ 2 ^ 32 - 1) × (c.args.y % 2 ^ 32 ≤ 2 ^ 32 - 1) = (omega arith, omega arith, omega arith, omega arith) in
    let products-le : (c.args.x / 2 ^ 32 * (c.args.y % 2 ^ 32) ≤ (2 ^ 32 - 1) * (2 ^ 32 - 1))
    × (c.args.x % 2 ^ 32 * (c.args.y % 2 ^ 32) ≤ (2 ^ 32 - 1) * (2 ^ 32 - 1))
    × (c.args.x % 2 ^ 32 * (c.args.y / 2 ^ 32) ≤ (2 ^ 32 - 1) * (2 ^ 32 - 1))
    × (c.args.x / 2 ^ 32 * (c.args.y / 2 ^ 32) ≤ (2 ^ 32 - 1) * (2 ^ 32 - 1)) = let h = halves-le in
    (mul-le-mul h.0 h.3, mul-le-mul h.1 h.3, mul-le-mul h.1 h.2, mul-le-mul h.0 h.2) in
    omega (arith, products-le)

pub overflow_mul-middle : goal.overflow_mul-middle
overflow_mul-middle c =
    let halves-le : (c.args.x / 2 ^ 32 ≤ 2 ^ 32 - 1) × (c.args.x % 2 ^ 32 ≤ 2 ^ 32 - 1) × (c.args.y / 2 ^ 32 ≤ 2 ^ 32 - 1) × (c.args.y % 2 ^ 32 ≤ 2 ^ 32 - 1) = (omega arith, omega arith, omega arith, omega arith) in
    let products-le : (c.args.x / 2 ^ 32 * (c.args.y % 2 ^ 32) ≤ (2 ^ 32 - 1) * (2 ^ 32 - 1))
    × (c.args.x % 2 ^ 32 * (c.args.y % 2 ^ 32) ≤ (2 ^ 32 - 1) * (2 ^ 32 - 1))
    × (c.args.x % 2 ^ 32 * (c.args.y / 2 ^ 32) ≤ (2 ^ 32 - 1) * (2 ^ 32 - 1))
    × (c.args.x / 2 ^ 32 * (c.args.y / 2 ^ 32) ≤ (2 ^ 32 - 1) * (2 ^ 32 - 1)) = let h = halves-le in
    (mul-le-mul h.0 h.3, mul-le-mul h.1 h.3, mul-le-mul h.1 h.2, mul-le-mul h.0 h.2) in
    omega (arith, products-le)

pub overflow_add-middle : goal.overflow_add-middle
overflow_add-middle c =
    let halves-le : (c.args.x / 2 ^ 32 ≤ 2 ^ 32 - 1) × (c.args.x % 2 ^ 32 ≤ 2 ^ 32 - 1) × (c.args.y / 2 ^ 32 ≤ 2 ^ 32 - 1) × (c.args.y % 2 ^ 32 ≤ 2 ^ 32 - 1) = (omega arith, omega arith, omega arith, omega arith) in
    let products-le : (c.args.x / 2 ^ 32 * (c.args.y % 2 ^ 32) ≤ (2 ^ 32 - 1) * (2 ^ 32 - 1))
    × (c.args.x % 2 ^ 32 * (c.args.y % 2 ^ 32) ≤ (2 ^ 32 - 1) * (2 ^ 32 - 1))
    × (c.args.x % 2 ^ 32 * (c.args.y / 2 ^ 32) ≤ (2 ^ 32 - 1) * (2 ^ 32 - 1))
    × (c.args.x / 2 ^ 32 * (c.args.y / 2 ^ 32) ≤ (2 ^ 32 - 1) * (2 ^ 32 - 1)) = let h = halves-le in
    (mul-le-mul h.0 h.3, mul-le-mul h.1 h.3, mul-le-mul h.1 h.2, mul-le-mul h.0 h.2) in
    omega (arith, products-le)

pub overflow_mul-result : goal.overflow_mul-result
overflow_mul-result c =
    let halves-le : (c.args.x / 2 ^ 32 ≤ 2 ^ 32 - 1) × (c.args.x % 2 ^ 32 ≤ 2 ^ 32 - 1) × (c.args.y / 2 ^ 32 ≤ 2 ^ 32 - 1) × (c.args.y % 2 ^ 32 ≤ 2 ^ 32 - 1) = (omega arith, omega arith, omega arith, omega arith) in
    let products-le : (c.args.x / 2 ^ 32 * (c.args.y % 2 ^ 32) ≤ (2 ^ 32 - 1) * (2 ^ 32 - 1))
    × (c.args.x % 2 ^ 32 * (c.args.y % 2 ^ 32) ≤ (2 ^ 32 - 1) * (2 ^ 32 - 1))
    × (c.args.x % 2 ^ 32 * (c.args.y / 2 ^ 32) ≤ (2 ^ 32 - 1) * (2 ^ 32 - 1))
    × (c.args.x / 2 ^ 32 * (c.args.y / 2 ^ 32) ≤ (2 ^ 32 - 1) * (2 ^ 32 - 1)) = let h = halves-le in
    (mul-le-mul h.0 h.3, mul-le-mul h.1 h.3, mul-le-mul h.1 h.2, mul-le-mul h.0 h.2) in
    omega (arith, products-le)

pub overflow_add-result : goal.overflow_add-result
overflow_add-result c =
    let halves-le : (c.args.x / 2 ^ 32 ≤ 2 ^ 32 - 1) × (c.args.x % 2 ^ 32 ≤ 2 ^ 32 - 1) × (c.args.y / 2 ^ 32 ≤ 2 ^ 32 - 1) × (c.args.y % 2 ^ 32 ≤ 2 ^ 32 - 1) = (omega arith, omega arith, omega arith, omega arith) in
    let products-le : (c.args.x / 2 ^ 32 * (c.args.y % 2 ^ 32) ≤ (2 ^ 32 - 1) * (2 ^ 32 - 1))
    × (c.args.x % 2 ^ 32 * (c.args.y % 2 ^ 32) ≤ (2 ^ 32 - 1) * (2 ^ 32 - 1))
    × (c.args.x % 2 ^ 32 * (c.args.y / 2 ^ 32) ≤ (2 ^ 32 - 1) * (2 ^ 32 - 1))
    × (c.args.x / 2 ^ 32 * (c.args.y / 2 ^ 32) ≤ (2 ^ 32 - 1) * (2 ^ 32 - 1)) = let h = halves-le in
    (mul-le-mul h.0 h.3, mul-le-mul h.1 h.3, mul-le-mul h.1 h.2, mul-le-mul h.0 h.2) in
    omega (arith, products-le)

pub overflow_add-result-2 : goal.overflow_add-result-2
overflow_add-result-2 c =
    let halves-le : (c.args.x / 2 ^ 32 ≤ 2 ^ 32 - 1) × (c.args.x % 2 ^ 32 ≤ 2 ^ 32 - 1) × (c.args.y / 2 ^ 32 ≤ 2 ^ 32 - 1) × (c.args.y % 2 ^ 32 ≤ 2 ^ 32 - 1) = (omega arith, omega arith, omega arith, omega arith) in
    let products-le : (c.args.x / 2 ^ 32 * (c.args.y % 2 ^ 32) ≤ (2 ^ 32 - 1) * (2 ^ 32 - 1))
    × (c.args.x % 2 ^ 32 * (c.args.y % 2 ^ 32) ≤ (2 ^ 32 - 1) * (2 ^ 32 - 1))
    × (c.args.x % 2 ^ 32 * (c.args.y / 2 ^ 32) ≤ (2 ^ 32 - 1) * (2 ^ 32 - 1))
    × (c.args.x / 2 ^ 32 * (c.args.y / 2 ^ 32) ≤ (2 ^ 32 - 1) * (2 ^ 32 - 1)) = let h = halves-le in
    (mul-le-mul h.0 h.3, mul-le-mul h.1 h.3, mul-le-mul h.1 h.2, mul-le-mul h.0 h.2) in
    omega (arith, products-le)

pub returns : goal.returns
returns c =
    let is = upper-half-is (2 ^ 32) (lit< tt) c.args.x c.args.y _ _ refl refl in
    (is, rw is (quotient-le-factor c.args.x c.args.y (2 ^ 64) (omega arith)))
