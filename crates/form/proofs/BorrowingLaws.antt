-- The borrowings by class and term, and what holds of months within a term and of a coupon within a class.
-- Assumes nothing.
use Prim.Native.Nat.{ℕ, ◌+◌, ◌*◌, ◌/◌, ◌%◌, ◌≤◌, ◌<◌}
use native.Mathlib.Omega.{arith}
use mathlib.Core.Path.{◌≡◌}
use mathlib.Core.Bool.{true}
use Rattle.lists.proofs.EachLaws.{each-lt}
use Rattle.lists.proofs.RangeLaws.{within_both}
use Rattle.form.specs.Limits.{filed_coupon_limit, months_limit}
use Rattle.form.specs.Borrowings.{coupon_classes, borrowing_terms, borrowing, borrowing_at, least_coupon, most_coupon, within_class, least_term, most_term, within_term}

-- the borrowing of a class and a term stands at 3 × class + term
pub borrowing-index : (class term : ℕ) → term < borrowing_terms → borrowing_at (3 * class + term) ≡ borrowing class term
unfolding borrowing_at
borrowing-index class term h =
    let quotient : (3 * class + term) / 3 ≡ class = omega arith in
    let remainder : (3 * class + term) % 3 ≡ term = omega arith in
    rw (quotient, remainder)

-- months within a term are 1 to 120
pub term-months : (term m : ℕ) → term < borrowing_terms → within_term term m ≡ true → (1 ≤ m) × (m ≤ months_limit)
unfolding within_term
term-months term m h w =
    let ends = each-lt 3 (λ i. (1 ≤ least_term i) × (most_term i ≤ 120)) ((omega arith, omega arith), ((omega arith, omega arith), ((omega arith, omega arith), tt))) term h in
    let inside = within_both (least_term term) (most_term term) m w in
    (omega arith, omega arith)

-- a coupon within a class is within its limit
pub class-coupon : (class c : ℕ) → class < coupon_classes → within_class class c ≡ true → c ≤ filed_coupon_limit
unfolding within_class
class-coupon class c h w =
    let most = each-lt 8 (λ i. most_coupon i ≤ 1500) (omega arith, (omega arith, (omega arith, (omega arith, (omega arith, (omega arith, (omega arith, (omega arith, tt)))))))) class h in
    let inside = within_both (least_coupon class) (most_coupon class) c w in
    omega arith
