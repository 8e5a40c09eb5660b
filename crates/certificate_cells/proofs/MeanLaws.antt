-- A mean from its quotient and remainder: the quotient, or one more from half the weight on. Assumes nothing.
use Prim.Native.Nat.{ℕ, ◌+◌, ◌*◌, ◌/◌, ◌%◌, ◌≤◌, ◌<◌}
use native.Mathlib.Nat.{div-add-mod', mod-lt, div-eq_of_lt-le}
use native.Mathlib.Omega.{arith}
use mathlib.Core.Path.{◌≡◌, sym}
use Rattle.certificate_cells.specs.Means.{mean}

module _ (weighted weight : ℕ) (some : 0 < weight) where
  pub mean-below : 2 * (weighted % weight) < weight → weighted / weight ≡ mean weighted weight
  unfolding mean
  mean-below h =
      sym (div-eq_of_lt-le {k = weighted / weight} (2 * weight) {m = 2 * weighted + weight}
      (omega (arith, div-add-mod' weighted weight)) (omega (arith, div-add-mod' weighted weight)))

  pub mean-half : weight ≤ 2 * (weighted % weight) → weighted / weight + 1 ≡ mean weighted weight
  unfolding mean
  mean-half h =
      sym (div-eq_of_lt-le {k = weighted / weight + 1} (2 * weight) {m = 2 * weighted + weight}
      (omega (arith, div-add-mod' weighted weight)) (omega (arith, div-add-mod' weighted weight, mod-lt weighted some)))
