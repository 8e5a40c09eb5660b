-- A const parameter that is a flag, as a number: 0 or not. Assumes nothing.
use Prim.Native.Nat.{ℕ}
use mathlib.Core.Path.{◌≡◌}
use mathlib.Core.Bool.{true, not}
use borrow.Author.Tests.{ne_eqb}
use lib.Dec.{eqb}

pub flag-set : (n : ℕ) → (n ≡ 0 → ⊥) → not (eqb n 0) ≡ true
flag-set n h = rw (ne_eqb n 0 h)
