-- What holds of each entry that `std::array::from_fn` makes. Assumes nothing.
use Prim.Native.Nat.{ℕ, zero, suc, ◌+◌, ◌≤◌, ◌<◌, zero-le}
use mathlib.Core.Path.{◌≡◌, sym, subst}
use mathlib.Core.Logic.{⊎_elim}
use mathlib.Core.List.{List}
use native.Mathlib.Nat.{eq-or-lt_of_le}
use native.Mathlib.Omega.{arith}
use lib.ListN.{get_or}
use denote.Param.Members.{Mut}
use Rattle.std.specs.Fn.{Called}
use Rattle.std.specs.Array.{IsFromFnResult, IsFromFnResultFrom}

module _ {F B : Type 0} {g : Mut F (ℕ × Unit {0}) B} {f : F} (P : ℕ → B → Type 0) (ys : List B) (d : B) where
  entry-holds : (i n : ℕ) → IsFromFnResultFrom g f ys i n → ((j : ℕ) (y : B) (q : F) → j < i + n → Called g f (j, tt) y q → (q ≡ f) × P j y)
      → (j : ℕ) → i ≤ j → j < i + n → P j (get_or ys j d)
  entry-holds i zero made calls j l u = absurd (omega arith)
  entry-holds i (suc n) made calls j l u =
      let same = calls i made.1 made.0 (omega arith) made.3 in
      ⊎_elim
      (λ e. subst (λ (k : ℕ). P k (get_or ys k d)) e (subst (λ (y : B). P i y) (sym (made.2.1 d)) same.1))
      (λ m. entry-holds (i + 1) n (subst (λ (q : F). IsFromFnResultFrom g q ys (i + 1) n) same.0 made.4) (λ k y q b. calls k y q (omega arith)) j (omega arith) (omega arith))
      (eq-or-lt_of_le l)

  -- each call leaves the closure as it is, and gives what has its property
  pub holds-from_fn : (n : ℕ) → IsFromFnResult g f ys n → ((i : ℕ) (y : B) (q : F) → i < n → Called g f (i, tt) y q → (q ≡ f) × P i y)
      → (i : ℕ) → i < n → P i (get_or ys i d)
  holds-from_fn n made calls i h = entry-holds 0 n made.each (λ j y q u k. calls j y q (omega arith) k) i zero-le (omega arith)
