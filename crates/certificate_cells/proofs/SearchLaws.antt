-- What `find` gives over a range, in the words of a search among whole numbers. Assumes nothing.
use Prim.Native.Nat.{ℕ, zero, suc, ◌+◌, ◌<◌}
use native.Mathlib.Numerals.{add-one}
use native.Mathlib.Omega.{arith}
use mathlib.Core.Path.{◌≡◌, refl, sym, subst}
use mathlib.Core.Bool.{Bool, true, false, cond}
use Rattle.std.specs.Prelude.{Option, None, Some, MatchOption}
use Rattle.std.specs.Option.{option_map}
use Rattle.std.specs.List.{find, range_with_len}
use Rattle.lists.specs.Ranges.{first_from}

-- nothing where the search goes past the range, and else the first number, which passes
abbrev pub Searched : (ℕ → Bool) → ℕ → ℕ → Option ℕ → Type 0
Searched test s n r = MatchOption r (first_from s n test ≡ s + n) (λ i. (i < s + n) × ((first_from s n test ≡ i) × (test i ≡ true)))

find-from : (test : ℕ → Bool) (s n : ℕ) → Searched test s n (find test (range_with_len s n))
unfolding first_from
find-from test s zero = omega arith
find-from test s (suc n) = by (test s) refl (find test (range_with_len (s + 1) n)) (find-from test (s + 1) n)
  where
    by : (b : Bool) → test s ≡ b → (r : Option ℕ) → Searched test (s + 1) n r
        → MatchOption (cond b (Some s) r) (cond b s (first_from (suc s) n test) ≡ s + suc n)
        (λ i. (i < s + suc n) × ((cond b s (first_from (suc s) n test) ≡ i) × (test i ≡ true)))
    by true e r h = (omega arith, (refl, e))
    by false e None h = rw (← add-one s) (omega (arith, h))
    by false e (Some i) h = (omega (arith, h.0), (rw (← add-one s) h.1.0, h.1.1))

pub find-in_range : (test : ℕ → Bool) (n : ℕ) (r : Option ℕ) → option_map (λ (i : ℕ). i) r ≡ find test (range_with_len 0 n) → Searched test 0 n r
find-in_range test n None e = subst (Searched test 0 n) (sym e) (find-from test 0 n)
find-in_range test n (Some i) e = subst (Searched test 0 n) (sym e) (find-from test 0 n)
