-- Numbers of a list that are changed from one index up to another: none, two, and one run after the other. Assumes nothing.
use Prim.Native.Nat.{ℕ, ◌+◌, ◌*◌, ◌≤◌, ◌<◌}
use native.Mathlib.Omega.{arith}
use mathlib.Core.Path.{◌≡◌, refl, sym, ◌∙◌}
use mathlib.Core.List.{List}
use lib.IntN.{ℤ, pos}
use lib.ListN.{length, get_or, set, length-set, drop, length-drop}
use lib.Seq.{get_or-set_same, get_or-set_other, ext_get_or, get_or-drop}
use Rattle.forward_sheet.specs.Inner.Runs.{Changed}

pub changed-none : (from to : ℕ) (l : List ℤ) → Changed from to l l
changed-none from to l = record { as_long = refl; below = λ i h. refl; beyond = λ i h. refl }

-- one run after the other
pub changed_then : {from mid to : ℕ} {first next last : List ℤ} → from ≤ mid → mid ≤ to → Changed from mid first next → Changed mid to next last → Changed from to first last
changed_then lower upper a b =
    record {
      as_long = b.as_long ∙ a.as_long;
      below = λ i h. b.below i (omega arith) ∙ a.below i h;
      beyond = λ i h. b.beyond i h ∙ a.beyond i (omega arith);
    }

-- two numbers side by side
module _ (l : List ℤ) (at : ℕ) (x y : ℤ) (fits : at + 1 < length l) where
  abbrev two : List ℤ
  two = set (set l at x) (at + 1) y

  pub changed-two : Changed at (at + 2) l two
  changed-two =
      record {
        as_long = simp length-set;
        below = λ i h. get_or-set_other (set l at x) (at + 1) i y (pos 0) (omega arith) ∙ get_or-set_other l at i x (pos 0) (omega arith);
        beyond = λ i h. get_or-set_other (set l at x) (at + 1) i y (pos 0) (omega arith) ∙ get_or-set_other l at i x (pos 0) (omega arith);
      }

  pub first-of-two : get_or two at (pos 0) ≡ x
  first-of-two = get_or-set_other (set l at x) (at + 1) at y (pos 0) (omega arith) ∙ get_or-set_same l at x (pos 0) (omega arith)

  pub second-of-two : get_or two (at + 1) (pos 0) ≡ y
  second-of-two = get_or-set_same (set l at x) (at + 1) y (pos 0) (omega (arith, length-set l at x))

-- two more behind n pairs
pub changed-more : {at : ℕ} (n : ℕ) {first l : List ℤ} (x y : ℤ) → Changed at (at + 2 * n) first l → at + 2 * n + 1 < length l
    → Changed at (at + 2 * (n + 1)) first (set (set l (at + 2 * n) x) (at + 2 * n + 1) y)
changed-more {at} n {first} {l} x y k fits =
    let e : at + 2 * n + 2 ≡ at + 2 * (n + 1) = omega arith in
    changed_then (omega arith) (omega arith) k (rw e at (changed-two l (at + 2 * n) x y fits))

-- what stands behind the run
pub changed-rest : {from to : ℕ} {before after : List ℤ} → Changed from to before after → drop to after ≡ drop to before
changed-rest {from} {to} {before} {after} k =
    ext_get_or (pos 0) (drop to after) (drop to before) (simp (length-drop, k.as_long))
    (λ i h. get_or-drop to after i (pos 0) ∙ k.beyond (to + i) (omega arith) ∙ sym (get_or-drop to before i (pos 0)))
