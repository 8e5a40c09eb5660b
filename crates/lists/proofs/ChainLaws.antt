-- What the library's iterator methods and `std::array::from_fn` give, in the words of tables, of sums and of tests below a number. Assumes nothing.
use Prim.Native.Nat.{ℕ, zero, suc, ◌+◌, ◌≤◌, ◌<◌, zero-le}
use mathlib.Core.Path.{◌≡◌, refl, sym, ap, subst, ◌∙◌}
use mathlib.Core.Logic.{⊎_elim}
use mathlib.Core.Bool.{Bool, ◌||◌}
use mathlib.Core.List.{List, [], ◌∷◌, map}
use native.Mathlib.Nat.{add-zero, zero-add, suc-add, add-suc, eq-or-lt_of_le}
use native.Mathlib.Numerals.{add-one}
use native.Mathlib.Omega.{arith}
use lib.ListN.{length, get_or}
use lib.Seq.{ext_get_or}
use denote.Param.Members.{Mut}
use Rattle.std.proofs.Math.Bool.{or-false, or_assoc}
use Rattle.std.proofs.lemmas.List.FromFn.{fill_by_all, length-map-range_with_len, get_or-map-range_with_len}
use Rattle.std.specs.Fn.{Called}
use Rattle.std.specs.List.{list_any, range_with_len, fold}
use Rattle.std.specs.Array.{IsFromFnResult, IsFromFnResultFrom}
use Rattle.lists.specs.Tables.{table, any_below}
use Rattle.lists.specs.Sums.{sum}
use Rattle.lists.proofs.TableLaws.{table-length, table-get_or}

-- `from_fn`, each of whose calls leaves the closure as it is and gives what a function says: the function's table
module _ {F B : Type 0} {g : Mut F (ℕ × Unit {0}) B} {f : F} (h : ℕ → B) (ys : List B) (d : B) where
  entry-from_fn : (i n : ℕ) → IsFromFnResultFrom g f ys i n → ((j : ℕ) (y : B) (q : F) → j < i + n → Called g f (j, tt) y q → (q ≡ f) × (y ≡ h j))
      → (j : ℕ) → i ≤ j → j < i + n → get_or ys j d ≡ h j
  entry-from_fn i zero made calls j l u = absurd (omega arith)
  entry-from_fn i (suc n) made calls j l u =
      let same = calls i made.1 made.0 (omega arith) made.3 in
      ⊎_elim
      (λ e. subst (λ (k : ℕ). get_or ys k d ≡ h k) e (made.2.1 d ∙ same.1))
      (λ m. entry-from_fn (i + 1) n (subst (λ (q : F). IsFromFnResultFrom g q ys (i + 1) n) same.0 made.4) (λ k y q b. calls k y q (omega arith)) j (omega arith) (omega arith))
      (eq-or-lt_of_le l)

pub table-from_fn : {F B : Type 0} {g : Mut F (ℕ × Unit {0}) B} {f : F} (d : B) (h : ℕ → B) (n : ℕ) {ys : List B} → IsFromFnResult g f ys n
    → ((i : ℕ) (y : B) (q : F) → i < n → Called g f (i, tt) y q → (q ≡ f) × (y ≡ h i)) → ys ≡ table n h
table-from_fn d h n {ys} made calls =
    ext_get_or d ys (table n h) (made.long ∙ sym (table-length 0 n h))
    (λ i l. let b : i < n = omega (arith, made.long) in
    entry-from_fn h ys d 0 n made.each (λ j y q u k. calls j y q (omega arith) k) i zero-le (omega arith) ∙ sym (table-get_or n h i d b))

-- one of the numbers from s on, n of them, passes a test
any-range : (test : ℕ → Bool) (s n : ℕ) → (any_below test s || list_any test (range_with_len s n)) ≡ any_below test (s + n)
unfolding any_below
any-range test s zero = rw add-zero (or-false (any_below test s))
any-range test s (suc n) =
    sym (or_assoc (any_below test s) (test s) (list_any test (range_with_len (s + 1) n)))
    ∙ ap (λ (k : ℕ). any_below test (suc s) || list_any test (range_with_len k n)) (add-one s)
    ∙ any-range test (suc s) n
    ∙ ap (any_below test) (suc-add s n ∙ sym (add-suc s n))

pub any-in_range : (test : ℕ → Bool) (n : ℕ) → list_any test (range_with_len 0 n) ≡ any_below test n
unfolding any_below
any-in_range test n = any-range test 0 n ∙ ap (any_below test) (zero-add n)

any-map : {A : Type 0} (test : A → Bool) (f : ℕ → A) (is : List ℕ) → list_any test (map f is) ≡ list_any (λ i. test (f i)) is
any-map test f [] = refl
any-map test f (i ∷ is) = ap (λ (b : Bool). test (f i) || b) (any-map test f is)

-- an entry of a list passes a test
pub any-in_list : {A : Type 0} (test : A → Bool) (d : A) (xs : List A) → list_any test xs ≡ any_below (λ i. test (get_or xs i d)) (length xs)
any-in_list test d xs =
    ap (list_any test) (fill_by_all (λ i. get_or xs i d) xs (length xs) d refl (λ k l. refl))
    ∙ any-map test (λ i. get_or xs i d) (range_with_len 0 (length xs))
    ∙ any-in_range (λ i. test (get_or xs i d)) (length xs)

-- a table, and the values of a function over a range
pub table-map_range : {A : Type 0} (f : ℕ → A) (d : A) (n : ℕ) → map f (range_with_len 0 n) ≡ table n f
table-map_range f d n =
    ext_get_or d (map f (range_with_len 0 n)) (table n f) (length-map-range_with_len f 0 n ∙ sym (table-length 0 n f))
    (λ i l. let b : i < n = omega (arith, length-map-range_with_len f 0 n) in
    get_or-map-range_with_len f 0 n i i d b (zero-add i) ∙ sym (table-get_or n f i d b))

-- the library's sum of a list
sum-fold : (a : ℕ) (xs : List ℕ) → fold (λ s x. s + x) a xs ≡ a + sum xs
unfolding sum
sum-fold a [] = sym (add-zero a)
sum-fold a (x ∷ xs) = sum-fold (a + x) xs ∙ omega arith

pub sum-of_fold : (xs : List ℕ) → fold (λ s x. s + x) 0 xs ≡ sum xs
sum-of_fold xs = sum-fold 0 xs ∙ zero-add (sum xs)
