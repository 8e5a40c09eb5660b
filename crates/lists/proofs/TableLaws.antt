-- Laws of tables and of lists joined one after the other: their lengths, and what stands at an index. Assumes nothing.
use Prim.Native.Nat.{ℕ, zero, suc, ◌+◌, ◌*◌, ◌≤◌, ◌<◌}
use mathlib.Core.Path.{◌≡◌, refl, ap, sym, ◌∙◌}
use mathlib.Core.List.{List, [], ◌∷◌, ◌++◌, append_assoc, append-nil}
use native.Mathlib.Nat.{not-suc-le-zero, le_of_suc-le-suc, add-zero, zero-add, add-suc, suc-add, mul-zero, mul-suc}
use native.Mathlib.Numerals.{add-one}
use native.Mathlib.Omega.{arith}
use lib.ListN.{length, get_or, set, replicate, length-append, get_or-append}
use lib.Seq.{get_or-append-add}
use Rattle.lists.specs.Tables.{table_from, table, joined}

module _ {ℓ} {A : Type ℓ} where
  -- a table of n has n elements
  pub table-length : (s n : ℕ) (f : ℕ → A) → length (table_from s n f) ≡ n
  unfolding table_from
  table-length s zero f = refl
  table-length s (suc n) f = ap suc (table-length (suc s) n f)

  -- at index i of a table from s stands f (s + i)
  pub table_from-get_or : (s n : ℕ) (f : ℕ → A) (i : ℕ) (d : A) → i < n → get_or (table_from s n f) i d ≡ f (s + i)
  unfolding table_from
  table_from-get_or s zero f i d h = absurd (not-suc-le-zero h)
  table_from-get_or s (suc n) f zero d h = rw add-zero
  table_from-get_or s (suc n) f (suc i) d h = rw (table_from-get_or (suc s) n f i d (le_of_suc-le-suc h), suc-add, ← add-suc)

  -- at index i of a table stands f i
  pub table-get_or : (n : ℕ) (f : ℕ → A) (i : ℕ) (d : A) → i < n → get_or (table n f) i d ≡ f i
  table-get_or n f i d h = table_from-get_or 0 n f i d h ∙ ap f (zero-add i)

  -- a table of one entry more
  table_from-suc : (s n : ℕ) (f : ℕ → A) → table_from s (suc n) f ≡ table_from s n f ++ (f (s + n) ∷ [])
  unfolding table_from
  table_from-suc s zero f = rw add-zero
  table_from-suc s (suc n) f = ap (λ (l : List A). f s ∷ l) (table_from-suc (suc s) n f ∙ rw (suc-add, ← add-suc))

  -- functions that agree make the same table
  pub table_from-ext : (s n : ℕ) (f g : ℕ → A) → ((i : ℕ) → s ≤ i → i < s + n → f i ≡ g i) → table_from s n f ≡ table_from s n g
  unfolding table_from
  table_from-ext s zero f g h = refl
  table_from-ext s (suc n) f g h =
      rw (h s (omega arith) (omega arith), table_from-ext (suc s) n f g (λ i l u. h i (omega arith) (omega arith)))

  pub table-ext : (n : ℕ) (f g : ℕ → A) → ((i : ℕ) → i < n → f i ≡ g i) → table n f ≡ table n g
  table-ext n f g h = table_from-ext 0 n f g (λ i l u. h i (omega arith))

  -- functions that agree but at one number: the table of the one, with the other's value stored there
  pub table-set : (s n : ℕ) (f g : ℕ → A) (i : ℕ) (v : A) → i < n → v ≡ g (s + i) → ((j : ℕ) → (s + i ≡ j → ⊥) → f j ≡ g j)
      → set (table_from s n f) i v ≡ table_from s n g
  unfolding table_from
  table-set s zero f g i v l e h = absurd (omega arith)
  table-set s (suc n) f g zero v l e h =
      rw (e, add-zero, table_from-ext (suc s) n f g (λ j l u. h j (λ q. omega arith)))
  table-set s (suc n) f g (suc i) v l e h =
      let at : s + suc i ≡ suc s + i = omega arith in
      rw (h s (λ q. omega arith), table-set (suc s) n f g i v (omega arith) (rw at at e) (λ j q. h j (λ p. q (sym at ∙ p))))

  -- n lists of m elements each have m × n
  pub joined_length : (m s n : ℕ) (f : ℕ → List A) → ((i : ℕ) → length (f i) ≡ m) → length (joined (table_from s n f)) ≡ m * n
  unfolding table_from joined
  joined_length m s zero f h = sym (mul-zero m)
  joined_length m s (suc n) f h =
      omega (arith, length-append (f s) (joined (table_from (suc s) n f)), h s, joined_length m (suc s) n f h, mul-suc m n)

  -- index m i + r is r of the first list where i is 0; otherwise the first list takes m of it, and (i - 1, r) is left in the others
  joined_from-get_or : (m s n : ℕ) (f : ℕ → List A) → ((i : ℕ) → length (f i) ≡ m) → (i r : ℕ) (d : A) → i < n → r < m
      → get_or (joined (table_from s n f)) (m * i + r) d ≡ get_or (f (s + i)) r d
  unfolding table_from joined
  joined_from-get_or m s zero f h i r d hi hr = absurd (not-suc-le-zero hi)
  joined_from-get_or m s (suc n) f h zero r d hi hr =
      let hl : r < length (f s) = omega (arith, h s) in
      let e : m * 0 + r ≡ r = omega arith in
      rw (e, get_or-append (f s) (joined (table_from (suc s) n f)) d r hl, add-zero)
  joined_from-get_or m s (suc n) f h (suc i) r d hi hr =
      let e : m * suc i + r ≡ length (f s) + (m * i + r) = omega (arith, h s, mul-suc m i) in
      rw (e, get_or-append-add, joined_from-get_or m (suc s) n f h i r d (le_of_suc-le-suc hi) hr, suc-add, ← add-suc)

  -- of lists of m elements each, joined: at index m × i + r stands what the i-th has at r
  pub joined-get_or : (m n : ℕ) (f : ℕ → List A) → ((i : ℕ) → length (f i) ≡ m) → (i r : ℕ) (d : A) → i < n → r < m
      → get_or (joined (table n f)) (m * i + r) d ≡ get_or (f i) r d
  joined-get_or m n f h i r d hi hr = joined_from-get_or m 0 n f h i r d hi hr ∙ ap (λ (j : ℕ). get_or (f j) r d) (zero-add i)

module _ {ℓ} {A : Type ℓ} where
  joined-append : (ls ms : List (List A)) → joined (ls ++ ms) ≡ joined ls ++ joined ms
  unfolding joined
  joined-append [] ms = refl
  joined-append (l ∷ ls) ms = rw (joined-append ls ms, append_assoc)

  -- the lists of a table joined, with one more behind them
  pub joined-suc : (n : ℕ) (f : ℕ → List A) → joined (table (n + 1) f) ≡ joined (table n f) ++ f n
  unfolding joined
  joined-suc n f = rw (add-one, table_from-suc 0 n f, joined-append, zero-add, append-nil)

-- what bounds each value of the function bounds each read, also one past the end, which gives 0
pub table-le : (s n : ℕ) (f : ℕ → ℕ) (limit : ℕ) → ((j : ℕ) → s ≤ j → j < s + n → f j ≤ limit) → (i : ℕ) → get_or (table_from s n f) i 0 ≤ limit
unfolding table_from
table-le s zero f limit h i = omega arith
table-le s (suc n) f limit h zero = h s (omega arith) (omega arith)
table-le s (suc n) f limit h (suc i) = table-le (suc s) n f limit (λ j l u. h j (omega arith) (omega arith)) i

-- what bounds each read of two lists bounds each read of them together
pub append-le : (xs ys : List ℕ) (limit : ℕ) → ((i : ℕ) → get_or xs i 0 ≤ limit) → ((i : ℕ) → get_or ys i 0 ≤ limit) → (i : ℕ) → get_or (xs ++ ys) i 0 ≤ limit
append-le [] ys limit hx hy i = hy i
append-le (x ∷ xs) ys limit hx hy zero = hx 0
append-le (x ∷ xs) ys limit hx hy (suc i) = append-le xs ys limit (λ j. hx (suc j)) hy i

-- and so of all lists of a table, joined
pub joined-le : (s n : ℕ) (f : ℕ → List ℕ) (limit : ℕ) → ((j i : ℕ) → s ≤ j → j < s + n → get_or (f j) i 0 ≤ limit)
    → (i : ℕ) → get_or (joined (table_from s n f)) i 0 ≤ limit
unfolding table_from joined
joined-le s zero f limit h i = omega arith
joined-le s (suc n) f limit h i =
    append-le (f s) (joined (table_from (suc s) n f)) limit (λ j. h s j (omega arith) (omega arith))
    (joined-le (suc s) n f limit (λ j k l u. h j k (omega arith) (omega arith))) i

-- a list of zeros has 0 at every index
pub zeros-get_or : (n i : ℕ) → ◌≡◌ {A = ℕ} (get_or (replicate n 0) i 0) 0
zeros-get_or zero i = refl
zeros-get_or (suc n) zero = refl
zeros-get_or (suc n) (suc i) = zeros-get_or n i
