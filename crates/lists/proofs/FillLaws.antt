-- A list that is filled entry by entry from the front, with what has a property of its index, or with a function of it: then it becomes the table of that
-- function. Assumes nothing.
use Prim.Native.Nat.{ℕ, ◌+◌, ◌≤◌, ◌<◌}
use mathlib.Core.Path.{◌≡◌, sym, ◌∙◌}
use mathlib.Core.Logic.{⊎_elim}
use mathlib.Core.List.{List}
use native.Mathlib.Nat.{not-suc-le-zero, le_of_suc-le-suc, eq-or-lt_of_le, ne_of_lt}
use native.Mathlib.Numerals.{add-one}
use native.Mathlib.Omega.{arith}
use lib.ListN.{length, get_or, set, take, replicate, length-set, length-replicate}
use lib.Seq.{get_or-set_same, get_or-set_other, ext_get_or, get_or-take, length-take-le, take_all}
use Rattle.lists.specs.Tables.{table}
use Rattle.lists.proofs.TableLaws.{table-length, table-get_or}

module _ {ℓ} {A : Type ℓ} where
  -- a list of n entries, of which each of the first i holds what has its property
  pub record FilledBy (P : ℕ → A → Type ℓ) (d : A) (n i : ℕ) (l : List A) : Type ℓ where
    pub long : length l ≡ n
    pub holds : (j : ℕ) → j < i → P j (get_or l j d)

  -- before the first entry, and in a list that is cleared
  pub filled-start : (P : ℕ → A → Type ℓ) (d : A) (l : List A) {n : ℕ} → length l ≡ n → FilledBy P d n 0 l
  filled-start P d l e = record { long = e; holds = λ j h. absurd (not-suc-le-zero h) }

  pub filled_none : (P : ℕ → A → Type ℓ) (d a : A) (n : ℕ) → FilledBy P d n 0 (replicate n a)
  filled_none P d a n = filled-start P d (replicate n a) (length-replicate n a)

  -- one entry more
  pub filled_more : (P : ℕ → A → Type ℓ) (d : A) (n i : ℕ) (l : List A) (a : A) → i < n → P i a → FilledBy P d n i l → FilledBy P d n (i + 1) (set l i a)
  filled_more P d n i l a h p filled =
      record {
        long = length-set l i a ∙ filled.long;
        holds = λ j g. ⊎_elim (here j) (λ b. rw (get_or-set_other l i j a d (ne_of_lt b)) (filled.holds j b)) (eq-or-lt_of_le (le_of_suc-le-suc (rw add-one at g)));
      }
    where
      here : (j : ℕ) → j ≡ i → P j (get_or (set l i a) j d)
      here j q = rw (q, get_or-set_same l i a d (rw filled.long h)) p

  -- of which the first i hold f 0, f 1, .., f (i - 1)
  abbrev pub Filled : (ℕ → A) → A → ℕ → ℕ → List A → Type ℓ
  Filled f d n i l = FilledBy (λ (j : ℕ) (a : A). a ≡ f j) d n i l

  pub fill_none : (f : ℕ → A) (d a : A) (n : ℕ) → Filled f d n 0 (replicate n a)
  fill_none f d a n = filled_none _ d a n

  pub fill_more : (f : ℕ → A) (d : A) (n i : ℕ) (l : List A) (a : A) → i < n → a ≡ f i → Filled f d n i l → Filled f d n (i + 1) (set l i a)
  fill_more f d n i l a h e filled = filled_more _ d n i l a h e filled

  -- the entries that are filled
  pub fill-first : (f : ℕ → A) (d : A) (n i : ℕ) (l : List A) → i ≤ n → Filled f d n i l → take i l ≡ table i f
  fill-first f d n i l h filled =
      ext_get_or d (take i l) (table i f) (long ∙ sym (table-length 0 i f))
      (λ j g. let b : j < i = rw long at g in get_or-take i l j d b ∙ filled.holds j b ∙ sym (table-get_or i f j d b))
    where
      long : length (take i l) ≡ i
      long = length-take-le i l (rw filled.long h)

  -- all entries
  pub fill-all : (f : ℕ → A) (d : A) (n : ℕ) (l : List A) → Filled f d n n l → l ≡ table n f
  fill-all f d n l filled = sym (take_all n l (omega (arith, filled.long))) ∙ fill-first f d n n l (omega arith) filled
