-- The records of the filing that is composed of the surviving ones: where each stands, and from which record it comes. Assumes nothing.
use Prim.Native.Nat.{ℕ, zero, suc, ◌+◌, ◌≤◌, ◌<◌}
use native.Mathlib.Nat.{add-zero, eq-or-lt_of_le, le_of_suc-le-suc, not-suc-le-zero}
use native.Mathlib.Omega.{arith}
use mathlib.Core.Path.{◌≡◌, refl, sym, ap, subst, ◌∙◌}
use mathlib.Core.Logic.{⊎_elim}
use mathlib.Core.Bool.{Bool, true, false, true≢false}
use mathlib.Core.List.{List, [], ◌++◌, append_assoc, append-nil}
use borrow.Author.Tests.{ltb-true, ltb-false}
use lib.Dec.{ltb}
use lib.ListN.{length, length-append}
use Rattle.record_fields.specs.Bytes.{number_at}
use Rattle.record_fields.specs.Records.{record_length, next_record}
use Rattle.record_kinds.specs.Items.{record_item}
use Rattle.record_kinds.proofs.ItemLaws.{item-past}
use Rattle.record_fields.proofs.SearchLaws.{Reached, here, step, next-lt, reached-le, reached-next}
use Rattle.theorem_certificates.proofs.ByteLaws.{number_behind, number-front}
use Rattle.theorem_survivors.specs.Composed.{keeps, kept_as, kept_at, offset_of, kept_before, only_survivors}

-- record m is kept; the bytes that it is kept as; where they stand in the composed filing
abbrev pub kept_is : List ℕ → ℕ → Bool
kept_is s m = keeps s (offset_of s m) (record_item s (offset_of s m))

abbrev pub piece : List ℕ → ℕ → List ℕ
piece s m = kept_as s (offset_of s m) (record_item s (offset_of s m))

unfoldable pub place : List ℕ → ℕ → ℕ
place s m = length (kept_before s m)

module _ (s : List ℕ) where
  abbrev made : List ℕ
  made = only_survivors s

  -- the records of s by their number
  pub offset-lt : (m n : ℕ) → m < n → offset_of s m < offset_of s n
  unfolding offset_of
  offset-lt m zero h = absurd (not-suc-le-zero h)
  offset-lt m (suc n) h =
      ⊎_elim (λ e. omega (arith, next-lt s (offset_of s n), ap (offset_of s) e)) (λ l. omega (arith, next-lt s (offset_of s n), offset-lt m n l))
      (eq-or-lt_of_le (le_of_suc-le-suc h))

  offset-ge : (m : ℕ) → m ≤ offset_of s m
  unfolding offset_of
  offset-ge zero = omega arith
  offset-ge (suc m) = omega (arith, next-lt s (offset_of s m), offset-ge m)

  pub offset-reached : (m : ℕ) → Reached s 0 (offset_of s m)
  unfolding offset_of
  offset-reached zero = here
  offset-reached (suc m) = reached-next s (offset-reached m)

  -- a record that is reached has a number
  pub record Numbered (at : ℕ) : Type 0 where
    pub index : ℕ
    pub is : offset_of s index ≡ at

  number-from : {from at : ℕ} → Reached s from at → (m : ℕ) → offset_of s m ≡ from → Numbered at
  unfolding offset_of
  number-from here m e = record { index = m; is = e }
  number-from (step r) m e = number-from r (suc m) (ap (next_record s) e)

  pub numbered : {at : ℕ} → Reached s 0 at → Numbered at
  unfolding offset_of
  numbered r = number-from r 0 refl

  pub numbered-lt : (m : ℕ) → offset_of s m < length s → m < length s
  numbered-lt m h = omega (arith, offset-ge m)

  -- a record that is kept stands within s
  pub kept-within : (m : ℕ) → kept_is s m ≡ true → offset_of s m < length s
  unfolding keeps
  kept-within m k = by (ltb (offset_of s m) (length s)) refl
    where
      by : (b : Bool) → ltb (offset_of s m) (length s) ≡ b → offset_of s m < length s
      by true e = ltb-true (offset_of s m) (length s) e
      by false e =
          let past = item-past s (offset_of s m) (ltb-false (offset_of s m) (length s) e) in
          absurd (true≢false (sym k ∙ ap (keeps s (offset_of s m)) past))

  kept-at : (m : ℕ) → kept_is s m ≡ true → kept_at s (offset_of s m) ≡ piece s m
  unfolding kept_at
  kept-at m k = rw k

  lost-at : (m : ℕ) → kept_is s m ≡ false → kept_at s (offset_of s m) ≡ []
  unfolding kept_at
  lost-at m k = rw k

  place-suc : (m : ℕ) → place s (suc m) ≡ place s m + length (kept_at s (offset_of s m))
  unfolding place kept_before
  place-suc m = length-append (kept_before s m) (kept_at s (offset_of s m))

  pub place_kept : (m : ℕ) → kept_is s m ≡ true → place s (suc m) ≡ place s m + length (piece s m)
  place_kept m k = place-suc m ∙ ap (λ (l : List ℕ). place s m + length l) (kept-at m k)

  pub place-lost : (m : ℕ) → kept_is s m ≡ false → place s m ≡ place s (suc m)
  place-lost m k = omega (arith, place-suc m, ap length (lost-at m k))

  pub place_mono : (m n : ℕ) → m ≤ n → place s m ≤ place s n
  place_mono m zero h = let e : m ≡ 0 = omega arith in omega (arith, ap (place s) e)
  place_mono m (suc n) h =
      ⊎_elim (λ e. omega (arith, ap (place s) e)) (λ l. omega (arith, place-suc n, place_mono m n (le_of_suc-le-suc l))) (eq-or-lt_of_le h)

  pub place-last : place s (length s) ≡ length made
  unfolding place only_survivors
  place-last = refl

  -- what is kept before record m, the record, and what is kept behind it
  record Parted (m n : ℕ) : Type 0 where
    rest : List ℕ
    is : kept_before s n ≡ kept_before s m ++ (kept_at s (offset_of s m) ++ rest)

  -- by what is kept last: record m itself, or one behind it
  parted : (m n : ℕ) → m < n → Parted m n
  unfolding kept_before
  parted m zero h = absurd (not-suc-le-zero h)
  parted m (suc n) h =
      ⊎_elim (λ e. subst (λ (j : ℕ). Parted j (suc n)) (sym e) (record { rest = []; is = rw append-nil }))
      (λ l. let p = parted m n l in record { rest = p.rest ++ kept_at s (offset_of s n); is = rw p.is (simp append_assoc) })
      (eq-or-lt_of_le (le_of_suc-le-suc h))

  -- the numbers of a record that is kept
  pub number-made : (m : ℕ) → m < length s → kept_is s m ≡ true
      → (i n : ℕ) → i + n ≤ length (piece s m) → number_at made (place s m + i) n ≡ number_at (piece s m) i n
  unfolding only_survivors place
  number-made m l k i n h =
      let p = parted m (length s) l in
      rw (p.is, kept-at m k) (number_behind (kept_before s m) (piece s m ++ p.rest) i n ∙ number-front (piece s m) p.rest i n h)

  -- each is kept as a whole record
  module _ (framed : (m : ℕ) → kept_is s m ≡ true → length (piece s m) ≡ 2 + number_at (piece s m) 0 2) where
    next-made : (m : ℕ) → m < length s → kept_is s m ≡ true → next_record made (place s m) ≡ place s (suc m)
    unfolding next_record
    next-made m l k =
        let size = framed m k in
        let said : record_length made (place s m) ≡ number_at (piece s m) 0 2 = rw (add-zero (place s m)) at (number-made m l k 0 2 (omega arith)) in
        omega (arith, place_kept m k)

    pub place-reached : (m : ℕ) → m ≤ length s → Reached made 0 (place s m)
    unfolding place kept_before
    place-reached zero h = here
    place-reached (suc m) h = by (kept_is s m) refl (place-reached m (omega arith))
      where
        by : (b : Bool) → kept_is s m ≡ b → Reached made 0 (place s m) → Reached made 0 (place s (suc m))
        by true k r = subst (Reached made 0) (next-made m h k) (reached-next made r)
        by false k r = subst (Reached made 0) (place-lost m k) r

    -- a record of the composed filing comes from a record of s that is kept
    pub record Source (k : ℕ) : Type 0 where
      pub index : ℕ
      pub within : index < length s
      pub kept : kept_is s index ≡ true
      pub is : place s index ≡ k

    -- By the records of s from record m on: one that is not kept takes no place; one that is stands at its place, and the next record behind it
    source-from : (left m : ℕ) → m + left ≡ length s → {from k : ℕ} → Reached made from k → from ≡ place s m → k < length made → Source k
    source-from zero m e r f l = let last : m ≡ length s = omega arith in absurd (omega (arith, reached-le made r, ap (place s) last, place-last))
    source-from (suc left) m e r f l = by (kept_is s m) refl r f l (λ from k r f l. source-from left (suc m) (omega arith) r f l)
      where
        by : (b : Bool) → kept_is s m ≡ b → {from k : ℕ} → Reached made from k → from ≡ place s m → k < length made
            → ((at j : ℕ) → Reached made at j → at ≡ place s (suc m) → j < length made → Source j) → Source k
        by true q here f l rest = record { index = m; within = omega arith; kept = q; is = sym f }
        by true q {from} {k} (step r) f l rest = rest (next_record made from) k r (ap (next_record made) f ∙ next-made m (omega arith) q) l
        by false q {from} {k} r f l rest = rest from k r (f ∙ place-lost m q) l

    pub source : {k : ℕ} → Reached made 0 k → k < length made → Source k
    unfolding place kept_before
    source r l = source-from (length s) 0 (omega arith) r refl l
