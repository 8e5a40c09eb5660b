-- Records put one after the other, none of them an amendment and at most one of a cell: which counts for the cell. Assumes nothing.
use Prim.Native.Nat.{ℕ, zero, suc, ◌+◌, ◌≤◌, ◌<◌}
use native.Mathlib.Nat.{eq-or-lt_of_le}
use native.Mathlib.Omega.{arith}
use mathlib.Core.Path.{◌≡◌, refl, sym, ap, subst, ◌∙◌}
use mathlib.Core.Logic.{⊎_elim}
use mathlib.Core.List.{List, []}
use borrow.Author.Tests.{le-leb, lt-leb, le-ltb, lt-ltb}
use lib.ListN.{length, get_or}
use Rattle.record_offsets.specs.Counting.{rank, counting, counts_from, counting_before}
use Rattle.theorem_certificates.specs.Filed.{run}
use Rattle.theorem_certificates.proofs.RecordRunLaws.{offset, offset-first, offset-last, offset-ge, offset-lt, record-next}

module _ (bs : List (List ℕ)) (sized : (i : ℕ) → i < length bs → length (get_or bs i []) < 65536) (cell : ℕ) where
  -- a record that is not of the cell leaves the one that counts
  kept : (before at : ℕ) → rank (run bs) cell at ≡ 0 → counting (run bs) cell before at ≡ before
  unfolding counting
  kept before at e = simp (le-ltb (rank (run bs) cell before) (rank (run bs) cell at) (omega (arith, e)))

  -- each record left ranks 0 and leaves what counts as it is; the next stands at the next offset, and at the end nothing more is read
  counts-stays : (steps j before : ℕ) → j ≤ length bs → length bs ≤ j + steps
      → ((i : ℕ) → j ≤ i → i < length bs → rank (run bs) cell (offset bs i) ≡ 0)
      → counts_from (run bs) cell (offset bs (length bs)) before (offset bs j) steps ≡ before
  unfolding counts_from
  counts-stays zero j before l u f = refl
  counts-stays (suc steps) j before l u f =
      ⊎_elim (λ e. simp (le-leb (offset bs (length bs)) (offset bs j) (omega (arith, ap (offset bs) e))))
      (λ m. rw
      (lt-leb (offset bs (length bs)) (offset bs j) (offset-lt bs j (length bs) m (omega arith)), kept before (offset bs j) (f j (omega arith) m), record-next bs j m (sized j m))
      (counts-stays steps (suc j) before m (omega arith) (λ i a b. f i (omega arith) b))) (eq-or-lt_of_le l)

  -- none is of the cell
  pub counting-none : ((i : ℕ) → i < length bs → rank (run bs) cell (offset bs i) ≡ 0) → counting_before (run bs) cell (length (run bs)) ≡ length (run bs)
  unfolding counting_before
  counting-none f =
      rw (← offset-last bs)
      (ap (λ (m : ℕ). counts_from (run bs) cell (offset bs (length bs)) (offset bs (length bs)) m (offset bs (length bs))) (sym (offset-first bs))
      ∙ counts-stays (offset bs (length bs)) 0 (offset bs (length bs)) (omega arith) (omega (arith, offset-ge bs (length bs) (omega arith))) (λ i a b. f i b))

  module _ (i : ℕ) (before-end : i < length bs) (is : rank (run bs) cell (offset bs i) ≡ 1)
      (others : (m : ℕ) → m < length bs → (m ≡ i → ⊥) → rank (run bs) cell (offset bs m) ≡ 0) where
    taken : (before : ℕ) → rank (run bs) cell before ≡ 0 → counting (run bs) cell before (offset bs i) ≡ offset bs i
    unfolding counting
    taken before e = simp (lt-ltb (rank (run bs) cell before) (rank (run bs) cell (offset bs i)) (omega (arith, e, is)))

    -- the records before i rank 0 and change nothing; record i ranks 1, above the 0 of what counted before, and counts from there on, since the
    -- ones behind it rank 0
    counts-hit : (steps j before : ℕ) → rank (run bs) cell before ≡ 0 → j ≤ i → length bs ≤ j + steps
        → counts_from (run bs) cell (offset bs (length bs)) before (offset bs j) steps ≡ offset bs i
    unfolding counts_from
    counts-hit zero j before z l u = absurd (omega arith)
    counts-hit (suc steps) j before z l u =
        ⊎_elim
        (λ e. subst (λ (m : ℕ). counts_from (run bs) cell (offset bs (length bs)) before (offset bs m) (suc steps) ≡ offset bs i) (sym e)
        (rw
        (lt-leb (offset bs (length bs)) (offset bs i) (offset-lt bs i (length bs) before-end (omega arith)), taken before z, record-next bs i before-end (sized i before-end))
        (counts-stays steps (suc i) (offset bs i) before-end (omega arith) (λ m a b. others m b (λ q. omega arith)))))
        (λ m. rw
        (lt-leb (offset bs (length bs)) (offset bs j) (offset-lt bs j (length bs) (omega arith) (omega arith)), kept before (offset bs j) (others j (omega arith) (λ q. omega arith)), record-next bs j (omega arith) (sized j (omega arith)))
        (counts-hit steps (suc j) before z m (omega arith))) (eq-or-lt_of_le l)

    -- record i alone is of the cell
    pub counting-hit : rank (run bs) cell (length (run bs)) ≡ 0 → counting_before (run bs) cell (length (run bs)) ≡ offset bs i
    unfolding counting_before
    counting-hit z =
        rw (← offset-last bs)
        (ap (λ (m : ℕ). counts_from (run bs) cell (offset bs (length bs)) (offset bs (length bs)) m (offset bs (length bs))) (sym (offset-first bs))
        ∙ counts-hit (offset bs (length bs)) 0 (offset bs (length bs)) (rw (offset-last bs) z) (omega arith) (omega (arith, offset-ge bs (length bs) (omega arith))))
