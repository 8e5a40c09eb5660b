-- A list that is overwritten run by run from its front: the runs, and then the rest as it was. Assumes nothing.
use Prim.Native.Nat.{ℕ, ◌+◌, ◌≤◌}
use mathlib.Core.Path.{◌≡◌, refl, ap, sym, ◌∙◌}
use mathlib.Core.List.{List, [], ◌++◌, append_assoc}
use native.Mathlib.Omega.{arith}
use lib.ListN.{length, take, drop, length-append, length-drop, take-append-drop}
use borrow.Rule.Slice.PartMut.{put_mid}
use lib.Seq.{length-take-le, length_front, take_all, take_at, take-append-le, take-append_seam, drop_at, drop-drop, drop-append-le, drop-append-add}
use Rattle.lists.specs.Runs.{written}
use Rattle.lists.specs.Tables.{table, joined}
use Rattle.lists.proofs.TableLaws.{joined-suc}

module _ {ℓ} {A : Type ℓ} where
  -- the list after the first n entries of the list before are overwritten by `front`
  pub record Overwritten (front : List A) (n : ℕ) (before after : List A) : Type ℓ where
    pub long : length front ≡ n
    pub as_long : length after ≡ length before
    pub is : after ≡ front ++ drop n before

  -- from what the list after is
  pub overwritten-is : (front : List A) (n : ℕ) (before after : List A) → length front ≡ n → n ≤ length before → after ≡ front ++ drop n before
      → Overwritten front n before after
  overwritten-is front n before after long h e =
      record { long = long; as_long = ap length e ∙ length_front before front n (long ∙ sym (length-take-le n before h)); is = e }

  -- before the first run
  pub overwritten-none : (l : List A) → Overwritten [] 0 l l
  overwritten-none l = record { long = refl; as_long = refl; is = refl }

  -- one run more
  pub overwritten-more : (front run : List A) (n m : ℕ) (before after : List A) → Overwritten front n before after → n + length run ≡ m
      → m ≤ length before → Overwritten (front ++ run) m before (written after n run)
  unfolding written
  overwritten-more front run n m before after w e h =
      overwritten-is (front ++ run) m before _ (length-append front run ∙ rw w.long e) h
      (rw (w.is, take_at front (drop n before) n w.long, rest))
    where
      rest : drop (n + length run) (front ++ drop n before) ≡ drop m before
      rest =
          rw (← w.long) (drop-append-add front (drop (length front) before) (length run) ∙ drop-drop (length run) (length front) before)
          ∙ ap (λ (i : ℕ). drop i before) e

  -- one row more of rows of m elements, behind what stands before them
  pub overwritten-row : (first : List A) (f : ℕ → List A) (m : ℕ) → ((i : ℕ) → length (f i) ≡ m)
      → (i n next : ℕ) (before after row : List A) → Overwritten (first ++ joined (table i f)) n before after
      → row ≡ f i → next ≡ n + m → next ≤ length before
      → Overwritten (first ++ joined (table (i + 1) f)) next before (written after n row)
  overwritten-row first f m sized i n next before after row w r e h =
      rw (joined-suc i f, ← append_assoc, r) (overwritten-more (first ++ joined (table i f)) (f i) n next before after w (rw (sized i) (sym e)) h)

  -- a part of a list that comes back with a run of as many elements
  pub written_back : (l : List A) (at n : ℕ) (run : List A) → length run ≡ n → take at l ++ (run ++ drop n (drop at l)) ≡ written l at run
  unfolding written
  written_back l at n run e = rw (append_assoc, drop-drop, e)

  -- the part of a list where a run is written is the run
  pub part-written : (l : List A) (at : ℕ) (run : List A) → at ≤ length l → take (length run) (drop at (written l at run)) ≡ run
  unfolding written
  part-written l at run h = rw (append_assoc, drop_at (take at l) (run ++ drop (at + length run) l) at (length-take-le at l h)) (take-append_seam run _)

  part-front : (xs ys : List A) (a n : ℕ) → a + n ≤ length xs → take n (drop a (xs ++ ys)) ≡ take n (drop a xs)
  part-front xs ys a n h = rw (drop-append-le a xs ys (omega arith)) (take-append-le n (drop a xs) ys (omega (arith, length-drop a xs)))

  -- a part before it is as it was
  pub part-before : (l : List A) (at : ℕ) (run : List A) (a n : ℕ) → at ≤ length l → a + n ≤ at → take n (drop a (written l at run)) ≡ take n (drop a l)
  unfolding written
  part-before l at run a n h e =
      let fits : a + n ≤ length (take at l) = omega (arith, length-take-le at l h) in
      rw append_assoc (part-front (take at l) (run ++ drop (at + length run) l) a n fits)
      ∙ sym (part-front (take at l) (drop at l) a n fits)
      ∙ ap (λ (x : List A). take n (drop a x)) (take-append-drop at l)

  -- all entries
  pub overwritten-all : (front : List A) (n : ℕ) (before after : List A) → Overwritten front n before after → length before ≤ n → after ≡ front
  overwritten-all front n before after w h =
      sym (take_all n after (rw w.as_long h)) ∙ ap (take n) w.is ∙ take_at front (drop n before) n w.long

-- a part of a list that is replaced by a run as long as the part
pub run-replaced : {A : Type 0} (at n : ℕ) (l new run : List A) → n ≡ length run → new ≡ run → put_mid at n l new ≡ written l at run
unfolding written
run-replaced at n l new run k e = rw (e, k, drop-drop, append_assoc)
