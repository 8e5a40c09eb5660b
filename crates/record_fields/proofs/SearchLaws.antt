-- Searching record by record: a scan that stands at a record's offset has the rest of each search before it, whatever number of steps the
-- search is given, and knows what a search that ends at that offset has found.
-- Assumes nothing.
use Prim.Native.Nat.{ℕ, zero, suc, ◌+◌, ◌≤◌, ◌<◌}
use native.Mathlib.Nat.{le_refl}
use native.Mathlib.Omega.{arith}
use mathlib.Core.Path.{◌≡◌, refl, ◌∙◌}
use mathlib.Core.Bool.{Bool, true, false, cond, ◌||◌}
use mathlib.Core.List.{List}
use borrow.Author.Tests.{le-leb, lt-leb, lt-ltb, le-ltb, ltb-true}
use lib.Dec.{ltb}
use Rattle.record_fields.specs.Records.{next_record, search_records, first_record}

-- `at` is reached from `from` record by record
pub data Reached (s : List ℕ) : ℕ → ℕ → Type 0 where
  here : {at : ℕ} → Reached s at at
  step : {from at : ℕ} → Reached s (next_record s from) at → Reached s from at

module _ (s : List ℕ) where
  -- a record takes two bytes at least
  pub next-lt : (at : ℕ) → at + 2 ≤ next_record s at
  unfolding next_record
  next-lt at = omega arith

  pub reached-le : {from at : ℕ} → Reached s from at → from ≤ at
  reached-le here = omega arith
  reached-le {from} (step r) = omega (arith, reached-le r, next-lt from)

  -- one record further
  pub reached-next : {from at : ℕ} → Reached s from at → Reached s from (next_record s at)
  reached-next here = step here
  reached-next (step r) = step (reached-next r)

  module _ (test : ℕ → Bool) where
    pub search-end : (end at steps : ℕ) → end ≤ at → search_records s test end at steps ≡ end
    unfolding search_records
    search-end end at zero h = refl
    search-end end at (suc steps) h = simp (le-leb end at h)

    pub search-here : (end at steps : ℕ) → at < end → test at ≡ true → search_records s test end at (suc steps) ≡ at
    unfolding search_records
    search-here end at steps h e = simp (lt-leb end at h, e)

    pub search-later : (end at steps : ℕ) → at < end → test at ≡ false
        → search_records s test end at (suc steps) ≡ search_records s test end (next_record s at) steps
    unfolding search_records
    search-later end at steps h e = simp (lt-leb end at h, e)

    -- at the record itself: the search that ends after it tests it alone
    search-one : (at steps : ℕ) (b : Bool) → test at ≡ b → search_records s test (next_record s at) at (suc steps) ≡ cond b at (next_record s at)
    search-one at steps true e = search-here (next_record s at) at steps (omega (arith, next-lt at)) e
    search-one at steps false e =
        search-later (next_record s at) at steps (omega (arith, next-lt at)) e
        ∙ search-end (next_record s at) (next_record s at) steps (le_refl (next_record s at))

    -- at a record before `at`: both searches find it, or both go on
    search-both : (from at n m : ℕ) (b : Bool) → test from ≡ b → from < at
        → search_records s test (next_record s at) (next_record s from) m
        ≡ cond (ltb (search_records s test at (next_record s from) n) at) (search_records s test at (next_record s from) n)
        (cond (test at) at (next_record s at))
        → search_records s test (next_record s at) from (suc m)
        ≡ cond (ltb (search_records s test at from (suc n)) at) (search_records s test at from (suc n)) (cond (test at) at (next_record s at))
    search-both from at n m true e before rest =
        rw (search-here (next_record s at) from m (omega (arith, next-lt at)) e, search-here at from n before e, lt-ltb from at before)
    search-both from at n m false e before rest =
        rw (search-later (next_record s at) from m (omega (arith, next-lt at)) e, search-later at from n before e) rest

    -- A search that ends at a record's offset, against the one that ends after that record. By the way from the start to that record: at the
    -- record itself the first search has ended and the second tests it; at a record before it both do the same
    search-next : {from at : ℕ} → Reached s from at → (n m : ℕ) → at ≤ from + n → next_record s at ≤ from + m
        → search_records s test (next_record s at) from m
        ≡ cond (ltb (search_records s test at from n) at) (search_records s test at from n) (cond (test at) at (next_record s at))
    search-next {from} here n zero p q = absurd (omega (arith, next-lt from))
    search-next {from} here n (suc m) p q =
        rw (search-end from from n (le_refl from), le-ltb from from (le_refl from)) (search-one from m (test from) refl)
    search-next {from} (step r) zero m p q = absurd (omega (arith, next-lt from, reached-le r))
    search-next {from} {at} (step r) (suc n) zero p q = absurd (omega (arith, next-lt from, next-lt at, reached-le r))
    search-next {from} {at} (step r) (suc n) (suc m) p q =
        search-both from at n m (test from) refl (omega (arith, next-lt from, reached-le r))
        (search-next r n m (omega (arith, next-lt from)) (omega (arith, next-lt from)))

    -- what the search over the records before `at` finds, with the record at `at` added
    pub first_next : {at : ℕ} → Reached s 0 at
        → first_record s test (next_record s at)
        ≡ cond (ltb (first_record s test at) at) (first_record s test at) (cond (test at) at (next_record s at))
    unfolding first_record
    first_next {at} r = search-next r at (next_record s at) (omega arith) (omega arith)

    -- one record more: it passes, or one before it does
    pub found-next : {at : ℕ} → Reached s 0 at → ltb (first_record s test (next_record s at)) (next_record s at) ≡ (ltb (first_record s test at) at || test at)
    found-next {at} r =
        rw (first_next r) (by (first_record s test at) (next_record s at) (ltb (first_record s test at) at) (test at) refl (omega (arith, next-lt at)))
      where
        by : (f next : ℕ) (a b : Bool) → ltb f at ≡ a → at < next → ltb (cond a f (cond b at next)) next ≡ (a || b)
        by f next true b e h = lt-ltb f next (omega (arith, ltb-true f at e))
        by f next false true e h = lt-ltb at next h
        by f next false false e h = le-ltb next next (le_refl next)

    -- The scan stands at `at`: what is still to be searched from here gives the answer of the whole search
    pub record Ahead (end at : ℕ) : Type 0 where
      pub steps : ℕ
      pub enough : end ≤ at + steps
      pub gives : first_record s test end ≡ search_records s test end at steps

    -- start: the whole search is ahead
    pub ahead-start : (end : ℕ) → Ahead end 0
    unfolding first_record
    ahead-start end = record { steps = end; enough = omega arith; gives = refl }

    -- here: the record at hand passes the test, and is the first that does
    pub ahead-here : (end at : ℕ) → Ahead end at → at < end → test at ≡ true → first_record s test end ≡ at
    ahead-here end at a h e = a.gives ∙ found a.steps a.enough
      where
        found : (n : ℕ) → end ≤ at + n → search_records s test end at n ≡ at
        found zero p = absurd (omega arith)
        found (suc n) p = search-here end at n h e

    -- next: the record at hand fails the test, and the search goes on after it
    pub ahead-next : (end at : ℕ) → Ahead end at → at < end → test at ≡ false → Ahead end (next_record s at)
    ahead-next end at a h e = later a.steps a.enough a.gives
      where
        later : (n : ℕ) → end ≤ at + n → first_record s test end ≡ search_records s test end at n → Ahead end (next_record s at)
        later zero p g = absurd (omega arith)
        later (suc n) p g = record { steps = n; enough = omega (arith, next-lt at); gives = g ∙ search-later end at n h e }

    -- done: no record passed the test
    pub ahead-done : (end at : ℕ) → Ahead end at → end ≤ at → first_record s test end ≡ end
    ahead-done end at a h = a.gives ∙ search-end end at a.steps h
