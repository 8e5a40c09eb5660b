-- A search over records by the records that are reached: no record before its answer passes the test, the answer is reached, and it is the only such.
-- Assumes nothing.
use Prim.Native.Nat.{ℕ, zero, suc, ◌+◌, ◌≤◌, ◌<◌}
use native.Mathlib.Nat.{le_antisymm}
use native.Mathlib.Omega.{arith}
use mathlib.Core.Path.{◌≡◌, refl, sym, ◌∙◌}
use mathlib.Core.Bool.{Bool, true, false, or-true, ◌||◌}
use mathlib.Core.List.{List}
use borrow.Author.Tests.{leb-true, leb-false, ltb-true, ltb-false}
use lib.Dec.{leb, ltb}
use Rattle.record_fields.specs.Records.{next_record, search_records, first_record}
use Rattle.record_fields.proofs.RecordLaws.{first-le, first_passes}
use Rattle.record_fields.proofs.SearchLaws.{Reached, here, step, next-lt, reached-le, search-end, search-here, search-later}

module _ (s : List ℕ) where
  module _ (test : ℕ → Bool) where
    -- no record that is reached passes: the search comes to its end
    search-none : (end from steps : ℕ) → ((at : ℕ) → Reached s from at → at < end → test at ≡ false) → search_records s test end from steps ≡ end
    unfolding search_records
    search-none end from zero none = refl
    search-none end from (suc steps) none = by (leb end from) refl (search-none end (next_record s from) steps (λ at r u. none at (step r) u))
      where
        by : (over : Bool) → leb end from ≡ over → search_records s test end (next_record s from) steps ≡ end
            → search_records s test end from (suc steps) ≡ end
        by true e rest = search-end s test end from (suc steps) (leb-true end from e)
        by false e rest = let l = leb-false end from e in search-later s test end from steps l (none from here l) ∙ rest

    -- a record that passes where none before it does: the search finds it
    search-found : {from at : ℕ} → Reached s from at → (end steps : ℕ) → at < end → end ≤ from + steps → test at ≡ true
        → ((j : ℕ) → Reached s from j → j < at → test j ≡ false) → search_records s test end from steps ≡ at
    search-found here end zero l q e none = absurd (omega arith)
    search-found {from} here end (suc steps) l q e none = search-here s test end from steps l e
    search-found {from} (step r) end zero l q e none = absurd (omega (arith, next-lt s from, reached-le s r))
    search-found {from} (step r) end (suc steps) l q e none =
        let before = reached-le s r in
        search-later s test end from steps (omega (arith, next-lt s from)) (none from here (omega (arith, next-lt s from)))
        ∙ search-found r end steps l (omega (arith, next-lt s from)) e (λ j p u. none j (step p) u)

    -- no record before the answer passes: by the way from the start to it. Were it the start and passed, the search would have ended there;
    -- behind the start, which failed, the search goes on from the next record
    search-earlier : {from j : ℕ} → Reached s from j → (end steps : ℕ) → end ≤ from + steps → j < search_records s test end from steps → test j ≡ false
    unfolding search_records
    search-earlier {from} here end zero q l = absurd (omega arith)
    search-earlier {from} here end (suc steps) q l = by (leb end from) (test from) refl refl
      where
        by : (over passes : Bool) → leb end from ≡ over → test from ≡ passes → test from ≡ false
        by true passes o e = absurd (omega (arith, leb-true end from o, search-end s test end from (suc steps) (leb-true end from o)))
        by false true o e = absurd (omega (arith, search-here s test end from steps (leb-false end from o) e))
        by false false o e = e
    search-earlier {from} {j} (step r) end zero q l = absurd (omega (arith, next-lt s from, reached-le s r))
    search-earlier {from} {j} (step r) end (suc steps) q l =
        by (leb end from) (test from) refl refl (search-earlier r end steps (omega (arith, next-lt s from)))
      where
        by : (over passes : Bool) → leb end from ≡ over → test from ≡ passes → (j < search_records s test end (next_record s from) steps → test j ≡ false)
            → test j ≡ false
        by true passes o e rest =
            absurd (omega (arith, leb-true end from o, search-end s test end from (suc steps) (leb-true end from o), next-lt s from, reached-le s r))
        by false true o e rest = absurd (omega (arith, search-here s test end from steps (leb-false end from o) e, next-lt s from, reached-le s r))
        by false false o e rest = rest (omega (arith, search-later s test end from steps (leb-false end from o) e))

    -- a record that is found is reached: it is the one at the start, or found from the next record on, one step further
    search-reached : (end from steps : ℕ) → search_records s test end from steps < end → Reached s from (search_records s test end from steps)
    unfolding search_records
    search-reached end from zero l = absurd (omega arith)
    search-reached end from (suc steps) l = by (leb end from) (test from) refl refl (search-reached end (next_record s from) steps)
      where
        by : (over passes : Bool) → leb end from ≡ over → test from ≡ passes
            → (search_records s test end (next_record s from) steps < end → Reached s (next_record s from) (search_records s test end (next_record s from) steps))
            → Reached s from (search_records s test end from (suc steps))
        by true passes o e rest = absurd (omega (arith, search-end s test end from (suc steps) (leb-true end from o)))
        by false true o e rest = rw (search-here s test end from steps (leb-false end from o) e) here
        by false false o e rest =
            let later = search-later s test end from steps (leb-false end from o) e in
            rw later (step (rest (rw later at l)))

    pub first-none : (end : ℕ) → ((at : ℕ) → Reached s 0 at → at < end → test at ≡ false) → first_record s test end ≡ end
    unfolding first_record
    first-none end none = search-none end 0 end none

    pub first_found : (end at : ℕ) → Reached s 0 at → at < end → test at ≡ true → ((j : ℕ) → Reached s 0 j → j < at → test j ≡ false)
        → first_record s test end ≡ at
    unfolding first_record
    first_found end at r l e none = search-found r end end l (omega arith) e none

    pub first-earlier : (end j : ℕ) → Reached s 0 j → j < first_record s test end → test j ≡ false
    unfolding first_record
    first-earlier end j r l = search-earlier r end end (omega arith) l

    pub first-reached : (end : ℕ) → first_record s test end < end → Reached s 0 (first_record s test end)
    unfolding first_record
    first-reached end l = search-reached end 0 end l

  -- tests that agree find the same record: what the one finds passes the other, and none before it does; where the one finds none, none passes
  -- the other
  pub first-same : (test other : ℕ → Bool) (end : ℕ) → ((at : ℕ) → test at ≡ other at) → first_record s test end ≡ first_record s other end
  first-same test other end same = by (ltb (first_record s other end) end) refl
    where
      f : ℕ
      f = first_record s other end

      by : (found : Bool) → ltb f end ≡ found → first_record s test end ≡ f
      by true e =
          let l = ltb-true f end e in
          first_found test end f (first-reached other end l) l (same f ∙ first_passes s other end l) (λ j r u. same j ∙ first-earlier other end j r u)
      by false e =
          let is : f ≡ end = le_antisymm (first-le s other end) (ltb-false f end e) in
          rw is (first-none test end (λ at r l. same at ∙ first-earlier other end at r (omega (arith, ltb-false f end e))))

  -- one of two tests: the second is searched before what the first finds. Where that is found it passes, and neither test passes before it;
  -- else what the first finds does; else neither passes before the end
  pub first-or : (test other : ℕ → Bool) (end : ℕ)
      → first_record s (λ (at : ℕ). test at || other at) end ≡ first_record s other (first_record s test end)
  first-or test other end = by (ltb d f) (ltb f end) refl refl
    where
      f : ℕ
      f = first_record s test end

      d : ℕ
      d = first_record s other f

      either : ℕ → Bool
      either at = test at || other at

      neither : (at : ℕ) → test at ≡ false → other at ≡ false → either at ≡ false
      neither at p q = rw (p, q)

      first : (at : ℕ) → test at ≡ true → either at ≡ true
      first at p = rw p

      second : (at : ℕ) → other at ≡ true → either at ≡ true
      second at q = rw q (or-true (test at))

      by : (a b : Bool) → ltb d f ≡ a → ltb f end ≡ b → first_record s either end ≡ d
      by true b a' b' =
          let l = ltb-true d f a' in
          let r = first-reached other f l in
          let within : d < end = omega (arith, first-le s test end) in
          first_found either end d r within (second d (first_passes s other f l))
          (λ j p u. neither j (first-earlier test end j p (omega arith)) (first-earlier other f j p u))
      by false true a' b' =
          let l = ltb-true f end b' in
          let is : d ≡ f = le_antisymm (first-le s other f) (ltb-false d f a') in
          rw is
          (first_found either end f (first-reached test end l) l (first f (first_passes s test end l))
          (λ j p u. neither j (first-earlier test end j p u) (first-earlier other f j p (omega arith))))
      by false false a' b' =
          let is : d ≡ f = le_antisymm (first-le s other f) (ltb-false d f a') in
          let whole : f ≡ end = le_antisymm (first-le s test end) (ltb-false f end b') in
          first-none either end (λ j p u. neither j (first-earlier test end j p (omega arith)) (first-earlier other f j p (omega arith)))
          ∙ sym (is ∙ whole)
