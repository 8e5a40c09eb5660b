-- The search over records: where its answer lies, what holds of the record that it finds, and what two searches over the same records have to do
-- with each other.
-- Assumes nothing.
use Prim.Native.Nat.{ℕ, zero, suc, ◌≤◌, ◌<◌}
use native.Mathlib.Nat.{le_refl}
use native.Mathlib.Omega.{arith}
use mathlib.Core.Path.{◌≡◌, refl}
use mathlib.Core.Bool.{Bool, true, false, cond}
use mathlib.Core.List.{List}
use borrow.Author.Tests.{leb-false}
use lib.Dec.{leb}
use Rattle.record_fields.specs.Records.{next_record, search_records, first_record}

-- One record of two searches, for `test` and for `found`: `over` is the test that they have come to their end, `here` and `hit` the tests of the record
-- at hand, `rest` and `other` what they give of the records after it
one-fails : (test : ℕ → Bool) (end at rest other : ℕ) (over here hit : Bool)
    → leb end at ≡ over
    → test at ≡ here
    → (end ≤ rest → other < end → test other ≡ false)
    → end ≤ cond over end (cond here at rest)
    → cond over end (cond hit at other) < end
    → test (cond over end (cond hit at other)) ≡ false
one-fails test end at rest other true here hit o e ih h l = absurd (omega arith)
one-fails test end at rest other false true hit o e ih h l = absurd (omega (arith, leb-false end at o))
one-fails test end at rest other false false true o e ih h l = e
one-fails test end at rest other false false false o e ih h l = ih h l

module _ (s : List ℕ) where
  -- what holds of the end, and of each record before it that passes the test, holds of the answer
  search-holds : (P : ℕ → Type 0) (test : ℕ → Bool) (end : ℕ) → P end → ((at : ℕ) → at < end → test at ≡ true → P at)
      → (at steps : ℕ) → P (search_records s test end at steps)
  unfolding search_records
  search-holds P test end none one at zero = none
  search-holds P test end none one at (suc steps) =
      by (leb end at) (test at) refl refl (search-holds P test end none one (next_record s at) steps)
    where
      by : (over here : Bool) {rest : ℕ} → leb end at ≡ over → test at ≡ here → P rest → P (cond over end (cond here at rest))
      by true here o e h = none
      by false true o e h = one at (leb-false end at o) e
      by false false o e h = h

  search-fails : (test found : ℕ → Bool) (end at steps : ℕ)
      → end ≤ search_records s test end at steps
      → search_records s found end at steps < end
      → test (search_records s found end at steps) ≡ false
  unfolding search_records
  search-fails test found end at zero h l = absurd (omega arith)
  search-fails test found end at (suc steps) h l =
      one-fails test end at (search_records s test end (next_record s at) steps) (search_records s found end (next_record s at) steps)
      (leb end at) (test at) (found at) refl refl (search-fails test found end (next_record s at) steps) h l

  -- the answer is at most the end
  pub first-le : (test : ℕ → Bool) (end : ℕ) → first_record s test end ≤ end
  unfolding first_record
  first-le test end = search-holds (λ (r : ℕ). r ≤ end) test end (le_refl end) (λ at l e. omega arith) 0 end

  -- a record that is found passes the test
  pub first_passes : (test : ℕ → Bool) (end : ℕ) → first_record s test end < end → test (first_record s test end) ≡ true
  unfolding first_record
  first_passes test end = search-holds (λ (r : ℕ). r < end → test r ≡ true) test end (λ l. absurd (omega arith)) (λ at l e h. e) 0 end

  -- where no record passes a test, a record that another test finds fails it
  pub first-fails : (test found : ℕ → Bool) (end : ℕ)
      → end ≤ first_record s test end
      → first_record s found end < end
      → test (first_record s found end) ≡ false
  unfolding first_record
  first-fails test found end = search-fails test found end 0 end
