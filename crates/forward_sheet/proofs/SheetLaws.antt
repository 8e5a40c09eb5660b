-- The pairs of all terms of a scenario, and of all scenarios: one more, and what a change behind them leaves. Assumes nothing.
use Prim.Native.Nat.{ℕ, zero, suc, ◌+◌, ◌*◌, ◌≤◌, ◌<◌}
use native.Mathlib.Nat.{not-suc-le-zero, le_refl}
use native.Mathlib.Numerals.{add-one}
use native.Mathlib.Omega.{arith}
use mathlib.Core.Path.{◌≡◌, refl}
use mathlib.Core.Logic.{⊎_elim}
use mathlib.Core.List.{List}
use lib.IntN.{ℤ}
use Rattle.lists.proofs.OrderLaws.{lt-or-le}
use Rattle.forward_rates.specs.Forwards.{term_at}
use Rattle.forward_sheet.specs.Sheet.{term_count, pairs_over, pairs_before, scenario_pairs, HoldsTerm, HoldsScenario}
use Rattle.forward_sheet.specs.Inner.Runs.{Changed}
use Rattle.forward_sheet.proofs.PairLaws.{term-kept}

-- the pairs before the next term, and before the last
pub before-suc : (i : ℕ) → pairs_before (i + 1) ≡ pairs_before i + pairs_over i
unfolding pairs_before
before-suc i = rw add-one

pub before-all : pairs_before term_count ≡ scenario_pairs
unfolding pairs_before pairs_over term_at
before-all = refl

-- the pairs of a term end before those of a later one begin
pub before-le : (i n : ℕ) → i < n → pairs_before i + pairs_over i ≤ pairs_before n
unfolding pairs_before
before-le i zero h = absurd (not-suc-le-zero h)
before-le i (suc n) h = ⊎_elim (λ l. omega (arith, before-le i n l)) (λ l. let e : i ≡ n = omega arith in rw e (le_refl _)) (lt-or-le i n)

-- the first n terms of a scenario
abbrev pub Terms : (ℕ → ℕ) → ℕ → ℕ → List ℤ → Type 0
Terms growth at n list = (i : ℕ) → i < n → HoldsTerm growth i (at + 2 * pairs_before i) list

module _ (growth : ℕ → ℕ) (at : ℕ) where
  pub terms-none : (list : List ℤ) → Terms growth at 0 list
  terms-none list i h = absurd (not-suc-le-zero h)

  terms-kept : (n : ℕ) {from to : ℕ} {before after : List ℤ} → Changed from to before after → at + 2 * pairs_before n ≤ from → Terms growth at n before → Terms growth at n after
  terms-kept n k h terms i l = term-kept growth i (at + 2 * pairs_before i) k (omega (arith, before-le i n l)) (terms i l)

  -- one term more
  pub terms-more : (n : ℕ) {from to : ℕ} {before : List ℤ} (after : List ℤ) → Changed from to before after → at + 2 * pairs_before n ≤ from → Terms growth at n before
      → HoldsTerm growth n (at + 2 * pairs_before n) after → Terms growth at (n + 1) after
  terms-more n after k h terms term i l =
      ⊎_elim (λ g. terms-kept n k h terms i g) (λ g. let e : i ≡ n = omega arith in rw e term) (lt-or-le i n)

  -- the pairs of a scenario in a list that is changed behind them
  scenario-kept : {from to : ℕ} {before after : List ℤ} → Changed from to before after → at + 2 * scenario_pairs ≤ from
      → HoldsScenario growth at before → HoldsScenario growth at after
  unfolding HoldsScenario
  scenario-kept k h = terms-kept term_count k (omega (arith, before-all))

-- the first n scenarios
abbrev pub Scenarios : (ℕ → ℕ → ℕ) → ℕ → List ℤ → Type 0
Scenarios growth n list = (scenario : ℕ) → scenario < n → HoldsScenario (growth scenario) (2 * (scenario_pairs * scenario)) list

module _ (growth : ℕ → ℕ → ℕ) where
  -- one scenario more
  pub scenarios-more : (n : ℕ) {to : ℕ} {before : List ℤ} (after : List ℤ) → Changed (2 * (scenario_pairs * n)) to before after → Scenarios growth n before
      → HoldsScenario (growth n) (2 * (scenario_pairs * n)) after → Scenarios growth (n + 1) after
  scenarios-more n after k scenarios last i l =
      ⊎_elim (λ g. scenario-kept (growth i) (2 * (scenario_pairs * i)) k (omega arith) (scenarios i g)) (λ g. let e : i ≡ n = omega arith in rw e last) (lt-or-le i n)
