-- `penalty_within` meets its contract. Assumes nothing.
use Prim.Native.Nat.{ℕ}
use mathlib.Core.Path.{◌≡◌, sym, ◌∙◌}
use mathlib.Core.Logic.{⊎_elim}
use native.Mathlib.Nat.{eq-zero-or-pos, ne_of_gt}
use lib.Dec.{eqb, leb}
use borrow.Author.Tests.{eq-eqb, ne_eqb, lt-leb}
use Rattle.form.specs.PlaceOrder.{with_penalty}
use Rattle.book_limits.specs.PlaceLimits.{penalty_within}
use Rattle.book_limits.proofs.penalty_within.Goals as goal

-- at most 0 is 0
none : (n : ℕ) → eqb n 0 ≡ leb n 0
none n = ⊎_elim (λ e. rw e) (λ pos. ne_eqb n 0 (ne_of_gt pos) ∙ sym (lt-leb n 0 pos)) (eq-zero-or-pos n)

pub returns-then-place-eq0 : goal.returns-then-place-eq0
unfolding penalty_within with_penalty
returns-then-place-eq0 c = rw (eq-eqb _ _ c.if-place-eq0.true)

pub returns-else-place-eq0 : goal.returns-else-place-eq0
unfolding penalty_within with_penalty
returns-else-place-eq0 c = rw (ne_eqb _ _ c.if-place-eq0.false) (none c.args.penalty)
