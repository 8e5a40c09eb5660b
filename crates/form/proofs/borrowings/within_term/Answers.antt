-- `within_term` meets its contract: each arm has the months of the definition's term, and past the last there is none. Assumes nothing.
use Prim.Native.Nat.{ℕ, ◌≤◌}
use native.Mathlib.Omega.{arith}
use mathlib.Core.Path.{sym, ap, ◌∙◌}
use lib.ListN.{get_or-eq_default}
use Rattle.form.specs.Borrowings.{within_term}
use Rattle.form.proofs.borrowings.within_term.Goals as goal

pub returns-in-0 : goal.returns-in-0
unfolding within_term
returns-in-0 c = c.within.ensures ∙ ap (λ (term : ℕ). within_term term c.args.months) (sym c.in-0.is)

pub returns-in-1 : goal.returns-in-1
unfolding within_term
returns-in-1 c = c.within-in-1.ensures ∙ ap (λ (term : ℕ). within_term term c.args.months) (sym c.in-1.is)

pub returns-in-2 : goal.returns-in-2
unfolding within_term
returns-in-2 c = c.within-in-2.ensures ∙ ap (λ (term : ℕ). within_term term c.args.months) (sym c.in-2.is)

pub returns-in_default : goal.returns-in_default
unfolding within_term
returns-in_default c = let past : 3 ≤ c.args.term = omega arith in
    c.within-in_default.ensures ∙ rw (get_or-eq_default {A = ℕ} _ 0 past, get_or-eq_default {A = ℕ} _ 0 past)
