-- `within_row` meets its contract: each arm has the months of the definition's row, and past the fourth there are none. Assumes nothing.
use Prim.Native.Nat.{ℕ, ◌≤◌}
use native.Mathlib.Omega.{arith}
use mathlib.Core.Path.{sym, ap, ◌∙◌}
use lib.ListN.{get_or-eq_default}
use Rattle.lists.specs.Ranges.{within}
use Rattle.form.specs.Cells.{within_row}
use Rattle.form.proofs.positions.within_row.Goals as goal

pub returns-in-0 : goal.returns-in-0
unfolding within_row within
returns-in-0 c = c.within.ensures ∙ ap (λ (row : ℕ). within_row row c.args.months) (sym c.in-0.is)

pub returns-in-1 : goal.returns-in-1
unfolding within_row within
returns-in-1 c = c.within-in-1.ensures ∙ ap (λ (row : ℕ). within_row row c.args.months) (sym c.in-1.is)

pub returns-in-2 : goal.returns-in-2
unfolding within_row within
returns-in-2 c = c.within-in-2.ensures ∙ ap (λ (row : ℕ). within_row row c.args.months) (sym c.in-2.is)

pub returns-in-3 : goal.returns-in-3
unfolding within_row within
returns-in-3 c = c.within-in-3.ensures ∙ ap (λ (row : ℕ). within_row row c.args.months) (sym c.in-3.is)

pub returns-in-4 : goal.returns-in-4
unfolding within_row within
returns-in-4 c = c.within-in-4.ensures ∙ ap (λ (row : ℕ). within_row row c.args.months) (sym c.in-4.is)

pub returns-in_default : goal.returns-in_default
unfolding within_row within
returns-in_default c = let past : 5 ≤ c.args.row = omega arith in
    c.within-in_default.ensures ∙ rw (get_or-eq_default {A = ℕ} _ 0 past, get_or-eq_default {A = ℕ} _ 0 past)
