-- `position` meets its contract: each arm gives the definition's entry, and past the ninth nothing stands. Assumes nothing.
use Prim.Native.Nat.{◌≤◌}
use native.Mathlib.Omega.{arith}
use mathlib.Core.Path.{sym, ap, ◌∙◌}
use lib.ListN.{get_or-eq_default}
use Rattle.form.specs.Cells.{position, positions, position_at}
use Rattle.form.proofs.positions.position.Goals as goal

pub returns-in-0 : goal.returns-in-0
unfolding position positions position_at
returns-in-0 c = c.position_of.ensures ∙ ap position_at (sym c.in-0.is)

pub returns-in-1 : goal.returns-in-1
unfolding position positions position_at
returns-in-1 c = c.position_of-in-1.ensures ∙ ap position_at (sym c.in-1.is)

pub returns-in-2 : goal.returns-in-2
unfolding position positions position_at
returns-in-2 c = c.position_of-in-2.ensures ∙ ap position_at (sym c.in-2.is)

pub returns-in-3 : goal.returns-in-3
unfolding position positions position_at
returns-in-3 c = c.position_of-in-3.ensures ∙ ap position_at (sym c.in-3.is)

pub returns-in-4 : goal.returns-in-4
unfolding position positions position_at
returns-in-4 c = c.position_of-in-4.ensures ∙ ap position_at (sym c.in-4.is)

pub returns-in-5 : goal.returns-in-5
unfolding position positions position_at
returns-in-5 c = c.position_of-in-5.ensures ∙ ap position_at (sym c.in-5.is)

pub returns-in-6 : goal.returns-in-6
unfolding position positions position_at
returns-in-6 c = c.position_of-in-6.ensures ∙ ap position_at (sym c.in-6.is)

pub returns-in-7 : goal.returns-in-7
unfolding position positions position_at
returns-in-7 c = c.position_of-in-7.ensures ∙ ap position_at (sym c.in-7.is)

pub returns-in-8 : goal.returns-in-8
unfolding position positions position_at
returns-in-8 c = c.position_of-in-8.ensures ∙ ap position_at (sym c.in-8.is)

pub returns-in_default : goal.returns-in_default
unfolding position positions position_at
returns-in_default c = let i = c.args.i in
    let past : 9 ≤ i = omega arith in
    c.position_of-in_default.ensures ∙ sym (get_or-eq_default positions (position 0 0 0 0 0) past)
