-- `sheet_kind` meets its contract: each arm gives the definition's entry, and past the last kind nothing stands. Assumes nothing.
use Prim.Native.Nat.{◌≤◌}
use native.Mathlib.Omega.{arith}
use mathlib.Core.Path.{sym, ap, ◌∙◌}
use lib.ListN.{get_or-eq_default}
use Rattle.record_kinds.specs.Kinds.{sheet_of, sheet_kinds, sheet_kind}
use Rattle.record_kinds.proofs.sheet_kind.Goals as goal

pub returns-in-0 : goal.returns-in-0
unfolding sheet_of sheet_kinds sheet_kind
returns-in-0 c = c.sheet_of.ensures ∙ ap sheet_kind (sym c.in-0.is)

pub returns-in-1 : goal.returns-in-1
unfolding sheet_of sheet_kinds sheet_kind
returns-in-1 c = c.sheet_of-in-1.ensures ∙ ap sheet_kind (sym c.in-1.is)

pub returns-in-2 : goal.returns-in-2
unfolding sheet_of sheet_kinds sheet_kind
returns-in-2 c = c.sheet_of-in-2.ensures ∙ ap sheet_kind (sym c.in-2.is)

pub returns-in-3 : goal.returns-in-3
unfolding sheet_of sheet_kinds sheet_kind
returns-in-3 c = c.sheet_of-in-3.ensures ∙ ap sheet_kind (sym c.in-3.is)

pub returns-in-4 : goal.returns-in-4
unfolding sheet_of sheet_kinds sheet_kind
returns-in-4 c = c.sheet_of-in-4.ensures ∙ ap sheet_kind (sym c.in-4.is)

pub returns-in-5 : goal.returns-in-5
unfolding sheet_of sheet_kinds sheet_kind
returns-in-5 c = c.sheet_of-in-5.ensures ∙ ap sheet_kind (sym c.in-5.is)

pub returns-in-6 : goal.returns-in-6
unfolding sheet_of sheet_kinds sheet_kind
returns-in-6 c = c.sheet_of-in-6.ensures ∙ ap sheet_kind (sym c.in-6.is)

pub returns-in-7 : goal.returns-in-7
unfolding sheet_of sheet_kinds sheet_kind
returns-in-7 c = c.sheet_of-in-7.ensures ∙ ap sheet_kind (sym c.in-7.is)

pub returns-in-8 : goal.returns-in-8
unfolding sheet_of sheet_kinds sheet_kind
returns-in-8 c = c.sheet_of-in-8.ensures ∙ ap sheet_kind (sym c.in-8.is)

pub returns-in_default : goal.returns-in_default
unfolding sheet_of sheet_kinds sheet_kind
returns-in_default c =
    let past : 9 ≤ c.args.kind = omega arith in
    c.sheet_of-in_default.ensures ∙ sym (get_or-eq_default sheet_kinds (sheet_of 0 0 0) past)
