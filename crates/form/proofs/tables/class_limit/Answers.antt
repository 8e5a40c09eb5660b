-- `class_limit` meets its contract: each arm has the definition's number, and past the last class there is none. Assumes nothing.
use Prim.Native.Nat.{◌≤◌}
use native.Mathlib.Omega.{arith}
use mathlib.Core.Path.{sym, ap}
use lib.ListN.{get_or-eq_default}
use Rattle.form.specs.Limits.{class_limits, class_limit}
use Rattle.form.proofs.tables.class_limit.Goals as goal

pub returns-in-0 : goal.returns-in-0
unfolding class_limit
returns-in-0 c = ap class_limit (sym c.in-0.is)

pub returns-in-1 : goal.returns-in-1
unfolding class_limit
returns-in-1 c = ap class_limit (sym c.in-1.is)

pub returns-in-2 : goal.returns-in-2
unfolding class_limit
returns-in-2 c = ap class_limit (sym c.in-2.is)

pub returns-in-3 : goal.returns-in-3
unfolding class_limit
returns-in-3 c = ap class_limit (sym c.in-3.is)

pub returns-in-4 : goal.returns-in-4
unfolding class_limit
returns-in-4 c = ap class_limit (sym c.in-4.is)

pub returns-in-5 : goal.returns-in-5
unfolding class_limit
returns-in-5 c = ap class_limit (sym c.in-5.is)

pub returns-in-6 : goal.returns-in-6
unfolding class_limit
returns-in-6 c = ap class_limit (sym c.in-6.is)

pub returns-in-7 : goal.returns-in-7
unfolding class_limit
returns-in-7 c = ap class_limit (sym c.in-7.is)

pub returns-in-8 : goal.returns-in-8
unfolding class_limit
returns-in-8 c = ap class_limit (sym c.in-8.is)

pub returns-in-9 : goal.returns-in-9
unfolding class_limit
returns-in-9 c = ap class_limit (sym c.in-9.is)

pub returns-in-10 : goal.returns-in-10
unfolding class_limit
returns-in-10 c = ap class_limit (sym c.in-10.is)

pub returns-in-11 : goal.returns-in-11
unfolding class_limit
returns-in-11 c = ap class_limit (sym c.in-11.is)

pub returns-in_default : goal.returns-in_default
unfolding class_limit
returns-in_default c =
    let past : 12 ≤ c.args.class = omega arith in
    sym (get_or-eq_default class_limits 0 past)
