-- `flow_of` meets its contract. Assumes nothing.
use Prim.Native.Nat.{suc}
use native.Mathlib.Omega.{arith}
use borrow.Author.Tests.{eq-eqb, ne_eqb}
use Rattle.borrowing_prices.specs.Run.{flow_with}
use Rattle.borrowing_prices.proofs.flow_of.Goals as goal
use Rattle.borrowing_prices.proofs.flow_of.Goals.{then-t-months, else-t-months}

pub returns : goal.returns
unfolding flow_with
returns c =
    let a = c.args in
    elim c.if-t-months.branch [
      | then-t-months w ↦ (rw (w.result-is, eq-eqb (suc a.t) a.months (omega (arith, w.if-t-months.true))), omega arith)
      | else-t-months w ↦ (rw (w.result-is, ne_eqb (suc a.t) a.months (λ e. w.if-t-months.false (omega arith))), omega arith)
    ]
