-- `write_term` meets its contract: the pairs of the months passed are there. Assumes nothing.
use Prim.Native.Nat.{ℕ, ◌+◌, ◌*◌}
use Rattle.forward_sheet.specs.Inner.Runs.{Changed, Accumulated}
use Rattle.forward_sheet.proofs.PairLaws.{Pairs}
use Rattle.forward_sheet.proofs.sheet.pairs.write_term.Given as goal

abbrev pub invariant-loop-month : goal.invariant-loop-month
invariant-loop-month l =
    Changed l.at (l.at + 2 * l.month) l.initial.list l.list
    × ((growth : ℕ → ℕ) → Accumulated growth l.figures → Pairs growth l.index l.at l.month l.list)
