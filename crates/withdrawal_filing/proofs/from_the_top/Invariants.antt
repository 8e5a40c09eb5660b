-- `withdrawal_filing::from_the_top` meets its contract. The loop's invariant: the first i entries hold the last i numbers, turned round. Assumes
-- nothing.
use Prim.Native.Nat.{ℕ, ◌-◌, ◌≤◌}
use lib.ListN.{get_or}
use Rattle.form.specs.Limits.{edge_limit}
use Rattle.withdrawal.proofs.HeldLaws.{Stored}
use Rattle.withdrawal_filing.proofs.from_the_top.Given as goal

abbrev pub invariant-loop-i : goal.invariant-loop-i
invariant-loop-i l = Stored (λ (j : ℕ). get_or l.numbers (l.count - 1 - j) 0) l.i l.turned × ((j : ℕ) → get_or l.turned j 0 ≤ edge_limit)
