-- `withdrawal_tiers::with_survivals` meets its contract. The loop's invariant: the entries below `i` hold the survivals of their withdrawals, the
-- others 0. Assumes nothing.
use Prim.Native.Nat.{ℕ}
use lib.ListN.{get_or}
use Rattle.withdrawal.specs.Survival.{survival}
use Rattle.withdrawal.proofs.HeldLaws.{Stored}
use Rattle.withdrawal_tiers.proofs.with_survivals.Given as goal

abbrev pub invariant-loop-i : goal.invariant-loop-i
invariant-loop-i l = Stored (λ (j : ℕ). survival (get_or l.withdrawals j 0)) l.i l.survivals
