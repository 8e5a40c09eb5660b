-- `withdrawal::WithdrawalTiers::survival_at` meets its contract. Assumes nothing.
use borrow.Author.Tests.{lt-ltb, le-ltb}
use Rattle.withdrawal.specs.Inner.TierArrays.{survival_at}
use Rattle.withdrawal.proofs.WithdrawalTiers.survival_at.Goals as goal

pub returns-then-level-self : goal.returns-then-level-self
unfolding survival_at
returns-then-level-self c = rw (lt-ltb _ _ c.if-level-self.true)

pub returns-else-level-self : goal.returns-else-level-self
unfolding survival_at
returns-else-level-self c = rw (le-ltb _ _ c.if-level-self.false)
