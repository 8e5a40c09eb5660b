-- `servicing_cost` meets its contract. Assumes nothing.
use Rattle.withdrawal.specs.MonthSurvival.{account_of}
use Rattle.price_deposits.specs.DepositTerms.{servicing_cost}
use Rattle.price_deposits.proofs.values.servicing_cost.Goals as goal

pub returns-then-brokered : goal.returns-then-brokered
unfolding servicing_cost account_of
returns-then-brokered c = simp c.if-brokered.true

pub returns-else-brokered : goal.returns-else-brokered
unfolding servicing_cost account_of
returns-else-brokered c = simp c.if-brokered.false
