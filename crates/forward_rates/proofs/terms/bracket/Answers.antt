-- `bracket` meets its contract: the powers of its figures are computed. Assumes nothing.
use native.Mathlib.Omega.{arith}
use Rattle.forward_rates.proofs.TermLaws.{first-term, second-term, last-term, bracket-is}
use Rattle.forward_rates.proofs.terms.bracket.Goals as goal

pub returns-in-0 : goal.returns-in-0
returns-in-0 c = rw (← first-term _ c.in-0.is) (bracket-is _ _ _ tt tt tt tt tt tt tt)

pub returns-in-1 : goal.returns-in-1
returns-in-1 c = rw (← second-term _ c.in-1.is) (bracket-is _ _ _ tt tt tt tt tt tt tt)

pub returns-in_default : goal.returns-in_default
returns-in_default c = rw (← last-term c.args.index (λ e. omega arith) (λ e. omega arith)) (bracket-is _ _ _ tt tt tt tt tt tt tt)
