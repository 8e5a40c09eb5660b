-- `term_at` meets its contract. Assumes nothing.
use native.Mathlib.Omega.{arith}
use Rattle.forward_rates.proofs.TermLaws.{first-term, second-term, last-term}
use Rattle.forward_rates.proofs.terms.term_at.Goals as goal

pub returns-in-0 : goal.returns-in-0
returns-in-0 c = first-term _ c.in-0.is

pub returns-in-1 : goal.returns-in-1
returns-in-1 c = second-term _ c.in-1.is

pub returns-in_default : goal.returns-in_default
returns-in_default c = last-term c.args.index (λ e. omega arith) (λ e. omega arith)
