-- `filed_term::filed_balances` meets its contract. The loop's invariant: the balances after t months. Assumes nothing.
use Rattle.intangible_months.specs.Inner.Lent.{lent_terms}
use Rattle.intangible_cells.proofs.FiledLaws.{FiledTo}
use Rattle.intangible_cells.proofs.filed_term.filed_balances.Given as goal

abbrev pub invariant-loop-t : goal.invariant-loop-t
invariant-loop-t l =
    FiledTo (lent_terms l.fn.cell l.fn.scenario l.fn.market.rates.now l.fn.market.tiers.now) l.t l.lower l.upper
