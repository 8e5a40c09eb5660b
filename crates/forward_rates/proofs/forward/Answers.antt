-- `forward` meets its contract: the search keeps the true rate's growth between its ends. Assumes nothing.
use mathlib.Core.Path.{sym, ◌∙◌}
use native.Mathlib.Omega.{arith}
use Rattle.forward_rates.proofs.TermLaws.{term-some, term-within}
use Rattle.forward_rates.proofs.SearchLaws.{search-start, search-fit, search-below, search-above, search-close}
use Rattle.forward_rates.proofs.forward.Goals as goal

pub loop-lower-init : goal.loop-lower-init
loop-lower-init c = search-start _ _ (rw (← c.term_at-term.ensures) at c.bracket-lower.ensures)

pub side_of-told-requires : goal.side_of-told-requires
side_of-told-requires c =
    let s = c.loop-lower.invariant in
    let index = c.args.index in
    let term = c.term_at-term.ensures in (
      c.requires.0,
      c.requires.1,
      rw term (term-some index),
      rw term (term-within index),
      search-fit s _ (omega arith) (omega arith),
    )

pub loop-lower-preserved-in-Below : goal.loop-lower-preserved-in-Below
loop-lower-preserved-in-Below c =
    search-below c.loop-lower.invariant _ (omega arith) (omega arith)
    (λ k e known. rw c.in-Below.is at (c.side_of-told.ensures k e known))

pub loop-lower-preserved : goal.loop-lower-preserved
loop-lower-preserved c =
    search-above c.loop-lower.invariant _ (omega arith) (omega arith)
    (λ k e known. rw c.in-Above.is at (c.side_of-told.ensures k e known))

pub returns-in-Close : goal.returns-in-Close
returns-in-Close c =
    let s = c.loop-lower.invariant in record {
      encloses = λ k e known. search-close s _ (omega arith) (omega arith)
          (λ k e known. rw c.in-Close.is at (c.side_of-told.ensures k e known))
          k (e ∙ sym c.term_at-term.ensures) known;
      limited = omega (arith, s.most-ge, s.whole.upper-limit);
    }
