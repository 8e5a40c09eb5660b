-- `check_terms` meets its contract. The loop's invariant: the first terms pass, and the rest of them gives the verdict.
-- Assumes nothing.
use mathlib.Core.Path.{◌≡◌, sym, ap, ◌∙◌}
use mathlib.Core.Bool.{true}
use Rattle.form.specs.Borrowings.{term_cell}
use Rattle.answers.specs.Verdict.{accepted, refused}
use Rattle.answers.proofs.VerdictLaws.{tried-start, tried_here, tried-next, tried-all, condition-holds, condition-refuses, condition-none}
use Rattle.filing_cells.specs.BorrowingConditions.{term_outside}
use Rattle.filing_cells.specs.BorrowingVerdicts.{term_verdict, terms_verdict}
use Rattle.filing_cells.proofs.borrowings.check_terms.Goals as goal

pub loop-term-init : goal.loop-term-init
loop-term-init c = tried-start _ 3

-- the term is outside, so that its own verdict is 7 at its cell; the terms before it pass, so that the first refusal of all three
-- is this one
pub returns-then-term_outside : goal.returns-then-term_outside
unfolding refused terms_verdict term_verdict
returns-then-term_outside c =
    let loop = c.loop-term in
    let cells = c.args.cells.now in
    let term = loop.term in
    let outside : term_outside cells term ≡ true = sym c.term_outside.ensures ∙ c.if-term_outside.true in
    ap (refused 7) c.term_cell.ensures
    ∙ condition-holds (term_outside cells term) 7 (term_cell term) outside
    ∙ tried_here (term_verdict cells) 3 term loop.invariant c.loop-term-test.true
    (condition-refuses (term_outside cells term) 6 (term_cell term) outside)

pub loop-term-preserved : goal.loop-term-preserved
unfolding term_verdict
loop-term-preserved c =
    let loop = c.loop-term in
    tried-next (term_verdict c.args.cells.now) 3 loop.term loop.invariant c.loop-term-test.true
    (condition-none _ 7 (term_cell loop.term) (sym c.term_outside.ensures ∙ c.if-term_outside.false))

pub returns : goal.returns
unfolding accepted terms_verdict
returns c = tried-all _ 3 c.loop-term.term c.loop-term.invariant c.loop-term-test.false
