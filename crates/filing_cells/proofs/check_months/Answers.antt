-- `check_months` meets its contract. The loop's invariant: the first i positions pass, and the rest of them gives the verdict.
-- Assumes nothing.
use mathlib.Core.Path.{◌≡◌, sym, ap, ◌∙◌}
use mathlib.Core.Bool.{true}
use Rattle.form.specs.declared.Position.{Position}
use Rattle.form.specs.Cells.{position_at}
use Rattle.answers.specs.Verdict.{accepted, refused}
use Rattle.answers.proofs.VerdictLaws.{tried-start, tried_here, tried-next, tried-all, condition-holds, condition-refuses, condition-none}
use Rattle.filing_cells.specs.Conditions.{months_outside}
use Rattle.filing_cells.specs.CellVerdicts.{position_verdict}
use Rattle.filing_cells.proofs.ConditionLaws.{months_at, months-in-turn}
use Rattle.filing_cells.proofs.check_months.Goals as goal

pub loop-i-init : goal.loop-i-init
loop-i-init c = tried-start _ 9

-- 7 holds at the i-th of the nine and at none before: that is the verdict
pub returns-then-months_outside : goal.returns-then-months_outside
unfolding refused position_verdict
returns-then-months_outside c =
    let tested : c.months_outside.result
    ≡ months_outside c.args.cells.now (position_at c.loop-i.i) = c.months_outside.ensures ∙ ap (months_outside c.args.cells.now) c.position-p.ensures in
    let cells = c.args.cells.now in
    let loop = c.loop-i in
    let outside : months_outside cells (position_at loop.i) ≡ true = sym tested ∙ c.if-months_outside.true in
    ap (λ (p : Position). refused 7 p.months) c.position-p.ensures
    ∙ condition-holds (months_outside cells (position_at loop.i)) 7 (position_at loop.i).months outside
    ∙ tried_here (months_at cells) 9 loop.i loop.invariant c.loop-i-test.true
    (condition-refuses (months_outside cells (position_at loop.i)) 6 (position_at loop.i).months outside)
    ∙ sym (months-in-turn cells)

pub loop-i-preserved : goal.loop-i-preserved
unfolding position_verdict
loop-i-preserved c =
    let tested : c.months_outside.result
    ≡ months_outside c.args.cells.now (position_at c.loop-i.i) = c.months_outside.ensures ∙ ap (months_outside c.args.cells.now) c.position-p.ensures in
    let loop = c.loop-i in
    tried-next (months_at c.args.cells.now) 9 loop.i loop.invariant c.loop-i-test.true
    (condition-none _ 7 (position_at loop.i).months (sym tested ∙ c.if-months_outside.false))

pub returns : goal.returns
unfolding accepted
returns c =
    tried-all _ 9 c.loop-i.i c.loop-i.invariant c.loop-i-test.false ∙ sym (months-in-turn c.args.cells.now)
