-- `side_of` meets its contract: each way out is what the comparison tells. Assumes nothing.
use Prim.Native.Nat.{◌≤◌}
use native.Mathlib.Nat.{le_of_lt, mul-le-mul}
use native.Mathlib.Omega.{arith}
use Rattle.forward_rates.specs.Inner.Figures.{figure_limit, Figure}
use Rattle.forward_rates.specs.Inner.Searches.{Told, term_loss}
use Rattle.forward_rates.proofs.FigureLaws.{figure-less, figure-limit, power-loss-le}
use Rattle.forward_rates.proofs.SideLaws.{told_below, told-above, one-above, one_below}
use Rattle.forward_rates.proofs.sides.side_of.Goals as goal

pub overflow_mul-grown : goal.overflow_mul-grown
overflow_mul-grown c =
    let figure : Figure (term_loss c.args.term) c.args.growth c.args.term c.power.result = figure-less (term_loss c.args.term) (power-loss-le c.args.growth c.args.term) c.power.ensures in
    let limit : c.power.result ≤ figure_limit = figure-limit c.requires.4.moderate figure in
    omega (arith, mul-le-mul limit c.requires.0)

pub returns-then-grown-end : goal.returns-then-grown-end
unfolding Told
returns-then-grown-end c k e known =
    let figure : Figure (term_loss c.args.term) c.args.growth c.args.term c.power.result = figure-less (term_loss c.args.term) (power-loss-le c.args.growth c.args.term) c.power.ensures in
    told_below k e c.requires.2 known figure (rw c.margin_of-margin.ensures at c.if-grown-end.true)

pub returns-then-end-margin : goal.returns-then-end-margin
unfolding Told
returns-then-end-margin c k e known =
    let figure : Figure (term_loss c.args.term) c.args.growth c.args.term c.power.result = figure-less (term_loss c.args.term) (power-loss-le c.args.growth c.args.term) c.power.ensures in
    told-above k e c.requires.2 known figure (rw c.margin_of-margin.ensures at c.if-end-margin.true)

pub returns : goal.returns
unfolding Told
returns c k e known =
    let figure : Figure (term_loss c.args.term) c.args.growth c.args.term c.power.result = figure-less (term_loss c.args.term) (power-loss-le c.args.growth c.args.term) c.power.ensures in
    let fit = c.requires.4 in
    let margin = c.margin_of-margin.ensures in (
      one_below k e c.requires.2 known figure fit.above fit.limit (le_of_lt (rw margin at c.if-end-margin.false)),
      one-above k e c.requires.2 known figure (le_of_lt fit.above) fit.limit (le_of_lt (rw margin at c.if-grown-end.false)),
    )
