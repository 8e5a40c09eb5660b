-- `power`, which calls itself on half of the months, meets its contract. Assumes nothing.
use mathlib.Core.Path.{◌≡◌}
use native.Mathlib.Omega.{arith}
use Rattle.forward_rates.proofs.PowerLaws.{moderate-once, moderate-less}
use Rattle.forward_rates.proofs.FigureLaws.{power-first}
use Rattle.forward_rates.proofs.figures.+power.Goals as goal

pub first-requires : goal.first-requires
first-requires t c = moderate-once c.requires.0 c.requires.1

pub returns-then-n-lt2 : goal.returns-then-n-lt2
returns-then-n-lt2 t c =
    let one : c.args.n ≡ 1 = omega arith in
    rw (c.first.ensures, one) (power-first c.args.growth (moderate-less 1 c.requires.0 c.requires.1))

pub power-requires : goal.power-requires
power-requires t c = (omega arith, (omega arith, moderate-less _ (omega arith) c.requires.1))
