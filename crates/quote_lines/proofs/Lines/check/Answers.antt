-- `check` meets its contract: none of the lines before i is faulty. Assumes nothing.
use native.Mathlib.Omega.{arith}
use mathlib.Core.Path.{sym, ◌∙◌}
use Rattle.quote_lines.proofs.LineLaws.{lines-length}
use Rattle.quote_lines.proofs.FaultLaws.{sound-start, line-faulty, line-sound, lines-sound}
use Rattle.quote_lines.proofs.Lines.check.Goals as goal

pub loop-i-init : goal.loop-i-init
loop-i-init c = sound-start _

pub returns-then-is_faulty : goal.returns-then-is_faulty
returns-then-is_faulty c =
    line-faulty _ c.loop-i.i c.loop-i.invariant (omega (arith, c.loop-i-test.true, c.count-i-end.ensures, lines-length c.args.self.now.months.now c.args.self.now.prices.now))
    (sym c.is_faulty.ensures ∙ c.if-is_faulty.true)

pub loop-i-preserved : goal.loop-i-preserved
loop-i-preserved c =
    line-sound _ c.loop-i.i c.loop-i.invariant (omega (arith, c.loop-i-test.true, c.count-i-end.ensures, lines-length c.args.self.now.months.now c.args.self.now.prices.now))
    (sym c.is_faulty.ensures ∙ c.if-is_faulty.false)

pub returns : goal.returns
returns c =
    lines-sound _ c.loop-i.i c.loop-i.invariant (omega (arith, c.loop-i-test.false, c.count-i-end.ensures, lines-length c.args.self.now.months.now c.args.self.now.prices.now))
