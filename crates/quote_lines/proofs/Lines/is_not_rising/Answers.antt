-- `is_not_rising` meets its contract. Assumes nothing.
use Prim.Native.Nat.{◌-◌}
use native.Mathlib.Omega.{arith}
use mathlib.Core.Path.{sym}
use Rattle.quote_lines.proofs.LineLaws.{month-within, month-is}
use Rattle.quote_lines.proofs.FaultLaws.{rising-first, rising-later}
use Rattle.quote_lines.proofs.Lines.is_not_rising.Goals as goal

pub offset_bounds-self-i : goal.offset_bounds-self-i
offset_bounds-self-i c = omega (arith, month-within _ _ _ c.requires)

pub bounds-self-i : goal.bounds-self-i
bounds-self-i c = month-within _ _ _ c.requires

pub offset_bounds-self-i-then-i-ne0 : goal.offset_bounds-self-i-then-i-ne0
offset_bounds-self-i-then-i-ne0 c = omega (arith, month-within _ _ _ c.requires)

pub bounds-self-i-then-i-ne0 : goal.bounds-self-i-then-i-ne0
bounds-self-i-then-i-ne0 c = omega (arith, month-within _ _ _ c.requires)

pub returns-then-i-ne0 : goal.returns-then-i-ne0
returns-then-i-ne0 c =
    let m = c.args.self.now.months.now in
    let p = c.args.self.now.prices.now in
    rw (sym (month-is m p c.args.i c.requires), sym (month-is m p (c.args.i - 1) (omega (arith, c.requires))))
    (rising-later _ c.args.i c.if-i-ne0.true)

pub returns-else-i-ne0 : goal.returns-else-i-ne0
returns-else-i-ne0 c = rw c.if-i-ne0.false (rising-first _)
