-- `number_over` meets its contract. The loop's invariant: the first i numbers are within the limit.
-- Assumes nothing.
use Prim.Native.Nat.{◌+◌, ◌*◌}
use native.Mathlib.Omega.{arith}
use mathlib.Core.Path.{◌≡◌, refl, sym, ◌∙◌}
use borrow.Author.Tests.{leb-true}
use lib.ListN.{length}
use Rattle.lists.specs.Tables.{any_below}
use Rattle.record_limits.specs.Bodies.{number_over}
use Rattle.record_limits.proofs.SheetLaws as sheet
use Rattle.record_limits.proofs.number_over.Goals as goal

pub loop-i-init : goal.loop-i-init
unfolding number_over any_below
loop-i-init c = refl

pub number_of-requires : goal.number_of-requires
number_of-requires c =
    let a = c.args in
    λ e. omega (arith, leb-true (a.at + 4 + 2 * a.n) (length a.s.now) (sym c.holds_numbers-within.ensures ∙ e))

pub returns-then-limit-number_of : goal.returns-then-limit-number_of
returns-then-limit-number_of c =
    sym (sheet.number-over _ _ _ _ c.loop-i.i (omega arith) (omega arith))

pub loop-i-preserved : goal.loop-i-preserved
loop-i-preserved c =
    sheet.number-within _ _ _ c.loop-i.i c.loop-i.invariant (omega arith)

pub returns : goal.returns
returns c =
    let e : c.loop-i.i ≡ c.args.n = omega arith in
    rw (← e) (sym c.loop-i.invariant)
