-- `fill_numbers` meets its contract. The loop's invariant: the first i numbers are filled.
-- Assumes nothing.
use Prim.Native.Nat.{◌+◌, ◌*◌, ◌<◌}
use native.Mathlib.Nat.{add_comm}
use borrow.Author.Tests.{leb-true}
use native.Mathlib.Omega.{arith}
use mathlib.Core.Path.{◌≡◌, refl, sym, ap, ◌∙◌}
use lib.ListN.{length}
use Rattle.lists.proofs.FillLaws.{fill_more}
use Rattle.record_fields.specs.Records.{sheet_number}
use Rattle.filing_contents.proofs.ArrayLaws.{filled-from}
use Rattle.filing_contents.proofs.sheet_numbers.fill_numbers.Goals as goal

pub loop-i-init : goal.loop-i-init
loop-i-init c = record { long = refl; holds = λ j h. absurd (omega arith) }

pub number_of-requires : goal.number_of-requires
number_of-requires c =
    let a = c.args in
    λ e. omega (arith, leb-true (a.at + 4 + 2 * length a.numbers.now) (length a.s.now) (sym c.holds_numbers-within.ensures ∙ e), c.loop-i.invariant.long)

-- the first i numbers are filled; number i + 1 of the sheet, counted from 1, goes to index i, and so the first i + 1 are
pub loop-i-preserved : goal.loop-i-preserved
loop-i-preserved c =
    let a = c.args in
    let state = c.loop-i in
    let h : state.i < length a.numbers.now = omega (arith, state.invariant.long) in
    fill_more _ 0 (length a.numbers.now) state.i state.numbers c.number_of.result h
    (c.number_of.ensures ∙ ap (sheet_number a.s.now a.at) (add_comm state.i 1)) state.invariant

pub returns : goal.returns
returns c =
    let a = c.args in
    let e : c.loop-i.i ≡ length a.numbers.now = omega (arith, c.loop-i.invariant.long) in
    filled-from 1 (length a.numbers.now) _ c.loop-i.numbers (rw e at c.loop-i.invariant)
