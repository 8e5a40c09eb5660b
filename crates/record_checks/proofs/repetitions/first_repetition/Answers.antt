-- `first_repetition` meets its contract. The loop's invariant: the first repetition of the blocks passed. A block whose numbers rise has none.
-- Assumes nothing.
use Prim.Native.Nat.{◌≤◌}
use native.Mathlib.Numerals.{add-one}
use native.Mathlib.Omega.{arith}
use mathlib.Core.Path.{◌≡◌, refl, sym, ap, ◌∙◌}
use mathlib.Core.Bool.{Bool, false}
use mathlib.Core.List.{List}
use lib.ListN.{get_or}
use Rattle.record_offsets.specs.Inner.Notes.{block_count}
use Rattle.record_offsets.proofs.NoteLaws.{noted-falling}
use Rattle.record_checks.specs.Inner.Repetitions.{repetitions_below}
use Rattle.record_checks.proofs.RepetitionLaws.{rising-single, repetitions-le}
use Rattle.record_checks.proofs.repetitions.first_repetition.Goals as goal

pub loop-i-init : goal.loop-i-init
unfolding repetitions_below
loop-i-init c = refl

-- the first repetition so far is at most `end`, which is within the bytes; what is noted of block i is whether its numbers fall before `end`,
-- and where they do not there is no repetition up to there
pub block_repetition-first-requires : goal.block_repetition-first-requires
block_repetition-first-requires c =
    let loop = c.loop-i in
    let s = c.args.s.now in
    let end = c.args.end in
    let i = loop.i in
    let first-le : loop.first ≤ end = rw loop.invariant (repetitions-le s i end) in
    let falling = ap (λ (l : List Bool). get_or l i false) c.requires.1 in
    let is = noted-falling s end i (omega arith) in
    record { end_in_bounds = (omega (arith, first-le, c.requires.0), omega arith); end_value = λ rises. rising-single s i end loop.first (sym is ∙ sym falling ∙ rises) first-le }

pub loop-i-preserved : goal.loop-i-preserved
unfolding repetitions_below
loop-i-preserved c =
    let loop = c.loop-i in
    c.block_repetition-first.ensures ∙ rw (loop.invariant, add-one)

pub returns : goal.returns
returns c =
    let e : c.loop-i.i ≡ block_count = omega arith in
    rw e at c.loop-i.invariant
