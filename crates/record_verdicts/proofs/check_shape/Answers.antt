-- `check_shape` meets its contract: row by row in the order 1, 2, 3, 4, 12, the first whose condition holds. Assumes nothing.
use mathlib.Core.Path.{refl}
use Rattle.answers.specs.Verdict.{first_of}
use Rattle.answers.proofs.VerdictLaws.{row-holds, row-fails}
use Rattle.record_verdicts.specs.RecordVerdicts.{shape_verdict}
use Rattle.record_verdicts.proofs.check_shape.Goals as goal

pub returns-then-incomplete : goal.returns-then-incomplete
unfolding shape_verdict first_of
returns-then-incomplete c = row-holds 0 c.args.at _ c.if-incomplete.ensures

pub returns-then-misshapen : goal.returns-then-misshapen
unfolding shape_verdict first_of
returns-then-misshapen c = row-fails 1 c.args.at c.if-incomplete.ensures (row-holds 1 c.args.at _ c.if-misshapen.ensures)

pub returns-then-unlisted : goal.returns-then-unlisted
unfolding shape_verdict first_of
returns-then-unlisted c =
    row-fails 1 c.args.at c.if-incomplete.ensures
    (row-fails 2 c.args.at c.if-misshapen.ensures
    (row-holds 2 c.args.at _ c.if-unlisted.ensures))

pub returns-then-repeated : goal.returns-then-repeated
unfolding shape_verdict first_of
returns-then-repeated c =
    row-fails 1 c.args.at c.if-incomplete.ensures
    (row-fails 2 c.args.at c.if-misshapen.ensures
    (row-fails 3 c.args.at c.if-unlisted.ensures
    (row-holds 3 c.args.at _ c.if-repeated.ensures)))

pub returns-then-path_beside_flat : goal.returns-then-path_beside_flat
unfolding shape_verdict first_of
returns-then-path_beside_flat c =
    row-fails 1 c.args.at c.if-incomplete.ensures
    (row-fails 2 c.args.at c.if-misshapen.ensures
    (row-fails 3 c.args.at c.if-unlisted.ensures
    (row-fails 4 c.args.at c.if-repeated.ensures
    (row-holds 11 c.args.at _ c.if-path_beside_flat.ensures))))

pub returns : goal.returns
unfolding shape_verdict first_of
returns c =
    row-fails 1 c.args.at c.if-incomplete.ensures
    (row-fails 2 c.args.at c.if-misshapen.ensures
    (row-fails 3 c.args.at c.if-unlisted.ensures
    (row-fails 4 c.args.at c.if-repeated.ensures
    (row-fails 12 c.args.at c.if-path_beside_flat.ensures refl))))
