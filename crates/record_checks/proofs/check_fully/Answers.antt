-- `check_fully` meets its contract: the tests before 16, then 16, then those after it. Assumes nothing.
use Rattle.std.proofs.lemmas.Result.{err_from_is_err_and}
use Rattle.answers.proofs.AnswerLaws.{refusal-first}
use Rattle.answers.proofs.VerdictLaws.{accepted-first, row-holds, row-fails}
use Rattle.record_verdicts.specs.RecordVerdicts.{record_verdict}
use Rattle.record_checks.proofs.check_fully.Goals as goal

pub returns-in_err-check_shape : goal.returns-in_err-check_shape
unfolding record_verdict
returns-in_err-check_shape c =
    let p = err_from_is_err_and c.from_residual.result c.from_residual.ensures.1 in
    rw (p.1, p.2) (refusal-first _ _ c.in_err-check_shape.ensures)

pub returns-then-amendment_repeated : goal.returns-then-amendment_repeated
unfolding record_verdict
returns-then-amendment_repeated c =
    accepted-first _ c.in_ok-check_shape.ensures (row-holds 15 c.args.at _ c.if-amendment_repeated.ensures)

pub returns : goal.returns
unfolding record_verdict
returns c =
    accepted-first _ c.in_ok-check_shape.ensures (row-fails 16 c.args.at c.if-amendment_repeated.ensures c.check_body.ensures)
