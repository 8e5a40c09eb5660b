-- `check_record` meets its contract: the tests before 16, then those after it. Assumes nothing.
use Rattle.std.proofs.lemmas.Result.{err_from_is_err_and}
use Rattle.answers.proofs.VerdictLaws.{accepted-first}
use Rattle.answers.proofs.AnswerLaws.{refusal-first}
use Rattle.record_verdicts.specs.Inner.PlainVerdicts.{plain_verdict}
use Rattle.record_verdicts.proofs.check_record.Goals as goal

pub returns-in_err-check_shape : goal.returns-in_err-check_shape
unfolding plain_verdict
returns-in_err-check_shape c =
    let p = err_from_is_err_and c.from_residual.result c.from_residual.ensures.1 in
    rw (p.1, p.2) (refusal-first _ _ c.in_err-check_shape.ensures)

pub returns : goal.returns
unfolding plain_verdict
returns c = accepted-first _ c.in_ok-check_shape.ensures c.check_body.ensures
