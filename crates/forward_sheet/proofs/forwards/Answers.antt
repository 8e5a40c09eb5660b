-- `forward_sheet::forwards` keeps its promise: each way out is one of the call's laws. Assumes nothing.
use Rattle.std.proofs.lemmas.Result.{err_from_is_err_and}
use Rattle.filing.proofs.ReadingLaws.{reading-says, reading-valid}
use Rattle.forward_sheet.proofs.CallLaws.{short-list, refused-filing, written-forwards, yields_within}
use Rattle.forward_sheet.proofs.forwards.Goals as goal

pub returns-then-list-lt-FORWARDS : goal.returns-then-list-lt-FORWARDS
returns-then-list-lt-FORWARDS c = record { enclosed = short-list _ _ c.if-list-lt-FORWARDS.true }

pub returns-in_err-read : goal.returns-in_err-read
returns-in_err-read c =
    let p = err_from_is_err_and c.from_residual.result c.from_residual.ensures.1 in
    record { enclosed = rw (p.1, p.2) (refused-filing _ _ c.if-list-lt-FORWARDS.false _ c.in_err-read.ensures.answered) }

pub write_forwards-requires : goal.write_forwards-requires
write_forwards-requires c =
    (yields_within _ (reading-valid _ _ _ c.in_ok-read.ensures.answered c.in_ok-read.ensures.said), c.if-list-lt-FORWARDS.false)

pub returns : goal.returns
returns c =
    let read = c.in_ok-read.ensures in
    record {
      enclosed = written-forwards _ _ c.if-list-lt-FORWARDS.false read.answered _ (reading-says _ _ _ read.answered read.said) _
          c.write_forwards.ensures.0 c.write_forwards.ensures.1;
    }
