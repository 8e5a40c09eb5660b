-- `check_body` meets its contract: 5, and then 11. Assumes nothing.
use mathlib.Core.Path.{refl}
use Rattle.answers.specs.Verdict.{first_of}
use Rattle.answers.proofs.VerdictLaws.{row-holds, row-fails}
use Rattle.record_verdicts.specs.RecordVerdicts.{body_verdict}
use Rattle.record_verdicts.proofs.check_body.Goals as goal

pub returns-then-over_limit : goal.returns-then-over_limit
unfolding body_verdict first_of
returns-then-over_limit c = row-holds 4 c.args.at _ c.if-over_limit.ensures

pub returns-then-unsound_tiers : goal.returns-then-unsound_tiers
unfolding body_verdict first_of
returns-then-unsound_tiers c = row-fails 5 c.args.at c.if-over_limit.ensures (row-holds 10 c.args.at _ c.if-unsound_tiers.ensures)

pub returns : goal.returns
unfolding body_verdict first_of
returns c = row-fails 5 c.args.at c.if-over_limit.ensures (row-fails 11 c.args.at c.if-unsound_tiers.ensures refl)
