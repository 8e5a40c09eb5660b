-- `exports::spritapricot_value` keeps the valuing call's promise. Assumes nothing.
use Rattle.exports.proofs.ExportedLaws.{valued-refused, valued-accepted}
use Rattle.exports.proofs.spritapricot_value.Goals as goal

pub returns-in-Err : goal.returns-in-Err
returns-in-Err c =
    record { valued = valued-refused _ _ _ _ _ _ c.value.ensures.valued _ _ _ c.in-Err.is c.refused.ensures.0 c.refused.ensures.1 }

pub returns : goal.returns
returns c = record { valued = valued-accepted _ _ _ _ _ _ c.value.ensures.valued _ c.in_default.is }
