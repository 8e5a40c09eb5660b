-- `reply_numbers` meets its contract. Assumes nothing.
use Rattle.exports.proofs.PricedLaws.{listed-numbers, between-numbers, outside-numbers}
use Rattle.exports.proofs.price.reply_numbers.Goals as goal

pub returns-in-Listed : goal.returns-in-Listed
returns-in-Listed c = listed-numbers _ _ _ c.in-Listed.is

pub returns-in-Between : goal.returns-in-Between
returns-in-Between c = between-numbers _ _ _ c.in-Between.is

pub returns-in-Outside : goal.returns-in-Outside
returns-in-Outside c = outside-numbers _ _ c.in-Outside.is
