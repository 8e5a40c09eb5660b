-- `exports::price::spritapricot_price` keeps the promise of `quote`. Assumes nothing.
use Rattle.exports.proofs.PricedLaws.{priced-refused, priced-replied}
use Rattle.exports.proofs.price.spritapricot_price.Goals as goal

pub returns-in-Ok : goal.returns-in-Ok
returns-in-Ok c =
    let r = c.reply_numbers.ensures in
    record { quoted = priced-replied _ _ _ _ _ _ _ _ c.in-Ok.ensures.quoted r.0 r.1 }

pub returns-in-Err : goal.returns-in-Err
returns-in-Err c = record { quoted = priced-refused _ _ _ _ _ _ _ _ c.in-Err.ensures.quoted c.refused.ensures.0 c.refused.ensures.1 }
