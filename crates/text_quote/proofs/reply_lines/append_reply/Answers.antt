-- `append_reply` meets its contract. Assumes nothing.
use native.Mathlib.Omega.{arith}
use mathlib.Core.Path.{ap}
use Rattle.std.proofs.Common.{rules}
use Rattle.text_quote.specs.ReplyLines.{listed_word, between_word, outside_word, reply_line}
use Rattle.text_quote.proofs.ReplyLaws.{listed-number, between-number}
use Rattle.text_quote.proofs.reply_lines.append_reply.Goals as goal

pub append_price-requires : goal.append_price-requires
append_price-requires g c = (search rules, (omega arith, omega arith, listed-number c.args.reply _ c.requires.1 c.in-Listed.is))

pub append_price-requires-in-Between : goal.append_price-requires-in-Between
append_price-requires-in-Between g c = (search rules, (omega arith, omega arith, between-number c.args.reply _ c.requires.1 c.in-Between.is))

pub returns-in-Listed : goal.returns-in-Listed
unfolding reply_line listed_word
returns-in-Listed g c = rw (ap reply_line c.in-Listed.is) c.append_price.ensures

pub returns-in-Between : goal.returns-in-Between
unfolding reply_line between_word
returns-in-Between g c = rw (ap reply_line c.in-Between.is) c.append_price-in-Between.ensures

pub returns-in-Outside : goal.returns-in-Outside
unfolding reply_line outside_word
returns-in-Outside g c = rw (ap reply_line c.in-Outside.is) c.append.ensures
