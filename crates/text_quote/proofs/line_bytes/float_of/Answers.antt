-- `float_of` meets its contract. Assumes nothing.
use Rattle.text_quote.proofs.ByteLaws.{pattern-none, pattern-some}
use Rattle.text_quote.proofs.line_bytes.float_of.Goals as goal

pub returns-then-bits-gt9218868437227405312 : goal.returns-then-bits-gt9218868437227405312
returns-then-bits-gt9218868437227405312 c = pattern-none c.args.bits c.if-bits-gt9218868437227405312.true

pub float_from_bits-result : goal.float_from_bits-result
float_from_bits-result c = pattern-some c.args.bits c.if-bits-gt9218868437227405312.false
