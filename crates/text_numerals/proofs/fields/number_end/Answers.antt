-- `number_end` meets its contract: the digits from the index on are counted. Assumes nothing.
use native.Mathlib.Omega.{arith}
use Rattle.text_numerals.proofs.NumeralLaws.{digits_within, number_end_read}
use Rattle.text_numerals.proofs.fields.number_end.Goals as goal

pub overflow_add-result : goal.overflow_add-result
overflow_add-result c = omega (arith, digits_within c.args.text.now c.args.at c.min.result c.leading_digits.result c.min.ensures c.leading_digits.ensures)

pub returns : goal.returns
returns c = number_end_read _ _ _ _ c.min.ensures c.leading_digits.ensures
