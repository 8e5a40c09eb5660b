-- `fill_from` meets its contract. Assumes nothing.
use Rattle.form.specs.Limits.{rate_count}
use Rattle.filing_contents.proofs.ArrayLaws.{part-filled}
use Rattle.filing_contents.proofs.sheet_numbers.fill_from.Goals as goal

pub returns : goal.returns
returns c = part-filled c.args.from rate_count c.args.rate c.args.rates.now c.fill.new.self c.requires.1 c.requires.0 (c.fill.ensures.after (λ y e. e))
