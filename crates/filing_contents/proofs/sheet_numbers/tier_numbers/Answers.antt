-- `tier_numbers` meets its contract. Assumes nothing.
use Rattle.std.proofs.Common.{rules}
use Rattle.lists.proofs.ChainLaws.{table-from_fn}
use Rattle.form.specs.Limits.{tier_limit}
use Rattle.filing_contents.specs.Sheets.{tier_number}
use Rattle.filing_contents.proofs.sheet_numbers.tier_numbers.Goals as goal

pub returns : goal.returns
returns c =
    table-from_fn 0 (tier_number c.args.s.now c.args.at c.args.count c.args.first) tier_limit c.from_fn.ensures.items (λ i y q l k. search rules)
