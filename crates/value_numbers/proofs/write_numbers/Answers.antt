-- `value_numbers::write_numbers` meets its contract. Assumes nothing.
use mathlib.Core.Path.{◌∙◌}
use Rattle.value_numbers.proofs.TotalLaws.{rows-within, numbers-written}
use Rattle.value_numbers.proofs.write_numbers.Goals as goal

pub totals_of-totals-requires : goal.totals_of-totals-requires
totals_of-totals-requires c =
    rows-within _ c.args.list.now _ c.requires.2 c.write_rows.ensures c.requires.0

pub returns : goal.returns
returns c =
    c.write.ensures ∙ numbers-written _ c.args.list.now _ c.requires.2 c.write_rows.ensures c.totals_of-totals.result c.totals_of-totals.ensures
