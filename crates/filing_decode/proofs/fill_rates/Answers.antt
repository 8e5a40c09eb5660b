-- `fill_rates` meets its contract: the rates by month where there is such a sheet, else the flat ones. Assumes nothing.
use mathlib.Core.Path.{ap, ◌∙◌}
use native.Mathlib.Omega.{arith}
use lib.ListN.{length}
use Rattle.lists.specs.Runs.{written}
use Rattle.lists.proofs.RunLaws.{written_back}
use Rattle.lists.proofs.TableLaws.{table-length}
use Rattle.form.specs.Limits.{rate_count, rates_start}
use Rattle.record_kinds.specs.Kinds.{sheet_of, sheet_kinds, sheet_kind}
use Rattle.filing_decode.proofs.ContentsLaws.{rates-by-month, rates-flat}
use Rattle.filing_decode.proofs.fill_rates.Goals as goal

pub fill_sheet-requires : goal.fill_sheet-requires
unfolding sheet_of sheet_kinds sheet_kind
fill_sheet-requires c = omega (arith, c.requires.2)

pub returns-then-path-s : goal.returns-then-path-s
unfolding sheet_of sheet_kinds sheet_kind
returns-then-path-s c =
    c.fill_sheet.ensures ∙ ap (written c.args.numbers.now rates_start) (rates-by-month _ c.requires.1 c.if-path-s.true)

pub returns-else-path-s : goal.returns-else-path-s
returns-else-path-s c =
    written_back c.args.numbers.now rates_start rate_count _ (ap length c.fill_flat.ensures ∙ table-length 0 rate_count _)
    ∙ ap (written c.args.numbers.now rates_start) (c.fill_flat.ensures ∙ rates-flat _ c.requires.1 c.requires.0 c.if-path-s.false)
