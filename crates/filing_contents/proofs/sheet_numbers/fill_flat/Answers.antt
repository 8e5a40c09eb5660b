-- `fill_flat` meets its contract: the rates of the three columns, one behind the other.
-- Assumes nothing.
use Rattle.record_fields.specs.Records.{sheet_number}
use Rattle.filing_contents.proofs.ArrayLaws.{flat-filled}
use Rattle.filing_contents.proofs.sheet_numbers.fill_flat.Goals as goal

-- the first rate is filled in from 0 to the end, the second over it from 120, the third over both from 240: entry i is left as
-- rate i / 120 + 1, whatever stood there
pub returns : goal.returns
returns c =
    flat-filled (sheet_number c.args.s.now c.args.flat) c.args.rates.now c.sheet_number-first.ensures c.sheet_number-second.ensures
    c.sheet_number-third.ensures c.fill_from.ensures c.fill_from-2.ensures c.fill_from-3.ensures
