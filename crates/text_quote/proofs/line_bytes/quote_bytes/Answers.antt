-- `quote_bytes` meets its contract. Assumes nothing.
use mathlib.Core.Path.{sym, ◌∙◌}
use Rattle.text_quote.proofs.ByteLaws.{lines-read}
use Rattle.text_quote.proofs.line_bytes.quote_bytes.Goals as goal

pub returns : goal.returns
returns c =
    let months = c.as_slice.ensures.value ∙ (rw c.new-months.ensures at c.read_months.ensures) in
    let prices = c.as_slice-2.ensures.value ∙ (rw c.new-prices.ensures at c.read_prices.ensures) in
    rw (sym (lines-read c.args.lines.now _ _ months prices)) c.quote.ensures.quoted
