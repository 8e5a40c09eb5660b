-- `is_faulty` meets its contract. Assumes nothing.
use native.Mathlib.Omega.{arith}
use mathlib.Core.Path.{sym, ap, ◌∙◌}
use borrow.Author.Tests.{leb-false}
use Rattle.quote_prices.specs.PriceLines.{faulty_prices}
use Rattle.quote_lines.proofs.LineLaws.{line_read}
use Rattle.quote_lines.proofs.FaultLaws.{faulty-past, faulty-months, faulty-by-prices}
use Rattle.quote_lines.proofs.Lines.is_faulty.Goals as goal
use Rattle.quote_lines.proofs.Lines.is_faulty.Goals.{then-i-ge-LINE_LIMIT, else-i-ge-LINE_LIMIT}

pub returns-then-is_not_rising : goal.returns-then-is_not_rising
returns-then-is_not_rising c =
    let held = c.if-is_not_rising.true in
    elim c.if-i-ge-LINE_LIMIT.branch [
      | then-i-ge-LINE_LIMIT w ↦ held ∙ faulty-past _ _ w.if-i-ge-LINE_LIMIT.true
      | else-i-ge-LINE_LIMIT w ↦ held ∙ faulty-months _ _ w.if-i-ge-LINE_LIMIT.false (sym w.is_not_rising.ensures ∙ sym w.value-is ∙ held)
    ]

pub returns-else-is_not_rising : goal.returns-else-is_not_rising
returns-else-is_not_rising c =
    let not-held = c.if-is_not_rising.false in
    let read = line_read _ _ c.args.i c.requires c.line.ensures in
    elim c.if-i-ge-LINE_LIMIT.branch [
      | then-i-ge-LINE_LIMIT w ↦ absurd (omega (arith, leb-false _ _ (sym w.value-is ∙ not-held), w.if-i-ge-LINE_LIMIT.true))
      | else-i-ge-LINE_LIMIT w ↦
          c.has_faulty_price.ensures
          ∙ ap faulty_prices read
          ∙ faulty-by-prices _ _ w.if-i-ge-LINE_LIMIT.false (sym w.is_not_rising.ensures ∙ sym w.value-is ∙ not-held)
    ]
