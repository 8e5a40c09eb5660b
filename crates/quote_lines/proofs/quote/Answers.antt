-- `quote` meets its contract. Assumes nothing.
use Rattle.std.proofs.Common.{rules, ◌≡◌}
use Rattle.answers.specs.Verdict.{accepted}
use Rattle.quote_lines.specs.Lines.{lines_of}
use Rattle.quote_lines.specs.Faults.{lines_verdict}
use Rattle.quote_lines.proofs.PromiseLaws.{lines-format, quoted-accepted}
use Rattle.quote_lines.proofs.quote.Goals as goal

pub returns : goal.returns
returns c =
    let taken : accepted ≡ lines_verdict (lines_of c.args.months.now c.args.prices.now) = search rules in
    let format = lines-format _ _ (λ i. (c.type_inv.months i).fits) (λ i. c.type_inv.prices i) in
    record { quoted = quoted-accepted _ _ _ c.reply.result taken format c.reply.ensures }
