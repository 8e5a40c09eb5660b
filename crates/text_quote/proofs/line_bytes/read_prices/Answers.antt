-- `read_prices` meets its contract: the prices before i are read. Assumes nothing.
use native.Mathlib.Omega.{arith}
use mathlib.Core.Path.{sym, ap, ◌∙◌}
use mathlib.Core.List.{append-nil}
use lib.Ieee.{binary64, of_bits}
use lib.ListN.{length, length-append}
use Rattle.std.proofs.Common.{rules}
use Rattle.lists.specs.Tables.{table_from}
use Rattle.lists.proofs.TableLaws.{table-length}
use Rattle.text_quote.specs.LineBytes.{bits_in, price_in, price_at}
use Rattle.text_quote.proofs.ByteLaws.{read_more}
use Rattle.text_quote.proofs.line_bytes.read_prices.Goals as goal

pub loop-i-init : goal.loop-i-init
unfolding table_from
loop-i-init g c = sym (append-nil _)

pub push-requires : goal.push-requires
push-requires g c =
    (search rules, omega (arith, c.requires, table-length 0 c.loop-i.i (price_at c.args.lines.now), simp length-append at (ap length c.loop-i.invariant)))

pub loop-i-preserved : goal.loop-i-preserved
unfolding price_at price_in bits_in
loop-i-preserved g c =
    read_more _ _ _ _ _ _ c.loop-i.invariant c.push.ensures.items (c.float_of.ensures ∙ ap (of_bits binary64) c.field_within-bits.ensures)
