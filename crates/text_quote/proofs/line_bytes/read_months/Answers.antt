-- `read_months` meets its contract: the months of the lines before i are read. Assumes nothing.
use Prim.Native.Nat.{◌+◌, ◌*◌}
use native.Mathlib.Nat.{add-zero}
use native.Mathlib.Omega.{arith}
use mathlib.Core.Path.{sym, ap, ◌∙◌}
use mathlib.Core.List.{append-nil}
use lib.ListN.{length, length-append}
use Rattle.std.proofs.Common.{rules}
use Rattle.lists.specs.Tables.{table_from}
use Rattle.lists.proofs.TableLaws.{table-length}
use Rattle.record_fields.proofs.ByteLaws.{number_lt}
use Rattle.text_quote.specs.LineBytes.{line_bytes, months_in}
use Rattle.text_quote.proofs.ByteLaws.{read_more}
use Rattle.text_quote.proofs.line_bytes.read_months.Goals as goal

pub loop-i-init : goal.loop-i-init
unfolding table_from
loop-i-init g c = sym (append-nil _)

pub overflow_cast-field_within : goal.overflow_cast-field_within
overflow_cast-field_within g c =
    omega (arith, c.field_within.ensures, number_lt c.args.lines.now (line_bytes * c.loop-i.i + 0) 2 c.type_inv.lines)

pub push-requires : goal.push-requires
push-requires g c =
    (search rules, omega (arith, c.requires, table-length 0 c.loop-i.i (months_in c.args.lines.now), simp length-append at (ap length c.loop-i.invariant)))

pub loop-i-preserved : goal.loop-i-preserved
unfolding months_in
loop-i-preserved g c = read_more _ _ _ _ _ _ c.loop-i.invariant c.push.ensures.items (c.field_within.ensures ∙ rw add-zero)
