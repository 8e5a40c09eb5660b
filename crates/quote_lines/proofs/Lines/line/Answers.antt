-- `line` meets its contract. Assumes nothing.
use Prim.Native.Nat.{◌+◌, ◌*◌, ◌≤◌}
use native.Mathlib.Omega.{arith}
use lib.Ieee.{nan}
use lib.ListN.{length, get_or}
use Rattle.std.proofs.Common.{rules}
use Rattle.std.proofs.iter.Serving.{serving}
use Rattle.lists.proofs.ChainLaws.{table-from_fn}
use Rattle.form.specs.Shift.{scenario_count}
use Rattle.quote_lines.specs.Lines.{line_in}
use Rattle.quote_lines.proofs.LineLaws.{month-within, prices-within}
use Rattle.quote_lines.proofs.Lines.line.Goals as goal

pub overflow_mul-first : goal.overflow_mul-first
overflow_mul-first c = omega (arith, prices-within _ _ _ c.requires)

pub offset_bounds-self-i : goal.offset_bounds-self-i
offset_bounds-self-i c = omega (arith, month-within _ _ _ c.requires)

pub bounds-self-i : goal.bounds-self-i
bounds-self-i c = month-within _ _ _ c.requires

pub from_fn-requires : goal.from_fn-requires
from_fn-requires c =
    let within : scenario_count * c.args.i + scenario_count ≤ length c.args.self.now.prices.now = prices-within _ _ _ c.requires in
    grind (serving, within)

pub returns : goal.returns
unfolding line_in
returns c =
    rw (table-from_fn nan (λ k. get_or c.args.self.now.prices.now (scenario_count * c.args.i + k) nan) scenario_count c.from_fn.ensures.items (λ k y q l h. (search rules, search rules)))
