-- `text::lines::append_line` has room for each number of the line that remains. Assumes nothing.
use mathlib.Core.Path.{ap}
use native.Mathlib.Omega.{arith}
use lib.ListN.{length, length-append}
use Rattle.std.proofs.Common.{rules}
use Rattle.text.proofs.LineLaws.{rest_number}
use Rattle.text.proofs.lines.append_line.Goals as goal

pub append_spaced-requires : goal.append_spaced-requires
append_spaced-requires g c =
    let number = rest_number c.args.numbers.now c.loop-number.number-index (omega arith) in
    (search rules, omega (arith, simp length-append at (ap length number), simp length-append at (ap length c.loop-number.invariant)))
