-- `append_values` has room for each number, 20 digits at most. Assumes nothing.
use native.Mathlib.Omega.{arith}
use Rattle.std.proofs.Common.{rules}
use Rattle.text.proofs.LineLaws.{rest-length}
use Rattle.text_book.proofs.book_lines.append_values.Goals as goal

pub append_line-requires : goal.append_line-requires
append_line-requires g c =
    (search rules, omega (arith, c.requires, rest-length c.args.values.now (λ i h. omega (arith, c.type_inv.values i))))
