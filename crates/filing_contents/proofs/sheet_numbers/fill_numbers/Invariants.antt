-- `fill_numbers` meets its contract. The loop's invariant: the first i numbers are filled.
-- Assumes nothing.
use Prim.Native.Nat.{ℕ, ◌+◌}
use lib.ListN.{length}
use Rattle.lists.proofs.FillLaws.{Filled}
use Rattle.record_fields.specs.Records.{sheet_number}
use Rattle.filing_contents.proofs.sheet_numbers.fill_numbers.Given as goal

abbrev pub invariant-loop-i : goal.invariant-loop-i
invariant-loop-i l = Filled (λ (j : ℕ). sheet_number l.s l.at (1 + j)) 0 (length l.initial.numbers) l.i l.numbers
