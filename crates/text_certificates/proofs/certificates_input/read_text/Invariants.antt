-- `read_text` meets its contract. The loop's invariant: the lines so far have their form, and their numbers are stored. Assumes nothing.
use Prim.Native.Nat.{◌+◌, ◌-◌}
use mathlib.Core.Path.{◌≡◌}
use lib.ListN.{length}
use Rattle.text_certificates.proofs.TextLaws.{LinesRead, stored}
use Rattle.text_certificates.proofs.certificates_input.read_text.Given as goal

abbrev pub invariant-loop-next : goal.invariant-loop-next
invariant-loop-next g l = LinesRead l.text l.lines l.next × (l.certificates.items ≡ stored l.text l.initial.certificates.items (l.lines - 1))

abbrev pub decreases-loop-next : goal.decreases-loop-next
decreases-loop-next g l = length l.text + 1 - l.next
