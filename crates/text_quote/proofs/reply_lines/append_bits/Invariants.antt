-- `append_bits` meets its contract: the digits from a place on remain. Assumes nothing.
use Prim.Native.Nat.{◌-◌}
use mathlib.Core.Path.{◌≡◌}
use mathlib.Core.List.{◌++◌}
use Rattle.text_quote.specs.ReplyLines.{hexadecimal}
use Rattle.text_quote.proofs.reply_lines.append_bits.Given as goal

abbrev pub invariant-loop-place : goal.invariant-loop-place
invariant-loop-place g l = l.text.items ++ hexadecimal (16 - l.place) l.bits ≡ l.initial.text.items ++ hexadecimal 16 l.bits
