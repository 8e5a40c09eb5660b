-- `append_bits` has room for each digit that remains. Assumes nothing.
use Prim.Native.Nat.{◌-◌}
use mathlib.Core.Path.{ap}
use native.Mathlib.Omega.{arith}
use lib.ListN.{length, length-append}
use Rattle.std.proofs.Common.{rules}
use Rattle.text_quote.proofs.HexLaws.{places_length}
use Rattle.text_quote.proofs.reply_lines.append_bits.Goals as goal

pub push-requires : goal.push-requires
push-requires g c =
    let bits = c.args.bits in
    (search rules, omega (arith, places_length (16 - c.loop-place.place) bits, places_length 16 bits, simp length-append at (ap length c.loop-place.invariant)))
