-- `places_of` meets its contract. The loop's invariant: the places of the positions passed are theirs.
-- Assumes nothing.
use Prim.Native.Nat.{◌*◌}
use Rattle.lists.proofs.FillLaws.{Filled}
use Rattle.form.specs.Places.{no_place}
use Rattle.form.specs.PlaceOrder.{sub_balance_count}
use Rattle.shares.specs.Places.{place_at}
use Rattle.shares.proofs.places.places_of.Given as goal

abbrev pub invariant-loop-i : goal.invariant-loop-i
invariant-loop-i l = Filled (place_at l.cells) no_place sub_balance_count (4 * l.i) l.places
