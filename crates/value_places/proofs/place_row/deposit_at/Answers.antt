-- `value_places::place_row::deposit_at` meets its contract. Assumes nothing.
use Rattle.form.specs.PlaceOrder.{is_brokered}
use Rattle.value_places.specs.PlaceTerms.{deposit_at}
use mathlib.Core.Path.{refl}
use Rattle.value_places.proofs.place_row.deposit_at.Goals as goal

pub returns : goal.returns
unfolding deposit_at is_brokered
returns c = refl
