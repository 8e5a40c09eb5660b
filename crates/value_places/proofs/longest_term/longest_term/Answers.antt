-- `value_places::longest_term::longest_term` meets its contract. Assumes nothing.
use mathlib.Core.Path.{◌≡◌, refl}
use native.Mathlib.Numerals.{add-one}
use native.Mathlib.Omega.{arith}
use Rattle.form.specs.PlaceOrder.{sub_balance_count}
use Rattle.value_places.specs.Inner.LongestTerm.{longest_to, longest_term}
use Rattle.value_places.proofs.longest_term.longest_term.Goals as goal

pub loop-i-init : goal.loop-i-init
unfolding longest_to
loop-i-init c = refl

pub loop-i-preserved : goal.loop-i-preserved
unfolding longest_to
loop-i-preserved c = rw (add-one c.loop-i.i) (cc)

pub returns : goal.returns
unfolding longest_term
returns c = let e : c.loop-i.i ≡ sub_balance_count = omega arith in rw (c.loop-i.invariant, e)
