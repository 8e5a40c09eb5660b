-- The line of a place, number by number. Assumes nothing.
use Prim.Native.Nat.{ℕ}
use mathlib.Core.Path.{◌≡◌}
use mathlib.Core.List.{List, [], ◌∷◌, ◌++◌, append_assoc}
use Rattle.text.specs.Decimal.{decimal}
use Rattle.text.specs.Lines.{spaced, rest_of_line}
use Rattle.form.specs.declared.sub_balances.SubBalance.{SubBalance}
use Rattle.text_book.specs.BookLines.{held_line}

-- the first number of the rest of a line
rest-cons : (n : ℕ) (ns : List ℕ) → rest_of_line (n ∷ ns) ≡ (32 ∷ decimal n) ++ rest_of_line ns
unfolding rest_of_line spaced
rest-cons n ns = append_assoc (32 ∷ decimal n) (spaced ns) (10 ∷ [])

-- a place's numbers, one behind the other
pub held_text : (held : SubBalance) → held_line held
    ≡ (((decimal held.balance ++ (32 ∷ decimal held.coupon)) ++ (32 ∷ decimal held.remaining_months)) ++ (32 ∷ decimal held.penalty)) ++ rest_of_line held.values
unfolding held_line
held_text held =
    simp (
      rest-cons held.coupon (held.remaining_months ∷ held.penalty ∷ held.values),
      rest-cons held.remaining_months (held.penalty ∷ held.values),
      rest-cons held.penalty held.values,
      append_assoc,
    )
