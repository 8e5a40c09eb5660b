-- Moving on is monotone, in the date and in the months. Assumes nothing.
use Prim.Native.Nat.{ℕ, ◌≤◌}
use native.Mathlib.Nat.{eq-or-lt_of_le}
use native.Mathlib.Omega.{arith}
use mathlib.Core.Path.{◌≡◌}
use mathlib.Core.Logic.{⊎_elim, inl, inr}
use mathlib.Core.Bool.{true}
use Rattle.certificate_calendar.specs.declared.Date.{Date}
use Rattle.certificate_calendar.specs.Dates.{on_or_after, moved_on}
use Rattle.certificate_calendar.proofs.DateLaws.{on-or-after, after, moved-index, moved-on-mono}

-- a later date is moved on to no earlier one
pub moved-date-mono : (a b : Date) (m : ℕ) → on_or_after a b ≡ true → on_or_after (moved_on a m) (moved_on b m) ≡ true
moved-date-mono a b m h = after (moved_on a m) (moved_on b m) (moved-on-mono a b m (on-or-after a b h))

-- more months move a date on to no earlier one
pub moved-months-mono : (d : Date) (m n : ℕ) → m ≤ n → on_or_after (moved_on d n) (moved_on d m) ≡ true
moved-months-mono d m n h =
    after (moved_on d n) (moved_on d m)
    (⊎_elim (λ e. inr (omega (arith, moved-index d m, moved-index d n, e), same e)) (λ l. inl (omega (arith, moved-index d m, moved-index d n))) (eq-or-lt_of_le h))
  where
    same : m ≡ n → (moved_on d m).day ≤ (moved_on d n).day
    same e = rw e (omega arith)
