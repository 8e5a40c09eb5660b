-- The months between two dates: the least of the definition, in a few arithmetic steps, and fewer from a later date. Assumes nothing.
use Prim.Native.Nat.{ℕ, ◌+◌, ◌-◌, ◌/◌, ◌%◌, ◌≤◌, ◌<◌, max}
use native.Mathlib.Omega.{arith}
use mathlib.Core.Path.{◌≡◌, refl, sym, ◌∙◌}
use mathlib.Core.Logic.{◌⊎◌, inl, inr, ⊎_elim}
use mathlib.Core.Bool.{Bool, true, false, cond}
use borrow.Author.Tests.{leb-false, ltb-true, ltb-false, le-leb, lt-leb}
use lib.Dec.{leb, ltb}
use mir.Val.{bool_byte}
use Rattle.certificate_calendar.specs.declared.Date.{Date}
use Rattle.certificate_calendar.specs.Dates.{last_day, month_index, on_or_after, day_in, moved_on, months_between}
use Rattle.lists.proofs.OrderLaws.{lt-or-le}
use Rattle.lists.proofs.RangeLaws.{least-is}
use Rattle.certificate_calendar.specs.Inner.Days.{Day}
use Rattle.certificate_calendar.proofs.DateLaws.{After, on-or-after, later-month, same-month, earlier-month, after, after-trans, moved-index, moved-on-mono}

-- a day that the month lacks becomes its last one: for a day that the month has, the test is on the days themselves
clip-leb : (x y l : ℕ) → y ≤ l → leb y (cond (leb x l) x l) ≡ leb y x
clip-leb x y l h = by (leb x l) refl
  where
    by : (p : Bool) → leb x l ≡ p → leb y (cond p x l) ≡ leb y x
    by true e = refl
    by false e = le-leb y l h ∙ sym (le-leb y x (omega (arith, leb-false x l e)))

-- m is the least of at least 1 for which the first date moved on m months is on or after the second
pub record LeastMonths (a b : Date) (m : ℕ) : Type 0 where
  pub one : 1 ≤ m
  pub reaches : on_or_after (moved_on a m) b ≡ true
  pub none_before : (k : ℕ) → 1 ≤ k → k < m → on_or_after (moved_on a k) b ≡ false

module _ (a b : Date) (from : Day a) (to : Day b) where
  -- moved on past the second date's month, into it, and not as far
  past : (m : ℕ) → month_index b < month_index a + m → on_or_after (moved_on a m) b ≡ true
  past m h = later-month (moved_on a m) b (omega (arith, moved-index a m))

  short-of : (m : ℕ) → month_index a + m < month_index b → on_or_after (moved_on a m) b ≡ false
  short-of m h = earlier-month (moved_on a m) b (omega (arith, moved-index a m))

  days-into : (m : ℕ) → month_index a + m ≡ month_index b → leb b.day (moved_on a m).day ≡ leb b.day a.day
  unfolding moved_on day_in
  days-into m e =
      let year : (month_index a + m) / 12 ≡ b.year = rw e (omega (arith, to.from-january, to.to-december)) in
      let month : (month_index a + m) % 12 + 1 ≡ b.month = rw e (omega (arith, to.from-january, to.to-december)) in
      rw (year, month) (clip-leb a.day b.day (last_day b.year b.month) to.to-the-last)

  into : (m : ℕ) → month_index a + m ≡ month_index b → on_or_after (moved_on a m) b ≡ leb b.day a.day
  into m e = same-month (moved_on a m) b (sym (moved-index a m ∙ e)) ∙ days-into m e

  -- the second date's month, or the next one where the first date's day falls short
  abbrev pub Reach : ℕ → Type 0
  Reach end = ((a.day < b.day) × (end ≡ month_index b + 1)) ⊎ ((b.day ≤ a.day) × (end ≡ month_index b))

  reach-passes : (end m : ℕ) → Reach end → end ≤ month_index a + m → on_or_after (moved_on a m) b ≡ true
  reach-passes end m (inl r) h = past m (omega arith)
  reach-passes end m (inr r) h =
      ⊎_elim (λ l. past m l) (λ l. into m (omega arith) ∙ le-leb b.day a.day r.0) (lt-or-le (month_index b) (month_index a + m))

  reach-fails : (end m : ℕ) → Reach end → month_index a + m < end → on_or_after (moved_on a m) b ≡ false
  reach-fails end m (inl r) h =
      ⊎_elim (λ l. short-of m l) (λ l. into m (omega arith) ∙ lt-leb b.day a.day r.0) (lt-or-le (month_index a + m) (month_index b))
  reach-fails end m (inr r) h = short-of m (omega arith)

  -- the months from one date to the other, in a few steps
  pub months-apart : (end : ℕ) → Reach end → LeastMonths a b (max (end - month_index a) 1)
  months-apart end r =
      record { one = omega arith; reaches = reach-passes end _ r (omega arith); none_before = λ k g u. reach-fails end k r (omega arith) }

  -- the end is at most 2200 years of 12 months, and the first date is of 1900 or later, so that the months between are at most 300 years
  end-le : (end : ℕ) → Reach end → end ≤ 26400
  end-le end (inl r) = omega arith
  end-le end (inr r) = omega arith

  -- the search finds it
  pub months-are : (end : ℕ) → Reach end → months_between a b ≡ max (end - month_index a) 1
  unfolding months_between
  months-are end r =
      let least = months-apart end r in
      least-is _ 1 3600 _ least.one (omega (arith, end-le end r)) least.reaches least.none_before

  -- the month that is reached, by the test of the days
  pub reach : Reach (month_index b + bool_byte (ltb a.day b.day))
  reach = by (ltb a.day b.day) refl
    where
      by : (p : Bool) → ltb a.day b.day ≡ p → Reach (month_index b + bool_byte p)
      by true e = inl (ltb-true a.day b.day e, refl)
      by false e = inr (ltb-false a.day b.day e, omega arith)

  -- the months between two dates are the least, however far the search may go
  pub months-between-least : LeastMonths a b (months_between a b)
  months-between-least = rw (months-are _ reach) (months-apart _ reach)

-- from a later date there are no more months to go: moved on by as many months as the earlier date needs, the later one stands
-- no earlier than that date so moved, and so reaches the end too, which it would not if it needed more
pub months-between-anti : (a b to : Date) → Day a → Day b → Day to → After b a → months_between b to ≤ months_between a to
months-between-anti a b to da db dt h = ⊎_elim (λ l. absurd (less l)) (λ l. l) (lt-or-le (months_between a to) (months_between b to))
  where
    less : months_between a to < months_between b to → ⊥
    less l =
        let m = months_between a to in
        let most = months-between-least a to da dt in
        let least = months-between-least b to db dt in
        let reached : on_or_after (moved_on b m) to ≡ true =
        after (moved_on b m) to
        (after-trans (moved_on b m) (moved_on a m) to (moved-on-mono b a m h) (on-or-after (moved_on a m) to most.reaches)) in
        let z : true ≡ false = sym reached ∙ least.none_before m most.one l in
        let y : ◌≡◌ {A = ℕ} 0 1 = cc in
        omega arith
