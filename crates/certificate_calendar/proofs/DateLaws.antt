-- Days of the calendar, their order, and that moving on keeps it. Assumes nothing.
use Prim.Native.Nat.{ℕ, ◌+◌, ◌≤◌, ◌<◌}
use native.Mathlib.Omega.{arith}
use mathlib.Core.Path.{◌≡◌, refl, ◌∙◌}
use mathlib.Core.Logic.{◌⊎◌, inl, inr, ⊎_elim}
use mathlib.Core.Bool.{Bool, true, false, cond, ◌&&◌, ◌||◌}
use borrow.Author.Tests.{leb-true, leb-false, ltb-true, eqb-true, lt-ltb, le-ltb, le-leb, eq-eqb, ne_eqb}
use lib.Dec.{leb, ltb, eqb}
use Rattle.lists.proofs.RangeLaws.{within_both}
use Rattle.lists.specs.Ranges.{within}
use Rattle.certificate_calendar.specs.declared.Date.{Date}
use Rattle.certificate_calendar.specs.Inner.Days.{Day}
use Rattle.certificate_calendar.specs.Dates.{last_day, is_date, month_index, on_or_after, day_in, moved_on}
use Rattle.lists.proofs.TestLaws.{and-true}

-- what a day of 1900 to 2199 is: the test is three at once, of the year, the month and the day, and each gives its two bounds
pub date-day : (d : Date) → is_date d ≡ true → Day d
unfolding is_date
date-day d h =
    let years = and-true (within 1900 2199 d.year) _ h in
    let months = and-true (within 1 12 d.month) _ years.1 in
    let year = within_both 1900 2199 d.year years.0 in
    let month = within_both 1 12 d.month months.0 in
    let day = within_both 1 (last_day d.year d.month) d.day months.1 in
    record {
      from-1900 = year.0;
      to-2199 = year.1;
      from-january = month.0;
      to-december = month.1;
      from-the-first = day.0;
      to-the-last = day.1;
    }

-- the first date is in a later month, or in the same one on no earlier day
abbrev pub After : Date → Date → Type 0
After a b = (month_index b < month_index a) ⊎ ((month_index b ≡ month_index a) × (b.day ≤ a.day))

-- the test of the order over its three comparisons
order-tests : (later same day : Bool) → (later || (same && day)) ≡ true → (later ≡ true) ⊎ ((same ≡ true) × (day ≡ true))
order-tests true same day h = inl refl
order-tests false same day h = inr (and-true same day h)

pub on-or-after : (a b : Date) → on_or_after a b ≡ true → After a b
unfolding on_or_after
on-or-after a b h =
    ⊎_elim (λ l. inl (ltb-true _ _ l)) (λ e. inr (eqb-true _ _ e.0, leb-true _ _ e.1))
    (order-tests (ltb (month_index b) (month_index a)) (eqb (month_index b) (month_index a)) (leb b.day a.day) h)

module _ (a b : Date) where
  -- a later month
  pub later-month : month_index b < month_index a → on_or_after a b ≡ true
  unfolding on_or_after
  later-month h = simp (lt-ltb (month_index b) (month_index a) h)

  -- the same month: the days decide
  pub same-month : month_index b ≡ month_index a → on_or_after a b ≡ leb b.day a.day
  unfolding on_or_after
  same-month e = simp (le-ltb (month_index b) (month_index a) (omega arith), eq-eqb (month_index b) (month_index a) e)

  -- an earlier month
  pub earlier-month : month_index a < month_index b → on_or_after a b ≡ false
  unfolding on_or_after
  earlier-month h =
      simp (le-ltb (month_index b) (month_index a) (omega arith), ne_eqb (month_index b) (month_index a) (λ e. omega arith))

  pub after : After a b → on_or_after a b ≡ true
  after (inl h) = later-month h
  after (inr e) = same-month e.0 ∙ le-leb b.day a.day e.1

-- the order is transitive
pub after-trans : (a b c : Date) → After a b → After b c → After a c
after-trans a b c (inl h) (inl g) = inl (omega arith)
after-trans a b c (inl h) (inr g) = inl (omega arith)
after-trans a b c (inr h) (inl g) = inl (omega arith)
after-trans a b c (inr h) (inr g) = inr (omega arith, omega arith)

-- a date moved on m months is m months later
pub moved-index : (d : Date) (m : ℕ) → month_index (moved_on d m) ≡ month_index d + m
unfolding moved_on day_in
moved-index d m = omega arith

-- a later day of a month is moved to no earlier day
clip-mono : (l : ℕ) {x y : ℕ} → x ≤ y → cond (leb x l) x l ≤ cond (leb y l) y l
clip-mono l {x} {y} h = by (leb x l) (leb y l) refl refl
  where
    by : (p q : Bool) → leb x l ≡ p → leb y l ≡ q → cond p x l ≤ cond q y l
    by true true e f = h
    by true false e f = leb-true x l e
    by false true e f = omega (arith, leb-false x l e, leb-true y l f)
    by false false e f = omega arith

moved-days : (a b : Date) (m : ℕ) → month_index b ≡ month_index a → b.day ≤ a.day → (moved_on b m).day ≤ (moved_on a m).day
unfolding moved_on day_in
moved-days a b m e h = rw e (clip-mono _ h)

-- moving on keeps the order of dates
pub moved-on-mono : (a b : Date) (m : ℕ) → After a b → After (moved_on a m) (moved_on b m)
moved-on-mono a b m (inl h) = inl (omega (arith, moved-index a m, moved-index b m))
moved-on-mono a b m (inr e) = inr (omega (arith, moved-index a m, moved-index b m), moved-days a b m e.0 e.1)
