-- What a day of the years 1900 to 2199 is, number by number. Definitions only.
use Rattle.std.specs.Prelude.{◌≤◌}
use Rattle.certificate_calendar.specs.declared.Date.{Date}
use Rattle.certificate_calendar.specs.Dates.{last_day}

pub record Day (d : Date) : Type 0 where
  pub from-1900 : 1900 ≤ d.year
  pub to-2199 : d.year ≤ 2199
  pub from-january : 1 ≤ d.month
  pub to-december : d.month ≤ 12
  pub from-the-first : 1 ≤ d.day
  pub to-the-last : d.day ≤ last_day d.year d.month
