-- `factors::fill_long` meets its contract: the months passed are written. Assumes nothing.
use lib.ListN.{replicate}
use Rattle.pricing.specs.Rounding.{down, up}
use Rattle.intangible_numbers.specs.Inner.Limits.{long_factor_count}
use Rattle.intangible_numbers.proofs.FactorLaws.{Written}
use Rattle.intangible_numbers.proofs.factors.fill_long.Given as goal

abbrev pub invariant-loop-month : goal.invariant-loop-month
invariant-loop-month l =
    Written down l.yields l.long l.month (replicate long_factor_count 0) l.factors.lower × Written up l.yields l.long l.month (replicate long_factor_count 0) l.factors.upper
