-- An amount split over parts so that the shares add up (01:44): each share is the difference of two cumulative shares. Definitions only.
use Rattle.std.specs.Prelude.{ℕ, ◌+◌, ◌*◌, ◌-◌, ◌/◌, List, [], ◌∷◌}
use Rattle.lists.specs.Sums.{sum}

-- floor(amount × running / total): the share of the parts so far, whose sum is `running` (S_i of 01:44). It is 0 where the total is 0, as a quotient by 0 is
unfoldable pub cumulative_share : ℕ → ℕ → ℕ → ℕ
cumulative_share amount total running = amount * running / total

-- the share of a part that stands behind a sum of `before`
abbrev pub share_behind : ℕ → ℕ → ℕ → ℕ → ℕ
share_behind amount total before part = cumulative_share amount total (before + part) - cumulative_share amount total before

-- the shares of the parts, the first of which stands behind a sum of `before`
unfoldable pub shares_from : ℕ → ℕ → ℕ → List ℕ → List ℕ
shares_from amount total before [] = []
shares_from amount total before (x ∷ xs) = share_behind amount total before x ∷ shares_from amount total (before + x) xs

-- the amount split over the parts, in their unit
unfoldable pub apportion : ℕ → List ℕ → List ℕ
apportion amount parts = shares_from amount (sum parts) 0 parts
