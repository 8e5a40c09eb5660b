-- An implied forward (02:CR 10), by comparing powers of whole numbers. Definitions only.
-- A rate of f hundredths of a percent a year makes 120,000 + f of 120,000 in a month: its growth. 1 / df of month t (01:58) is the t-th power of the growth of that
-- month's shifted CD yield over the t-th power of 120,000.
use Rattle.std.specs.Prelude.{ℕ, suc, ◌+◌, ◌*◌, ◌-◌, ◌^◌, ◌≤◌, ◌<◌, List, [], ◌∷◌, ℤ, pos, negsuc, get_or}
use Rattle.pricing.specs.Scales.{rate_scale}

-- the terms, months, and the one at an index, from 0
abbrev pub terms : List ℕ
terms = 6 ∷ 24 ∷ 48 ∷ []

unfoldable pub term_at : ℕ → ℕ
term_at i = get_or terms i 48

-- a forward: the growths of the yields of its month and of the month a term later, the month, from 0, and the term, months
pub record Forward : Type 0 where
  pub near : ℕ
  pub far : ℕ
  pub month : ℕ
  pub term : ℕ

-- what a growth over the term makes of the month's accumulated yield, and the later month's accumulated yield: both over 120,000^(month + term)
abbrev pub grown_by : Forward → ℕ → ℕ
grown_by k growth = growth ^ k.term * k.near ^ k.month

abbrev pub accumulated : Forward → ℕ
accumulated k = k.far ^ (k.month + k.term)

-- a growth is at most, and at least, that of the true rate
unfoldable pub AtMost : Forward → ℕ → Type 0
AtMost k growth = grown_by k growth ≤ accumulated k

unfoldable pub AtLeast : Forward → ℕ → Type 0
AtLeast k growth = accumulated k ≤ grown_by k growth

-- the growth of a rate, which may be negative: 0 of one that is not above -120,000
unfoldable pub growth_of : ℤ → ℕ
growth_of (pos f) = rate_scale + f
growth_of (negsuc f) = rate_scale - suc f

-- the highest growth of a forward that is answered: a rate of 70,488
abbrev pub growth_limit : ℕ
growth_limit = 190488

-- two growths, the lower first: which of the pairs that meet this is left free
pub record Enclosing (k : Forward) (lower upper : ℕ) : Type 0 where
  -- of rates above -120,000
  pub lower-above : 0 < lower
  pub upper-above : 0 < upper
  -- lower is at most the true rate's, upper at least
  pub lower-at-most : AtMost k lower
  pub upper-at-least : AtLeast k upper
  pub two-apart : upper ≤ lower + 2
  -- and none is above 70,488
  pub upper-limit : upper ≤ growth_limit

-- a lower and an upper forward, hundredths of a percent a year
abbrev pub ForwardPair : Forward → ℤ → ℤ → Type 0
ForwardPair k lower upper = Enclosing k (growth_of lower) (growth_of upper)
