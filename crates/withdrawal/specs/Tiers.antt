-- Annual withdrawals of retail deposits by the ratio of gain to cost (01:50; the paper's "ladder" and "rungs"). Definitions only.
-- Edges are in hundredths, annual withdrawals in thousandths.
use Rattle.std.specs.Prelude.{ℕ, suc, ◌+◌, ◌*◌, ◌≤◌, ◌<◌, max, ◌≡◌, Bool, true, false, cond, ◌||◌, List, [], ◌∷◌, ltb, ℤ, pos, ◌*ℤ◌, length, get_or}
use Rattle.withdrawal.specs.Gain.{at_most}

-- an edge, and the annual withdrawal from there on
pub record WithdrawalTier : Type 0 where
  pub edge : ℕ
  pub withdrawal : ℕ

-- tiers, highest edge first, and the withdrawal where no edge is reached
pub record TierTable : Type 0 where
  pub tiers : List WithdrawalTier
  pub otherwise : ℕ

unfoldable pub tier : ℕ → ℕ → WithdrawalTier
tier edge withdrawal = record { edge = edge; withdrawal = withdrawal }

unfoldable pub house_tiers : TierTable
house_tiers =
    record {
      tiers = tier 150 550 ∷ tier 130 460 ∷ tier 115 320 ∷ tier 100 130 ∷ tier 80 75 ∷ tier 50 50 ∷ [];
      otherwise = 40;
    }

-- an edge is reached: 100 × gain ≥ edge × cost
unfoldable pub reached : ℤ → ℕ → ℕ → Bool
reached gain cost edge = at_most (edge * cost) (pos 100 *ℤ gain)

-- the withdrawal of the first tier that is reached
unfoldable pub first_reached : ℤ → ℕ → ℕ → List WithdrawalTier → ℕ
first_reached gain cost otherwise [] = otherwise
first_reached gain cost otherwise (x ∷ xs) = cond (reached gain cost x.edge) x.withdrawal (first_reached gain cost otherwise xs)

-- the annual withdrawal for a gain and a cost
unfoldable pub annual_withdrawal : TierTable → ℤ → ℕ → ℕ
annual_withdrawal table gain cost = first_reached gain cost table.otherwise table.tiers

-- every edge is below this one
abbrev pub Below : ℕ → List WithdrawalTier → Type 0
Below edge [] = Unit {0}
Below edge (x ∷ xs) = (x.edge < edge) × Below edge xs

-- each edge is above those after it
abbrev pub Falling : List WithdrawalTier → Type 0
Falling [] = Unit {0}
Falling (x ∷ xs) = Below x.edge xs × Falling xs

-- the tier at an index is the one of document 01 (01:50): the highest whose edge k has 100 × gain ≥ k × cost
abbrev pub edge_at : List WithdrawalTier → ℕ → ℕ
edge_at xs i = (get_or xs i (tier 0 0)).edge

pub record Highest (gain : ℤ) (cost : ℕ) (xs : List WithdrawalTier) (i : ℕ) : Type 0 where
  pub among : i < length xs
  pub is-reached : reached gain cost (edge_at xs i) ≡ true
  pub none-higher : (j : ℕ) → j < length xs → reached gain cost (edge_at xs j) ≡ true → edge_at xs j ≤ edge_at xs i

-- one of the edges is reached
unfoldable pub some_reached : ℤ → ℕ → List WithdrawalTier → Bool
some_reached gain cost [] = false
some_reached gain cost (x ∷ xs) = reached gain cost x.edge || some_reached gain cost xs

-- the highest edge that is reached; 0 where none is
unfoldable pub highest_reached : ℤ → ℕ → List WithdrawalTier → ℕ
highest_reached gain cost [] = 0
highest_reached gain cost (x ∷ xs) = max (cond (reached gain cost x.edge) x.edge 0) (highest_reached gain cost xs)

-- how many edges are above this one
unfoldable pub edges_above : ℕ → List WithdrawalTier → ℕ
edges_above edge [] = 0
edges_above edge (x ∷ xs) = cond (ltb edge x.edge) 1 0 + edges_above edge xs

-- how many edges are tried (02:CR 2): one more than the edges above the highest that is reached, or all where none is
unfoldable pub edge_count_tried : TierTable → ℤ → ℕ → ℕ
edge_count_tried table gain cost =
    cond (some_reached gain cost table.tiers) (suc (edges_above (highest_reached gain cost table.tiers) table.tiers))
    (length table.tiers)
