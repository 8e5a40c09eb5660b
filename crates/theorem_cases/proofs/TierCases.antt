-- Closed cases of the tier that a gain and a cost reach and of the edges tried (01:50; 02:CR 1 and 2), for the house and for tiers of a filing's own: each edge
-- of the house and the gain before it, a negative gain, no cost, no gain. Each is computed. Assumes nothing.
use Prim.Native.Nat.{ℕ, ◌*◌}
use mathlib.Core.Path.{◌≡◌, refl}
use mathlib.Core.List.{List, [], ◌∷◌, ◌++◌, map}
use lib.IntN.{ℤ, pos, neg_ℤ}
use lib.ListN.{length}
use Rattle.lists.specs.Tables.{table_from}
use Rattle.withdrawal.specs.Gain.{at_most}
use Rattle.withdrawal.specs.Tiers.{TierTable, tier, house_tiers, reached, first_reached, annual_withdrawal, some_reached, highest_reached, edges_above, edge_count_tried}
use Rattle.withdrawal_filing.specs.FilingTiers.{own_tiers, tiers_of}

-- tiers as a filing carries them, each an edge and a withdrawal, lowest edge first
abbrev carried : List (ℕ × ℕ) → TierTable
carried xs =
    tiers_of
    (record {
      count = length xs;
      edges = map (λ (x : ℕ × ℕ). x.0) xs;
      withdrawals = map (λ (x : ℕ × ℕ). x.1) xs;
    })

-- the tiers, a gain and a cost; the annual withdrawal and the edges tried
record Case : Type 0 where
  tiers : TierTable
  gain : ℤ
  cost : ℕ
  answer : ℕ × ℕ

abbrev gives : TierTable → ℤ → ℕ → ℕ × ℕ → Case
gives tiers gain cost answer = record { tiers = tiers; gain = gain; cost = cost; answer = answer }

-- the house's tiers: each edge and the gain just short of it, no gain, a negative one, no cost
abbrev house-cases : List Case
house-cases =
    gives (carried []) (pos 601451409300) 400967606200 (550, 1)
    ∷ gives (carried []) (pos 993892356149) 662594904100 (460, 2)
    ∷ gives (carried []) (pos 8211658691730) 6316660532100 (460, 2)
    ∷ gives (carried []) (pos 129) 100 (320, 3)
    ∷ gives (carried []) (pos 6935349110090) 6030738356600 (320, 3)
    ∷ gives (carried []) (pos 114) 100 (130, 4)
    ∷ gives (carried []) (pos 877839266100) 877839266100 (130, 4)
    ∷ gives (carried []) (pos 7321798398699) 7321798398700 (75, 5)
    ∷ gives (carried []) (pos 6189693310400) 7737116638000 (75, 5)
    ∷ gives (carried []) (pos 79) 100 (50, 6)
    ∷ gives (carried []) (pos 2203370197550) 4406740395100 (50, 6)
    ∷ gives (carried []) (pos 4217639751099) 8435279502200 (40, 6)
    ∷ gives (carried []) (pos 0) 1 (40, 6)
    ∷ gives (carried []) (neg_ℤ (pos 1)) 1 (40, 6)
    ∷ gives (carried []) (pos 0) 0 (550, 1)
    ∷ []

-- tiers of a filing's own: one, three, four and sixteen of them
abbrev own-cases : List Case
own-cases =
    gives (carried ((0, 40) ∷ [])) (pos 0) 9114549078700 (40, 1)
    ∷ gives (carried ((0, 600) ∷ [])) (neg_ℤ (pos 1)) 4652189969600 (600, 1)
    ∷ gives (carried ((0, 387) ∷ (2, 599) ∷ (15, 600) ∷ [])) (pos 1) 9812155968300 (387, 3)
    ∷ gives (carried ((0, 387) ∷ (2, 599) ∷ (15, 600) ∷ [])) (neg_ℤ (pos 1)) 9812155968300 (387, 3)
    ∷ gives (carried ((0, 19) ∷ (82, 600) ∷ (177, 600) ∷ [])) (pos 488612606930) 276052320300 (600, 2)
    ∷ gives (carried ((0, 0) ∷ (2874, 40) ∷ (31698, 40) ∷ (47839, 600) ∷ [])) (pos 3161690149368385) 9974415260800 (40, 2)
    ∷ gives (carried ((0, 40) ∷ (7, 599) ∷ (136, 600) ∷ [])) (pos 8213400000000) 0 (600, 1)
    ∷ gives (carried (table_from 0 16 (λ (i : ℕ). (10 * i, 10 * i)))) (pos 15) 10 (150, 1)
    ∷ gives (carried (table_from 0 16 (λ (i : ℕ). (10 * i, 10 * i)))) (pos 0) 10 (0, 16)
    ∷ []

abbrev cases : List Case
cases = house-cases ++ own-cases

-- every case holds
tiers-hold : map (λ (c : Case). (annual_withdrawal c.tiers c.gain c.cost, edge_count_tried c.tiers c.gain c.cost)) cases
    ≡ map (λ (c : Case). c.answer) cases
unfolding at_most tier house_tiers reached first_reached annual_withdrawal some_reached highest_reached edges_above edge_count_tried own_tiers tiers_of table_from
tiers-hold = refl
