-- `withdrawal_filing::tiers_of` meets its contract. Assumes nothing.
use Prim.Native.Nat.{ℕ, ◌-◌, ◌≤◌}
use mathlib.Core.List.{List}
use mathlib.Core.Path.{◌≡◌, refl, sym, ◌∙◌}
use borrow.Author.Tests.{eq-eqb, ne_eqb}
use lib.ListN.{get_or}
use Rattle.lists.specs.Tables.{table}
use Rattle.form.specs.Limits.{edge_limit, withdrawal_limit}
use Rattle.withdrawal.specs.Inner.TierArrays.{tier_array, TiersFit}
use Rattle.withdrawal.proofs.HeldLaws.{padded-le, padded-table, padded-usable}
use Rattle.filing_contents.specs.declared.FiledTiers.{FiledTiers}
use Rattle.withdrawal_filing.specs.FilingTiers.{own_tiers, tiers_of}
use Rattle.withdrawal_filing.specs.Inner.FiledLimits.{FiledLimits}
use Rattle.withdrawal_filing.proofs.FilingTierLaws.{own-falling}
use Rattle.withdrawal_filing.proofs.tiers_of.Goals as goal

-- the tiers of an accepted filing fit
fit : (filed : FiledTiers) → FiledLimits filed → (edges withdrawals : List ℕ) (lowest : ℕ)
    → ((i : ℕ) → get_or edges i 0 ≤ edge_limit)
    → withdrawals ≡ tier_array (table filed.count (λ (i : ℕ). get_or filed.withdrawals (filed.count - 1 - i) 0))
    → lowest ≡ get_or filed.withdrawals 0 0
    → TiersFit filed.count edges withdrawals lowest
fit filed limits edges withdrawals lowest e w l =
    record {
      edges_fit = record { count-le = limits.count-le; edge-le = e };
      withdrawal-le = λ i. rw w (padded-le filed.count _ withdrawal_limit (λ j. limits.withdrawal-le (filed.count - 1 - j)) i);
      otherwise-le = rw l (limits.withdrawal-le 0);
    }

pub returns-then-count-eq0 : goal.returns-then-count-eq0
unfolding tiers_of
returns-then-count-eq0 c = (c.house.ensures.0 ∙ sym (simp (eq-eqb _ 0 c.if-count-eq0.true)), c.house.ensures.1)

pub with_survivals-requires : goal.with_survivals-requires
with_survivals-requires c =
    fit c.args.filed c.requires _ _ _ c.from_the_top-edges.ensures.1 c.from_the_top-withdrawals.ensures.0 c.from-lowest.ensures

-- the filing has tiers: edges and withdrawals are turned round, highest first, and padded with 0s, which as a table are its own tiers;
-- within their limits, and falling from the top as they rose, they are usable
pub returns : goal.returns
unfolding tiers_of own_tiers
returns c =
    let filed = c.args.filed in
    let count = filed.count in
    rw (c.with_survivals.ensures, c.from_the_top-edges.ensures.0, c.from_the_top-withdrawals.ensures.0, c.from-lowest.ensures, ne_eqb _ 0 c.if-count-eq0.false) (
      padded-table count (get_or filed.withdrawals 0 0) (λ (i : ℕ). get_or filed.edges (count - 1 - i) 0) (λ (i : ℕ). get_or filed.withdrawals (count - 1 - i) 0),
      padded-usable count (get_or filed.withdrawals 0 0) (λ (i : ℕ). get_or filed.edges (count - 1 - i) 0) (λ (i : ℕ). get_or filed.withdrawals (count - 1 - i) 0)
          (fit filed c.requires _ _ _ (rw c.from_the_top-edges.ensures.0 at c.from_the_top-edges.ensures.1) refl refl)
          (own-falling filed c.requires),
    )
