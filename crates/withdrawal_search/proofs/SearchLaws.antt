-- The ways out of the search. Assumes nothing.
use Prim.Native.Nat.{ℕ, suc, ◌+◌, ◌<◌, ◌≤◌}
use mathlib.Core.Path.{◌≡◌, sym, ◌∙◌}
use mathlib.Core.Bool.{cond}
use mathlib.Core.List.{List}
use native.Mathlib.Numerals.{add-one}
use native.Mathlib.Omega.{arith}
use lib.Dec.{ltb}
use lib.IntN.{ℤ}
use borrow.Author.Tests.{lt-ltb, le-ltb}
use Rattle.withdrawal.specs.Reached.{reached_tier}
use Rattle.withdrawal.specs.Inner.Levels.{FirstLevel}
use Rattle.withdrawal.proofs.HighestLaws.{level-tried}
use Rattle.withdrawal_search.specs.Search.{Searched}

-- the first level that is reached, with as many edges tried
module _ (count : ℕ) (edges : List ℕ) (gain : ℤ) (cost level tried : ℕ) (first : FirstLevel count edges gain cost level) where
  searched : tried ≡ cond (ltb level count) (suc level) count → Searched count edges gain cost (record { level = level; edges_tried = tried })
  unfolding reached_tier
  searched e =
      record {
        first = first;
        tried = e;
        tried-is = λ withdrawals otherwise falls. e ∙ sym (level-tried count edges gain cost level first withdrawals otherwise falls);
      }

  -- an edge is reached: it and those before it are tried
  pub search-ends : level < count → tried ≡ level + 1 → Searched count edges gain cost (record { level = level; edges_tried = tried })
  search-ends h e = searched (rw (lt-ltb level count h, ← (add-one level)) e)

  -- none is reached: all are tried
  pub search-fails : count ≤ level → tried ≡ level → Searched count edges gain cost (record { level = level; edges_tried = tried })
  search-fails h e = searched (rw (le-ltb level count h) (e ∙ omega (arith, h, first.within)))
