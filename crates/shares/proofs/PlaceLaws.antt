-- Laws of the thirty-six places: a place is one of its position's four, and four places more are filled. Assumes nothing.
use Prim.Native.Nat.{ℕ, ◌+◌, ◌*◌, ◌/◌, ◌%◌, ◌<◌}
use mathlib.Core.Bool.{cond}
use mathlib.Core.List.{List}
use mathlib.Core.Path.{◌≡◌, ap, ◌∙◌}
use native.Mathlib.Omega.{arith}
use lib.Dec.{eqb}
use lib.ListN.{get_or, set}
use Rattle.lists.proofs.FillLaws.{Filled, fill_more}
use Rattle.filing_cells.specs.ValidCells.{ValidCells}
use Rattle.form.specs.PlaceOrder.{position_of, with_penalty, sub_balance_count}
use Rattle.shares.specs.SubBalances.{balance_at, coupon_at, months_at, penalty_at}
use Rattle.shares.specs.declared.apportion.Row.{Row}
use Rattle.form.specs.declared.sub_balances.SubBalance.{SubBalance}
use Rattle.form.specs.Places.{no_place}
use Rattle.shares.specs.Places.{place_at}
use Rattle.shares.specs.Inner.ShareRows.{row_shares}
use Rattle.shares.specs.Inner.Rows.{row_at, row_place}
use Rattle.shares.proofs.RowLaws.{four-row}

-- place 4 × i + r has the r-th of its row's four, its row's coupon and remaining months, and the penalty of its column where it is subject to one
pub place_of : (cells : List ℕ) → ValidCells cells → (i : ℕ) → i < 9 → (row : Row) → row ≡ row_at cells i → (four : List ℕ) → four ≡ row_shares row
    → (r place : ℕ) → place ≡ 4 * i + r → r < 4 → row_place row (get_or four r 0) (cond (eqb (r % 2) 0) row.penalty 0) ≡ place_at cells place
unfolding place_at balance_at coupon_at months_at penalty_at with_penalty position_of row_at
place_of cells v i h row is four are r place e small =
    let q : place / 4 ≡ i = omega arith in
    let s : place % 4 ≡ r = omega arith in
    let p : place % 2 ≡ r % 2 = omega arith in
    let shares = are ∙ ap row_shares is ∙ four-row cells v i h in
    rw (q, s, p, shares, is)

-- one place more is filled
pub fill-place : (cells : List ℕ) (i more : ℕ) (l : List SubBalance) (p : SubBalance) → more ≡ i + 1 → i < sub_balance_count → p ≡ place_at cells i
    → Filled (place_at cells) no_place sub_balance_count i l → Filled (place_at cells) no_place sub_balance_count more (set l i p)
fill-place cells i more l p e h is filled = rw e (fill_more (place_at cells) no_place sub_balance_count i l p h is filled)
