-- The position of a certificate by its remaining and original months: each has one, by a test over all remaining months. Assumes nothing.
use Prim.Native.Nat.{ℕ, ◌+◌, ◌-◌, ◌≤◌, ◌<◌}
use native.Mathlib.Omega.{arith}
use mathlib.Core.Path.{◌≡◌}
use mathlib.Core.Logic.{⊎_elim}
use borrow.Author.Tests.{le-leb, lt-leb}
use lib.Dec.{T, eqb, eqb→eq}
use Rattle.lists.proofs.TestLaws.{all_from, all-at}
use Rattle.form.specs.Cells.{position, positions, position_at, within_row}
use Rattle.lists.specs.Ranges.{first_from}
use Rattle.certificate_terms.specs.Terms.{column_of, position_for}
use Rattle.lists.proofs.OrderLaws.{lt-or-le}

-- the three columns
pub column-one : (m : ℕ) → m ≤ 12 → column_of m ≡ 1
unfolding column_of
column-one m h = simp (le-leb m 12 h)

pub column-two : (m : ℕ) → 12 < m → m ≤ 36 → column_of m ≡ 2
unfolding column_of
column-two m l u = simp (lt-leb m 12 l, le-leb m 36 u)

pub column-three : (m : ℕ) → 36 < m → column_of m ≡ 3
unfolding column_of
column-three m l = simp (lt-leb m 12 (omega arith), lt-leb m 36 l)

-- a column is one of 1 to 3; from 13 months on not the first, from 37 on the third
pub record Column (m j : ℕ) : Type 0 where
  pub least : 1 ≤ j
  pub most : j ≤ 3
  pub second : 12 < m → 2 ≤ j
  pub third : 36 < m → 3 ≤ j

-- of up to 12 months it is column 1, above them and up to 36 column 2, above 36 column 3, and each is a column as its months ask
pub column-is : (m : ℕ) → Column m (column_of m)
column-is m = ⊎_elim (λ l. ⊎_elim long middle (lt-or-le 36 m)) short (lt-or-le 12 m)
  where
    short : m ≤ 12 → Column m (column_of m)
    short h = rw (column-one m h) (record { least = omega arith; most = omega arith; second = λ l. omega arith; third = λ l. omega arith })

    middle : m ≤ 36 → Column m (column_of m)
    middle h =
        ⊎_elim
        (λ l. rw (column-two m l h) (record { least = omega arith; most = omega arith; second = λ k. omega arith; third = λ k. omega arith })) short
        (lt-or-le 12 m)

    long : 36 < m → Column m (column_of m)
    long h = rw (column-three m h) (record { least = omega arith; most = omega arith; second = λ l. omega arith; third = λ l. omega arith })

-- the positions of a row of n months from `least` on, of the columns from `first` on
row-indices : (least n first columns : ℕ) (index : ℕ → ℕ)
    → T (all_from least n (λ (m : ℕ). all_from first columns (λ (j : ℕ). eqb (position_for m j) (index j))))
    → (m j : ℕ) → least ≤ m → m < least + n → first ≤ j → j < first + columns
    → position_for m j ≡ index j
row-indices least n first columns index t m j l u l' u' =
    eqb→eq (position_for m j) (index j)
    (all-at first columns (λ (i : ℕ). eqb (position_for m i) (index i))
    (all-at least n (λ (k : ℕ). all_from first columns (λ (i : ℕ). eqb (position_for k i) (index i))) t m l u) j l' u')

-- the rows of 1 to 3, 4 to 12, 13 to 36 and 37 to 120 remaining months
module _ (m j : ℕ) where
  pub row_one : 1 ≤ m → m ≤ 3 → 1 ≤ j → j ≤ 3 → position_for m j ≡ j - 1
  unfolding all_from position_for first_from within_row positions position_at position
  row_one l u l' u' = row-indices 1 3 1 3 (λ (i : ℕ). i - 1) tt m j l (omega arith) l' (omega arith)

  pub row-two : 3 < m → m ≤ 12 → 1 ≤ j → j ≤ 3 → position_for m j ≡ j + 2
  unfolding all_from position_for first_from within_row positions position_at position
  row-two l u l' u' = row-indices 4 9 1 3 (λ (i : ℕ). i + 2) tt m j (omega arith) (omega arith) l' (omega arith)

  pub row-three : 12 < m → m ≤ 36 → 2 ≤ j → j ≤ 3 → position_for m j ≡ j + 4
  unfolding all_from position_for first_from within_row positions position_at position
  row-three l u l' u' = row-indices 13 24 2 2 (λ (i : ℕ). i + 4) tt m j (omega arith) (omega arith) l' (omega arith)

  pub row-four : 36 < m → m ≤ 120 → 3 ≤ j → j ≤ 3 → position_for m j ≡ j + 5
  unfolding all_from position_for first_from within_row positions position_at position
  row-four l u l' u' = row-indices 37 84 3 1 (λ (i : ℕ). i + 5) tt m j (omega arith) (omega arith) l' (omega arith)

-- remaining months of 1 to 120 that are at most the original ones have a position: as the original months are no fewer, above 12 the
-- column is 2 or 3 and above 36 it is 3, so that in each of the four rows the column is one that the row has
pub position-lt : (m o : ℕ) → 1 ≤ m → m ≤ 120 → m ≤ o → position_for m (column_of o) < 9
position-lt m o l u h =
    ⊎_elim (λ a. ⊎_elim (λ b. ⊎_elim four three (lt-or-le 36 m)) two (lt-or-le 12 m)) one (lt-or-le 3 m)
  where
    one : m ≤ 3 → position_for m (column_of o) < 9
    one a = let k = column-is o in omega (arith, k.most, row_one m (column_of o) l a k.least k.most)

    two : m ≤ 12 → position_for m (column_of o) < 9
    two b =
        let k = column-is o in
        ⊎_elim (λ a. omega (arith, k.most, row-two m (column_of o) a b k.least k.most)) one (lt-or-le 3 m)

    three : m ≤ 36 → position_for m (column_of o) < 9
    three b =
        let k = column-is o in
        ⊎_elim (λ a. omega (arith, k.most, row-three m (column_of o) a b (k.second (omega arith)) k.most)) two (lt-or-le 12 m)

    four : 36 < m → position_for m (column_of o) < 9
    four a = let k = column-is o in omega (arith, k.most, row-four m (column_of o) a u (k.third (omega arith)) k.most)
