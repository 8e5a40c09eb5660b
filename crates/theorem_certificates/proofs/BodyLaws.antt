-- The bodies of a made filing: their lengths and the numbers that they hold, and how they follow each other. Assumes nothing.
use Prim.Native.Nat.{ℕ, zero, suc, ◌+◌, ◌*◌, ◌^◌, ◌<◌}
use native.Mathlib.Nat.{not-suc-le-zero, le_of_suc-le-suc, add-zero}
use native.Mathlib.Omega.{arith}
use mathlib.Core.Path.{◌≡◌, refl, sym, ap, ◌∙◌}
use mathlib.Core.List.{List, [], ◌∷◌, ◌++◌, map}
use lib.ListN.{length, get_or, length-append}
use Rattle.lists.specs.Tables.{table_from, joined}
use Rattle.record_fields.specs.Bytes.{number_at}
use Rattle.certificate_cells.specs.declared.filled_cells.CellValue.{CellValue}
use Rattle.theorem_certificates.specs.Filed.{bytes, cell_body, sheet_body}
use Rattle.theorem_certificates.proofs.ByteLaws.{number_behind, bytes-length, number-bytes, number-first}

-- behind a number of n bytes
behind-number : (n x i k : ℕ) (q : List ℕ) → number_at (bytes n x ++ q) (n + i) k ≡ number_at q i k
behind-number n x i k q =
    ap (λ (m : ℕ). number_at (bytes n x ++ q) (m + i) k) (sym (bytes-length n x)) ∙ number_behind (bytes n x) q i k

-- a cell's body: kind, cell and value
module _ (c : CellValue) where
  -- 2 bytes of the kind, 2 of the cell, 8 of the value
  pub cell-body-length : length (cell_body c) ≡ 12
  unfolding cell_body
  cell-body-length =
      omega (
        arith,
        length-append (bytes 2 1) (bytes 2 c.cell ++ bytes 8 c.value),
        length-append (bytes 2 c.cell) (bytes 8 c.value),
        bytes-length 2 1,
        bytes-length 2 c.cell,
        bytes-length 8 c.value,
      )

  pub cell-body-kind : number_at (cell_body c) 0 2 ≡ 1
  unfolding cell_body
  cell-body-kind = number-first 2 1 (bytes 2 c.cell ++ bytes 8 c.value) (omega arith)

  pub cell-body-cell : c.cell < 256 ^ 2 → number_at (cell_body c) 2 2 ≡ c.cell
  unfolding cell_body
  cell-body-cell h = behind-number 2 1 0 2 (bytes 2 c.cell ++ bytes 8 c.value) ∙ number-first 2 c.cell (bytes 8 c.value) h

  pub cell-body-value : c.value < 256 ^ 8 → number_at (cell_body c) 4 8 ≡ c.value
  unfolding cell_body
  cell-body-value h =
      behind-number 2 1 2 8 (bytes 2 c.cell ++ bytes 8 c.value)
      ∙ behind-number 2 c.cell 0 8 (bytes 8 c.value)
      ∙ number-bytes 8 c.value h

-- a sheet's body: kind and numbers
module _ (f : ℕ → ℕ) where
  abbrev numbers_from : ℕ → ℕ → List ℕ
  numbers_from m n = joined (table_from m n (λ (i : ℕ). bytes 2 (f i)))

  numbers-length : (m n : ℕ) → length (numbers_from m n) ≡ 2 * n
  unfolding joined table_from
  numbers-length m zero = refl
  numbers-length m (suc n) =
      omega (arith, length-append (bytes 2 (f m)) (numbers_from (suc m) n), bytes-length 2 (f m), numbers-length (suc m) n)

  -- the first number is read off the first two bytes; number j + 1 is number j of those behind them
  numbers-at : (m n j : ℕ) → j < n → f (m + j) < 256 ^ 2 → number_at (numbers_from m n) (2 * j) 2 ≡ f (m + j)
  unfolding joined table_from
  numbers-at m zero j l h = absurd (not-suc-le-zero l)
  numbers-at m (suc n) zero l h =
      let e : m + 0 ≡ m = add-zero m in
      rw e (number-first 2 (f m) (numbers_from (suc m) n) (rw e at h))
  numbers-at m (suc n) (suc j) l h =
      let index : 2 * suc j ≡ 2 + 2 * j = omega arith in
      let e : m + suc j ≡ suc m + j = omega arith in
      rw (index, e) (behind-number 2 (f m) (2 * j) 2 (numbers_from (suc m) n) ∙ numbers-at (suc m) n j (le_of_suc-le-suc l) (rw e at h))

  module _ (kind n : ℕ) where
    pub sheet-body-length : length (sheet_body kind n f) ≡ 2 + 2 * n
    unfolding sheet_body
    sheet-body-length = omega (arith, length-append (bytes 2 kind) (numbers_from 1 n), bytes-length 2 kind, numbers-length 1 n)

    pub sheet-body-kind : kind < 256 ^ 2 → number_at (sheet_body kind n f) 0 2 ≡ kind
    unfolding sheet_body
    sheet-body-kind h = number-first 2 kind (numbers_from 1 n) h

    pub sheet-body-number : (j : ℕ) → j < n → f (suc j) < 256 ^ 2 → number_at (sheet_body kind n f) (2 + 2 * j) 2 ≡ f (suc j)
    unfolding sheet_body
    sheet-body-number j l h =
        let e : 1 + j ≡ suc j = omega arith in
        behind-number 2 kind (2 * j) 2 (numbers_from 1 n) ∙ rw e at (numbers-at 1 n j l (rw e h))

-- the bodies in their order
module _ (d : CellValue) (y r : List ℕ) where
  pub bodies-cell : (cells : List CellValue) (i : ℕ) → i < length cells → get_or (map cell_body cells ++ (y ∷ r ∷ [])) i [] ≡ cell_body (get_or cells i d)
  bodies-cell [] i h = absurd (not-suc-le-zero h)
  bodies-cell (c ∷ cs) zero h = refl
  bodies-cell (c ∷ cs) (suc i) h = bodies-cell cs i (le_of_suc-le-suc h)

module _ (y r : List ℕ) where
  pub bodies-yields : (cells : List CellValue) → get_or (map cell_body cells ++ (y ∷ r ∷ [])) (length cells) [] ≡ y
  bodies-yields [] = refl
  bodies-yields (c ∷ cs) = bodies-yields cs

  pub bodies-rates : (cells : List CellValue) → get_or (map cell_body cells ++ (y ∷ r ∷ [])) (suc (length cells)) [] ≡ r
  bodies-rates [] = refl
  bodies-rates (c ∷ cs) = bodies-rates cs

  pub bodies-length : (cells : List CellValue) → length (map cell_body cells ++ (y ∷ r ∷ [])) ≡ length cells + 2
  bodies-length [] = refl
  bodies-length (c ∷ cs) = omega (arith, bodies-length cs)
