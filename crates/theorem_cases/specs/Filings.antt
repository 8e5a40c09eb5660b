-- Filings written byte by byte, for closed cases: the records of cells and sheets, and a filing with the verdict on it.
-- Definitions only.
use Rattle.std.specs.Prelude.{ℕ, zero, suc, ◌+◌, ◌*◌, ◌%◌, ◌/◌, List, [], ◌∷◌, ◌++◌, length}
use Rattle.lists.specs.Tables.{table_from, joined}
use Rattle.answers.specs.Verdict.{Verdict}

-- n bytes of a number, the least first
abbrev pub bytes : ℕ → ℕ → List ℕ
bytes zero x = []
bytes (suc n) x = (x % 256) ∷ bytes n (x / 256)

-- the records of cells, each with its value
abbrev pub filed : List (ℕ × ℕ) → List ℕ
filed [] = []
filed (c ∷ cs) = bytes 2 12 ++ bytes 2 1 ++ bytes 2 c.0 ++ bytes 8 c.1 ++ filed cs

-- the records of coupons in thousandths, each with its value
abbrev pub fined : List (ℕ × ℕ) → List ℕ
fined [] = []
fined (c ∷ cs) = bytes 2 12 ++ bytes 2 6 ++ bytes 2 c.0 ++ bytes 8 c.1 ++ fined cs

-- an amendment of a cell: its number, its state and its value
abbrev pub amendment : ℕ → ℕ → ℕ → ℕ → List ℕ
amendment n number state value = bytes 2 16 ++ bytes 2 7 ++ bytes 2 n ++ bytes 2 number ++ bytes 2 state ++ bytes 8 value

-- the sheets by month, of CD yields and of LIBOR yields (02:CR 8), with the rate of a month
abbrev month_sheet : ℕ → (ℕ → ℕ) → List ℕ
month_sheet kind rate = bytes 2 242 ++ bytes 2 kind ++ joined (table_from 1 120 (λ (t : ℕ). bytes 2 (rate t)))

abbrev pub yield_sheet : (ℕ → ℕ) → List ℕ
yield_sheet rate = month_sheet 2 rate

abbrev pub libor_sheet : (ℕ → ℕ) → List ℕ
libor_sheet rate = month_sheet 8 rate

-- the flat retail rates, with the rate of a column
abbrev pub rate_sheet : (ℕ → ℕ) → List ℕ
rate_sheet rate = bytes 2 8 ++ bytes 2 3 ++ joined (table_from 1 3 (λ (j : ℕ). bytes 2 (rate j)))

-- the sheet of retail rates by month, with the rate of each of the 360 entries
abbrev pub path_sheet : (ℕ → ℕ) → List ℕ
path_sheet rate = bytes 2 722 ++ bytes 2 5 ++ joined (table_from 0 360 (λ (i : ℕ). bytes 2 (rate i)))

-- a record of tiers, each an edge and a withdrawal
abbrev pairs : List (ℕ × ℕ) → List ℕ
pairs [] = []
pairs (x ∷ xs) = bytes 2 x.0 ++ bytes 2 x.1 ++ pairs xs

abbrev pub tier_sheet : List (ℕ × ℕ) → List ℕ
tier_sheet xs = bytes 2 (4 + 4 * length xs) ++ bytes 2 4 ++ bytes 2 (length xs) ++ pairs xs

-- a filing of cells with both sheets, which take 254 bytes
abbrev pub complete : List (ℕ × ℕ) → List ℕ
complete cells = yield_sheet (λ (t : ℕ). 10 * t) ++ rate_sheet (λ (j : ℕ). 100 * j) ++ filed cells

-- a filing of cells with these sheets and a LIBOR sheet behind them (02:CR 8)
abbrev pub with_libor : List (ℕ × ℕ) → List ℕ
with_libor cells = filed cells ++ rate_sheet (λ (j : ℕ). 100 * j) ++ yield_sheet (λ (t : ℕ). 10 * t) ++ libor_sheet (λ (t : ℕ). 20 * t)

-- a filing and the verdict on it
pub record Case : Type 0 where
  pub input : List ℕ
  pub verdict : Verdict

abbrev pub gives : List ℕ → Verdict → Case
gives s v = record { input = s; verdict = v }
