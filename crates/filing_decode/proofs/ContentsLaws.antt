-- What the noted offsets of all records give is what the filing says.
-- Assumes nothing.
use Rattle.std.specs.Prelude.{Some}
use Prim.Native.Nat.{ℕ, ◌+◌, ◌-◌, ◌/◌, ◌≤◌, ◌<◌}
use native.Mathlib.Nat.{add_comm}
use native.Mathlib.Omega.{arith}
use mathlib.Core.Path.{◌≡◌, refl, sym, ap, ◌∙◌}
use mathlib.Core.Bool.{Bool, true, false, cond}
use mathlib.Core.List.{List, ◌++◌}
use borrow.Author.Tests.{ltb-false, lt-ltb, le-ltb}
use lib.Dec.{ltb, lit≤}
use lib.ListN.{length, get_or, take, drop, length-drop}
use lib.Seq.{ext_get_or, length-take-le}
use Rattle.lists.specs.Runs.{written}
use Rattle.lists.specs.Tables.{table, table_from}
use Rattle.lists.proofs.TableLaws.{table_from-get_or, table-get_or, table-length, table-ext}
use Rattle.lists.proofs.RunLaws.{written_back, part-written, part-before}
use Rattle.form.specs.Cells.{first_cell, cell_count}
use Rattle.form.specs.Limits.{sheet_months, rate_count, yields_start, rates_start, libor_start, sheet_number_count}
use Rattle.record_kinds.specs.declared.items.Item.TheVariants.{Sheet}
use Rattle.record_fields.specs.Records.{sheet_number}
use Rattle.record_kinds.specs.Kinds.{kind_count, flat_rates_kind, rate_path_kind}
use Rattle.record_offsets.specs.Inner.Notes.{noted_before}
use Rattle.record_offsets.proofs.NoteLaws.{noted-counting, noted-sheet, offset-end}
use Rattle.filing_contents.specs.Contents.{yields_in, rates_in, libor_in}
use Rattle.filing_contents.specs.Amounts.{amount_at}
use Rattle.filing_contents.proofs.AmountLaws.{amount-past}
use Rattle.filing_decode.specs.Contents.{cell_offset, cell_value, sheet_offset, rate_number, contents_of}

-- a table from 1 on, counted from 0
table-shift : (n : ℕ) (f : ℕ → ℕ) → table_from 1 n f ≡ table n (λ (i : ℕ). f (i + 1))
table-shift n f =
    ext_get_or 0 (table_from 1 n f) (table n (λ (i : ℕ). f (i + 1))) (table-length 1 n f ∙ sym (table-length 0 n _))
    (λ i h. let l : i < n = omega (arith, table-length 1 n f) in table_from-get_or 1 n f i 0 l ∙ ap f (add_comm 1 i) ∙ sym (table-get_or n (λ (j : ℕ). f (j + 1)) i 0 l))

amount-present : (s : List ℕ) (f : ℕ) (b : Bool) → ltb f (length s) ≡ b → amount_at s f ≡ cond b (amount_at s f) 0
amount-present s f true e = refl
amount-present s f false e = amount-past s f (ltb-false f (length s) e)

-- the noted offset of the i-th cell, and the value that it gives
pub cell-noted : (s : List ℕ) (i : ℕ) → i < cell_count → get_or (noted_before s (length s)).counting i 0 ≡ cell_offset s (first_cell + i)
unfolding cell_offset
cell-noted s i h =
    let n = first_cell + i in
    let e : i ≡ n - first_cell = omega arith in
    ap (λ (j : ℕ). get_or (noted_before s (length s)).counting j 0) e
    ∙ noted-counting s (length s) n (omega arith) (omega arith)

pub value-noted : (s : List ℕ) (n : ℕ) → amount_at s (cell_offset s n) ≡ cell_value s n
unfolding cell_value
value-noted s n = amount-present s (cell_offset s n) (ltb (cell_offset s n) (length s)) refl

-- the noted offset of a kind of sheet
pub sheet-noted : (s : List ℕ) (kind : ℕ) → kind < kind_count → get_or (noted_before s (length s)).sheets kind 0 ≡ sheet_offset s kind
unfolding sheet_offset
sheet-noted s kind h = noted-sheet s (length s) kind h ∙ offset-end s (Some (Sheet kind))

-- a part of the numbers that is lent to be filled: its numbers are written where it stands
pub part_filled : (l run : List ℕ) (start n k : ℕ) (f : ℕ → ℕ) → start + n ≤ length l → k ≡ n → run ≡ table_from 1 (length (take k (drop start l))) f
    → take start l ++ (run ++ drop k (drop start l)) ≡ written l start (table_from 1 n f)
part_filled l run start n k f h e r =
    let long : length (take k (drop start l)) ≡ n = length-take-le k (drop start l) (omega (arith, length-drop start l)) ∙ e in
    let is : run ≡ table_from 1 n f = rw long at r in
    written_back l start k run (ap length is ∙ table-length 1 n f ∙ sym e) ∙ ap (written l start) is

-- a filing says a yield for each month of a sheet, and as many rates as the columns have
pub yields-long : (s : List ℕ) → length (contents_of s).yields ≡ sheet_months
unfolding contents_of
yields-long s = table-length 1 sheet_months _

pub rates-long : (s : List ℕ) → length (contents_of s).rates ≡ rate_count
unfolding contents_of
rates-long s = table-length 0 rate_count _

pub libor-long : (s : List ℕ) → length (contents_of s).libor ≡ sheet_months
unfolding contents_of
libor-long s = table-length 1 sheet_months _

-- the part of n numbers where a run of as many is written is the run
run-filled : (l run : List ℕ) (at n : ℕ) → length run ≡ n → at ≤ length l → take n (drop at (written l at run)) ≡ run
run-filled l run at n e h = ap (λ (k : ℕ). take k (drop at (written l at run))) (sym e) ∙ part-written l at run h

-- the yields written, then the rates, then the LIBOR yields: each part of the numbers is what the filing says, since what is written later stands behind it
module _ (s l after-yields after-rates after : List ℕ) (long : length l ≡ sheet_number_count)
    (long-yields : length after-yields ≡ sheet_number_count) (long-rates : length after-rates ≡ sheet_number_count)
    (yields-written : after-yields ≡ written l yields_start (contents_of s).yields)
    (rates-written : after-rates ≡ written after-yields rates_start (contents_of s).rates)
    (libor-written : after ≡ written after-rates libor_start (contents_of s).libor) where
  pub yields-filled : yields_in after ≡ (contents_of s).yields
  unfolding yields_in
  yields-filled =
      ap yields_in libor-written
      ∙ part-before after-rates libor_start (contents_of s).libor yields_start sheet_months (omega (arith, long-rates)) (lit≤ tt)
      ∙ ap yields_in rates-written
      ∙ part-before after-yields rates_start (contents_of s).rates yields_start sheet_months (omega (arith, long-yields)) (lit≤ tt)
      ∙ ap yields_in yields-written
      ∙ run-filled l (contents_of s).yields yields_start sheet_months (yields-long s) (omega arith)

  pub rates-filled : rates_in after ≡ (contents_of s).rates
  unfolding rates_in
  rates-filled =
      ap rates_in libor-written
      ∙ part-before after-rates libor_start (contents_of s).libor rates_start rate_count (omega (arith, long-rates)) (lit≤ tt)
      ∙ ap rates_in rates-written
      ∙ run-filled after-yields (contents_of s).rates rates_start rate_count (rates-long s) (omega (arith, long-yields))

  pub libor-filled : libor_in after ≡ (contents_of s).libor
  unfolding libor_in
  libor-filled = ap libor_in libor-written ∙ run-filled after-rates (contents_of s).libor libor_start sheet_months (libor-long s) (omega (arith, long-rates))

-- the rates of a filing, by the sheet that holds them
module _ (s : List ℕ) {path : ℕ} (path-is : path ≡ sheet_offset s rate_path_kind) where
  month-rate : (i : ℕ) → path < length s → sheet_number s path (i + 1) ≡ rate_number s i
  unfolding rate_number
  month-rate i l = rw (← path-is) (sym (simp (lt-ltb path (length s) l)))

  pub rates-by-month : path < length s → table_from 1 rate_count (sheet_number s path) ≡ (contents_of s).rates
  unfolding contents_of
  rates-by-month l = table-shift rate_count (sheet_number s path) ∙ table-ext rate_count _ _ (λ i u. month-rate i l)

  module _ {flat : ℕ} (flat-is : flat ≡ sheet_offset s flat_rates_kind) (none : length s ≤ path) where
    column-rate : (i : ℕ) → sheet_number s flat (i / sheet_months + 1) ≡ rate_number s i
    unfolding rate_number
    column-rate i = rw (← flat-is, ← path-is) (sym (simp (le-ltb path (length s) none)))

    pub rates-flat : table rate_count (λ (i : ℕ). sheet_number s flat (i / sheet_months + 1)) ≡ (contents_of s).rates
    unfolding contents_of
    rates-flat = table-ext rate_count _ _ (λ i u. column-rate i)
