-- `fill_sheets` meets its contract: each part is what its callee fills in or answers. Assumes nothing.
use Prim.Native.Nat.{ℕ, ◌<◌}
use mathlib.Core.List.{List}
use mathlib.Core.Path.{◌≡◌, ap, ◌∙◌}
use native.Mathlib.Omega.{arith}
use lib.Dec.{lit<}
use lib.ListN.{get_or}
use Rattle.record_kinds.specs.Kinds.{kind_count, yields_kind, flat_rates_kind, tiers_kind, rate_path_kind, libor_kind, sheet_of, sheet_kinds, sheet_kind}
use Rattle.filing_decode.specs.Contents.{sheet_offset, contents_of}
use Rattle.filing_decode.proofs.ContentsLaws.{sheet-noted, yields-filled, rates-filled, libor-filled}
use Rattle.filing_decode.proofs.fill_sheets.Goals as goal

pub fill_sheet-requires : goal.fill_sheet-requires
unfolding sheet_of sheet_kinds sheet_kind
fill_sheet-requires c = omega arith

pub fill_rates-requires : goal.fill_rates-requires
fill_rates-requires c =
    let sheet-is : (kind : ℕ) → kind < kind_count → get_or c.args.sheets.now kind 0 ≡ sheet_offset c.args.s.now kind = λ kind h. ap (λ (l : List ℕ). get_or l kind 0) c.requires ∙ sheet-noted _ kind h in
    (sheet-is flat_rates_kind (lit< tt), sheet-is rate_path_kind (lit< tt), omega arith)

pub fill_sheet-requires-2 : goal.fill_sheet-requires-2
unfolding sheet_of sheet_kinds sheet_kind
fill_sheet-requires-2 c = omega arith

-- each noted offset is that of its sheet; the yields are written first and the rates behind them, where they overwrite no yield, so that
-- both parts of the array are what the filing says; the tiers are read from theirs
pub returns : goal.returns
unfolding contents_of sheet_of sheet_kinds sheet_kind
returns c =
    let sheet-is : (kind : ℕ) → kind < kind_count → get_or c.args.sheets.now kind 0 ≡ sheet_offset c.args.s.now kind = λ kind h. ap (λ (l : List ℕ). get_or l kind 0) c.requires ∙ sheet-noted _ kind h in
    let s = c.args.s.now in
    let first = rw (sheet-is yields_kind (lit< tt)) at c.fill_sheet.ensures in
    let last = rw (sheet-is libor_kind (lit< tt)) at c.fill_sheet-2.ensures in
    rw (
      yields-filled s _ _ _ _ (omega arith) (omega arith) (omega arith) first c.fill_rates.ensures last,
      rates-filled s _ _ _ _ (omega arith) (omega arith) (omega arith) first c.fill_rates.ensures last,
      libor-filled s _ _ _ _ (omega arith) (omega arith) (omega arith) first c.fill_rates.ensures last,
      c.tiers_at.ensures,
      sheet-is tiers_kind (lit< tt),
    )
