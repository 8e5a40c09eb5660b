-- `check_sheets` meets its contract. Assumes nothing.
use Prim.Native.Nat.{ℕ, ◌≤◌, ◌<◌}
use native.Mathlib.Omega.{arith}
use mathlib.Core.Path.{◌≡◌, ap, ◌∙◌}
use mathlib.Core.List.{List}
use borrow.Author.Tests.{le-leb, lt-leb}
use lib.Dec.{lit<}
use lib.ListN.{length, get_or}
use Rattle.answers.specs.Verdict.{accepted, refused}
use Rattle.answers.proofs.VerdictLaws.{condition-holds, condition-passes}
use Rattle.record_kinds.specs.Kinds.{kind_count, flat_rates_kind, rate_path_kind}
use Rattle.filing_decode.specs.Contents.{sheet_offset}
use Rattle.filing.specs.RequiredSheets.{sheet_missing, sheet_verdict}
use Rattle.filing_decode.proofs.ContentsLaws.{sheet-noted}
use Rattle.filing.proofs.required_sheets.check_sheets.Goals as goal

pub returns-then-s-sheets : goal.returns-then-s-sheets
unfolding refused sheet_verdict sheet_missing
returns-then-s-sheets c =
    let sheet-is : (kind : ℕ) → kind < kind_count → get_or c.args.sheets.now kind 0 ≡ sheet_offset c.args.s.now kind = λ kind h. ap (λ (sheets : List ℕ). get_or sheets kind 0) c.requires ∙ sheet-noted _ kind h in
    let s = c.args.s.now in
    condition-holds _ 6 (length s) (simp (le-leb (length s) (sheet_offset s 2) (rw (sheet-is 2 (lit< tt)) at c.if-s-sheets.true)))

-- yields stand before the end and so do flat rates: 6 does not hold
pub returns-then-sheets-s : goal.returns-then-sheets-s
unfolding accepted sheet_verdict sheet_missing
returns-then-sheets-s c =
    let sheet-is : (kind : ℕ) → kind < kind_count → get_or c.args.sheets.now kind 0 ≡ sheet_offset c.args.s.now kind = λ kind h. ap (λ (sheets : List ℕ). get_or sheets kind 0) c.requires ∙ sheet-noted _ kind h in
    let s = c.args.s.now in
    condition-passes _ 6 (length s)
    (simp (
      lt-leb (length s) (sheet_offset s 2) (rw (sheet-is 2 (lit< tt)) at c.if-s-sheets.false),
      lt-leb (length s) (sheet_offset s flat_rates_kind) (rw (sheet-is flat_rates_kind (lit< tt)) at c.if-sheets-s.true),
    ))

-- yields stand before the end, flat rates do not, but rates by month do: 6 does not hold
pub returns-then-sheets-s-2 : goal.returns-then-sheets-s-2
unfolding accepted sheet_verdict sheet_missing
returns-then-sheets-s-2 c =
    let sheet-is : (kind : ℕ) → kind < kind_count → get_or c.args.sheets.now kind 0 ≡ sheet_offset c.args.s.now kind = λ kind h. ap (λ (sheets : List ℕ). get_or sheets kind 0) c.requires ∙ sheet-noted _ kind h in
    let s = c.args.s.now in
    condition-passes _ 6 (length s)
    (simp (
      lt-leb (length s) (sheet_offset s 2) (rw (sheet-is 2 (lit< tt)) at c.if-s-sheets.false),
      le-leb (length s) (sheet_offset s flat_rates_kind) (rw (sheet-is flat_rates_kind (lit< tt)) at c.if-sheets-s.false),
      lt-leb (length s) (sheet_offset s rate_path_kind) (rw (sheet-is rate_path_kind (lit< tt)) at c.if-sheets-s-2.true),
    ))

-- yields stand before the end, but neither flat rates nor rates by month do: 6 holds, at the input's length
pub returns : goal.returns
unfolding refused sheet_verdict sheet_missing
returns c =
    let sheet-is : (kind : ℕ) → kind < kind_count → get_or c.args.sheets.now kind 0 ≡ sheet_offset c.args.s.now kind = λ kind h. ap (λ (sheets : List ℕ). get_or sheets kind 0) c.requires ∙ sheet-noted _ kind h in
    let s = c.args.s.now in
    let no-path : length s ≤ sheet_offset s rate_path_kind = omega (arith, sheet-is rate_path_kind (lit< tt)) in
    condition-holds _ 6 (length s)
    (simp (
      lt-leb (length s) (sheet_offset s 2) (rw (sheet-is 2 (lit< tt)) at c.if-s-sheets.false),
      le-leb (length s) (sheet_offset s flat_rates_kind) (rw (sheet-is flat_rates_kind (lit< tt)) at c.if-sheets-s.false),
      le-leb (length s) (sheet_offset s rate_path_kind) no-path,
    ))
