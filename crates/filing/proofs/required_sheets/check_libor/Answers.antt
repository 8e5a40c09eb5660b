-- `check_libor` meets its contract. Assumes nothing.
use Prim.Native.Nat.{ℕ}
use mathlib.Core.Path.{◌≡◌, sym, ap, ◌∙◌}
use mathlib.Core.List.{List}
use borrow.Author.Tests.{le-leb, lt-leb}
use lib.Dec.{lit<}
use lib.ListN.{length, get_or}
use Rattle.answers.specs.Verdict.{accepted, refused}
use Rattle.answers.proofs.VerdictLaws.{condition-holds, condition-passes}
use Rattle.record_kinds.specs.Kinds.{libor_kind}
use Rattle.filing_cells.specs.BorrowingConditions.{some_borrowed}
use Rattle.filing_decode.specs.Contents.{sheet_offset, contents_of}
use Rattle.filing.specs.RequiredSheets.{libor_missing, libor_verdict}
use Rattle.filing_decode.proofs.ContentsLaws.{sheet-noted}
use Rattle.filing.proofs.required_sheets.check_libor.Goals as goal

pub returns-then-sheets-s : goal.returns-then-sheets-s
unfolding accepted libor_verdict libor_missing
returns-then-sheets-s c =
    let sheet-is : get_or c.args.sheets.now libor_kind 0 ≡ sheet_offset c.args.s.now libor_kind = ap (λ (sheets : List ℕ). get_or sheets libor_kind 0) c.requires.0 ∙ sheet-noted _ libor_kind (lit< tt) in
    let s = c.args.s.now in
    condition-passes _ 18 (length s) (simp (lt-leb (length s) (sheet_offset s libor_kind) (rw sheet-is at c.if-sheets-s.true)))

pub returns-then-some_borrowed : goal.returns-then-some_borrowed
unfolding refused libor_verdict libor_missing
returns-then-some_borrowed c =
    let sheet-is : get_or c.args.sheets.now libor_kind 0 ≡ sheet_offset c.args.s.now libor_kind = ap (λ (sheets : List ℕ). get_or sheets libor_kind 0) c.requires.0 ∙ sheet-noted _ libor_kind (lit< tt) in
    let borrowed-is : c.some_borrowed.result ≡ some_borrowed (contents_of c.args.s.now).cells = c.some_borrowed.ensures ∙ ap some_borrowed c.requires.1 in
    let s = c.args.s.now in
    condition-holds _ 18 (length s)
    (simp (le-leb (length s) (sheet_offset s libor_kind) (rw sheet-is at c.if-sheets-s.false)) (sym borrowed-is ∙ c.if-some_borrowed.true))

pub returns : goal.returns
unfolding accepted libor_verdict libor_missing
returns c =
    let sheet-is : get_or c.args.sheets.now libor_kind 0 ≡ sheet_offset c.args.s.now libor_kind = ap (λ (sheets : List ℕ). get_or sheets libor_kind 0) c.requires.0 ∙ sheet-noted _ libor_kind (lit< tt) in
    let borrowed-is : c.some_borrowed.result ≡ some_borrowed (contents_of c.args.s.now).cells = c.some_borrowed.ensures ∙ ap some_borrowed c.requires.1 in
    let s = c.args.s.now in
    condition-passes _ 18 (length s)
    (simp (le-leb (length s) (sheet_offset s libor_kind) (rw sheet-is at c.if-sheets-s.false)) (sym borrowed-is ∙ c.if-some_borrowed.false))
