-- `read_text` meets its contract. The loop's invariant: the lines so far have their form, and their numbers are stored. Assumes nothing.
use Prim.Native.Nat.{ℕ, ◌+◌, ◌-◌}
use native.Mathlib.Omega.{arith}
use mathlib.Core.Path.{◌≡◌, sym, ap, ◌∙◌}
use mathlib.Core.List.{List, ◌++◌, append-nil}
use lib.ListN.{length}
use Rattle.lists.specs.Tables.{table_from, joined}
use Rattle.text_numerals.specs.declared.Line.{Line}
use Rattle.text_numerals.proofs.LineLaws.{line_is, read_form, none_form}
use Rattle.text_certificates.specs.Lines.{date_form, certificate_form}
use Rattle.text_certificates.specs.Texts.{read_count}
use Rattle.text_certificates.proofs.TextLaws.{first_read, form-takes, next-read, line-fails, first-fails, none-fails, stored_length, stored_line, certificate-read, certificate-length, first-none, line_first, none_first, valuation-read, answered-line, answered-date}
use Rattle.text_certificates.proofs.certificates_input.read_text.Goals as goal

-- the first line is no date, so that line 1 is the first unreadable one, and no certificate is read
pub returns-in_default : goal.returns-in_default
unfolding read_count joined table_from
returns-in_default g c =
    let s = c.args.text.now in
    let form = none_form s 0 date_form (sym c.date_line.ensures ∙ c.in_default.is) in
    let none : read_count s ≡ 0 = omega (arith, first-none s form) in
    record { result-is = answered-line s 1 (omega arith) (first-fails s form); numbers-are = rw none (sym (append-nil _)) }

pub loop-next-init : goal.loop-next-init
unfolding joined table_from
loop-next-init g c =
    let s = c.args.text.now in
    let read = sym c.date_line.ensures ∙ c.in-Some.is in
    let next-is = ap (λ (l : Line). l.next) (line_is s 0 date_form c.in-Some.first read) in
    (rw next-is (first_read s (read_form s 0 date_form c.in-Some.first read)), sym (append-nil _))

-- the lines before are a date and certificates, and this one has not its form: it is the first unreadable line, and the stored numbers are those of
-- the certificates before it
pub returns-in_default-certificate_line : goal.returns-in_default-certificate_line
unfolding read_count
returns-in_default-certificate_line g c =
    let s = c.args.text.now in
    let at = c.loop-next in
    let form = none_form s at.next certificate_form (sym c.certificate_line.ensures ∙ c.in_default-certificate_line.is) in
    let more = c.loop-next-test.true in
    let count : read_count s ≡ at.lines - 1 = ap (λ (l : ℕ). l - 1) (line_first s at.lines at.next at.invariant.0 more form) in
    record {
      result-is = answered-line s (at.lines + 1) (omega arith) (line-fails s at.lines at.next at.invariant.0 more form);
      numbers-are = rw count at.invariant.1;
    }

pub overflow_add-lines : goal.overflow_add-lines
overflow_add-lines g c = omega (arith, c.loop-next.invariant.0.room, c.loop-next-test.true)

pub overflow_add-result : goal.overflow_add-result
overflow_add-result g c = omega (arith, c.loop-next.invariant.0.room, c.loop-next-test.true)

-- there is room for eight numbers more
pub unwrap-requires : goal.unwrap-requires
unwrap-requires g c =
    let s = c.args.text.now in
    let at = c.loop-next in
    let line = c.in-Some-certificate_line.certificate in
    let read = sym c.certificate_line.ensures ∙ c.in-Some-certificate_line.is in
    let formed = read_form s at.next certificate_form line read in
    let next = next-read s at.lines at.next at.invariant.0 c.loop-next-test.true formed in
    let eight : length line.numbers ≡ 8 = rw (certificate-read s at.next line read).0 (certificate-length s at.next) in
    let so_far = ap length at.invariant.1 ∙ stored_length s c.args.certificates.now.items (at.lines - 1) in
    c.try_extend_from_slice.ensures.variant.1 (omega (arith, eight, so_far, next.room, next.bound, next.some, at.invariant.0.some, c.requires))

pub loop-next-smaller : goal.loop-next-smaller
loop-next-smaller g c =
    let s = c.args.text.now in
    let at = c.loop-next in
    let line = c.in-Some-certificate_line.certificate in
    let read = sym c.certificate_line.ensures ∙ c.in-Some-certificate_line.is in
    let formed = read_form s at.next certificate_form line read in
    omega (arith, (certificate-read s at.next line read).1, form-takes s at.lines at.next at.invariant.0 c.loop-next-test.true formed, c.loop-next-test.true)

-- the line has its form: its eight numbers are stored behind those so far, and reading goes on behind the line
pub loop-next-preserved : goal.loop-next-preserved
loop-next-preserved g c =
    let s = c.args.text.now in
    let at = c.loop-next in
    let line = c.in-Some-certificate_line.certificate in
    let read = sym c.certificate_line.ensures ∙ c.in-Some-certificate_line.is in
    let formed = read_form s at.next certificate_form line read in
    let are = certificate-read s at.next line read in (
      rw are.1 (next-read s at.lines at.next at.invariant.0 c.loop-next-test.true formed),
      (rw c.unwrap.ensures at c.try_extend_from_slice.ensures.ok) ∙ ap (λ (l : List ℕ). l ++ line.numbers) at.invariant.1 ∙ stored_line s c.args.certificates.now.items at.lines at.next line.numbers at.invariant.0 are.0,
    )

-- the text ends behind the last line read: every line has its form, and the stored numbers are those of all certificates
pub returns : goal.returns
unfolding read_count
returns g c =
    let s = c.args.text.now in
    let at = c.loop-next in
    let count : read_count s ≡ at.lines - 1 = ap (λ (l : ℕ). l - 1) (none_first s at.lines at.next at.invariant.0 c.loop-next-test.false) in
    record {
      result-is = answered-date s _ (none-fails s at.lines at.next at.invariant.0 c.loop-next-test.false)
          (valuation-read s c.in-Some.first (sym c.date_line.ensures ∙ c.in-Some.is));
      numbers-are = rw count at.invariant.1;
    }
