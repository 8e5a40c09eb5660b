-- `write_quote` meets its contract: too long an input, no whole number of lines, an argument that is no number, and the answer. Assumes nothing.
use mathlib.Core.Path.{sym, ◌∙◌}
use Rattle.text_quote.proofs.PrintedLaws.{text-too-long, text-broken, text-no-month, text-no-scenario, text-asked}
use Rattle.text_quote.proofs.write_quote.Goals as goal

pub returns-then-lines-gt-INPUT_LIMIT : goal.returns-then-lines-gt-INPUT_LIMIT
returns-then-lines-gt-INPUT_LIMIT c =
    let a = c.args in
    record { printed = c.append_too_long.ensures ∙ rw c.new-text.ensures (text-too-long a.lines.now a.month.now a.scenario.now c.if-lines-gt-INPUT_LIMIT.true) }

pub returns-then-lines-ne0 : goal.returns-then-lines-ne0
returns-then-lines-ne0 c =
    let a = c.args in
    record {
      printed = c.append_unreadable.ensures ∙ rw c.new-text.ensures (text-broken a.lines.now a.month.now a.scenario.now c.if-lines-gt-INPUT_LIMIT.false c.if-lines-ne0.true);
    }

pub returns-in_default : goal.returns-in_default
returns-in_default c =
    let a = c.args in
    record {
      printed = c.append_unreadable-in_default.ensures ∙ rw c.new-text.ensures
          (text-no-month a.lines.now a.month.now a.scenario.now c.if-lines-gt-INPUT_LIMIT.false c.if-lines-ne0.false (sym c.argument_of.ensures ∙ c.in_default.is));
    }

pub returns-in_default-argument_of : goal.returns-in_default-argument_of
returns-in_default-argument_of c =
    let a = c.args in
    record {
      printed = c.append_unreadable-in_default-argument_of.ensures ∙ rw c.new-text.ensures
          (text-no-scenario a.lines.now a.month.now a.scenario.now c.if-lines-gt-INPUT_LIMIT.false c.if-lines-ne0.false _ (sym c.argument_of.ensures ∙ c.in-Some.is)
          (sym c.argument_of-2.ensures ∙ c.in_default-argument_of.is));
    }

pub returns : goal.returns
returns c =
    let a = c.args in
    record {
      printed = c.write_answer.ensures.printed
          ∙ text-asked a.lines.now a.month.now a.scenario.now c.if-lines-gt-INPUT_LIMIT.false c.if-lines-ne0.false _ _ (sym c.argument_of.ensures ∙ c.in-Some.is)
          (sym c.argument_of-2.ensures ∙ c.in-Some-argument_of.is);
    }
