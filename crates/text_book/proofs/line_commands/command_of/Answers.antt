-- `command_of` meets its contract: a line over the limit, the commands in turn, and none. Assumes nothing.
use mathlib.Core.Path.{sym, ◌∙◌}
use Rattle.text_book.specs.Commands.{set_word, clear_word, place_word, five_numbers, one_number}
use Rattle.text_book.proofs.CommandLaws.{command_long, command_set, command_clear, command_place, command_totals}
use Rattle.text_book.proofs.line_commands.command_of.Goals as goal

pub returns-then-line-gt-LINE_LIMIT : goal.returns-then-line-gt-LINE_LIMIT
returns-then-line-gt-LINE_LIMIT c = command_long _ c.if-line-gt-LINE_LIMIT.true

pub returns-in-Some : goal.returns-in-Some
unfolding set_word five_numbers
returns-in-Some c = command_set _ c.if-line-gt-LINE_LIMIT.false _ (sym c.numbers_behind.ensures ∙ c.in-Some.is)

pub returns-in-Some-numbers_behind : goal.returns-in-Some-numbers_behind
unfolding set_word five_numbers clear_word one_number
returns-in-Some-numbers_behind c =
    command_clear _ c.if-line-gt-LINE_LIMIT.false (sym c.numbers_behind.ensures ∙ c.in_default.is) _
    (sym c.numbers_behind-2.ensures ∙ c.in-Some-numbers_behind.is)

pub returns-in-Some-numbers_behind-2 : goal.returns-in-Some-numbers_behind-2
unfolding set_word five_numbers clear_word place_word one_number
returns-in-Some-numbers_behind-2 c =
    command_place _ c.if-line-gt-LINE_LIMIT.false (sym c.numbers_behind.ensures ∙ c.in_default.is) (sym c.numbers_behind-2.ensures ∙ c.in_default-numbers_behind.is) _
    (sym c.numbers_behind-3.ensures ∙ c.in-Some-numbers_behind-2.is)

pub returns : goal.returns
unfolding set_word five_numbers clear_word place_word one_number
returns c =
    let totals = command_totals _ c.if-line-gt-LINE_LIMIT.false (sym c.numbers_behind.ensures ∙ c.in_default.is) (sym c.numbers_behind-2.ensures ∙ c.in_default-numbers_behind.is)
    (sym c.numbers_behind-3.ensures ∙ c.in_default-numbers_behind-2.is) in
    c.then_some.ensures ∙ rw c.is_totals.ensures totals
