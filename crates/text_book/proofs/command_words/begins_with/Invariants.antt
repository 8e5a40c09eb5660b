-- `begins_with` meets its contract. The loop's invariant: what is left of the word decides. Assumes nothing.
use mathlib.Core.Path.{◌≡◌}
use lib.ListN.{drop}
use Rattle.text_book.specs.Commands.{begins_with}
use Rattle.text_book.proofs.command_words.begins_with.Given as goal

abbrev pub invariant-loop-i : goal.invariant-loop-i
invariant-loop-i l = begins_with l.line 0 l.word ≡ begins_with l.line l.i (drop l.i l.word)
