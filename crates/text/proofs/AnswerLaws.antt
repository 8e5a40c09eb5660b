-- What is printed by a verdict, where the answer is a refusal and where it is none. Assumes nothing.
use Prim.Native.Nat.{ℕ}
use mathlib.Core.Path.{◌≡◌}
use mathlib.Core.Bool.{cond}
use mathlib.Core.List.{List}
use borrow.Author.Tests.{ne_eqb}
use lib.Dec.{eqb}
use Rattle.answers.specs.declared.Refusal.{Refusal}
use Rattle.answers.specs.Answers.{number_of, location_of}
use Rattle.answers.specs.Verdict.{Verdict, accepted, refused}
use Rattle.answers.proofs.AnswerLaws.{refusal-numbered}
use Rattle.text.specs.Lines.{refusal_line}

-- a text where nothing is refused, else the line of the refusal
abbrev pub printed_by : Verdict → List ℕ → List ℕ
printed_by v text = cond (eqb v.number 0) text (refusal_line v.number v.location)

pub printed-refused : (r : Refusal) (v : Verdict) (text : List ℕ) → refused (number_of r) (location_of r) ≡ v
    → refusal_line (number_of r) (location_of r) ≡ printed_by v text
unfolding refused
printed-refused r v text e = rw (← e, ne_eqb (number_of r) 0 (refusal-numbered r))

pub printed-accepted : (v : Verdict) (text : List ℕ) → accepted ≡ v → text ≡ printed_by v text
unfolding accepted
printed-accepted v text e = rw (← e)
