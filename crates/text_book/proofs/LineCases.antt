-- Closed cases of the lines that a book prints, so that a wrong clause of a definition breaks a case. Each is computed. Assumes nothing.
use mathlib.Core.Path.{◌≡◌, refl}
use mathlib.Core.List.{[], ◌∷◌}
use Rattle.answers.specs.Verdict.{accepted, refused}
use Rattle.text.specs.Decimal.{digit, digits_within, decimal}
use Rattle.text.specs.Lines.{spaced, rest_of_line, refused_word, refusal_line}
use Rattle.text_book.specs.BookLines.{opened_line, ok_line, answer_line, held_line}

-- ok; refused 17 36
answers-hold : answer_line ok_line accepted ∷ answer_line ok_line (refused 17 36) ∷ []
    ≡ (111 ∷ 107 ∷ 10 ∷ []) ∷ (114 ∷ 101 ∷ 102 ∷ 117 ∷ 115 ∷ 101 ∷ 100 ∷ 32 ∷ 49 ∷ 55 ∷ 32 ∷ 51 ∷ 54 ∷ 10 ∷ []) ∷ []
unfolding answer_line ok_line accepted refused refusal_line refused_word rest_of_line spaced decimal digits_within digit
answers-hold = refl

-- opened
opened-holds : opened_line ≡ 111 ∷ 112 ∷ 101 ∷ 110 ∷ 101 ∷ 100 ∷ 10 ∷ []
unfolding opened_line
opened-holds = refl

-- 10 20 3 40 5 6
held-holds : held_line (record { balance = 10; coupon = 20; remaining_months = 3; penalty = 40; values = 5 ∷ 6 ∷ [] })
    ≡ 49 ∷ 48 ∷ 32 ∷ 50 ∷ 48 ∷ 32 ∷ 51 ∷ 32 ∷ 52 ∷ 48 ∷ 32 ∷ 53 ∷ 32 ∷ 54 ∷ 10 ∷ []
unfolding held_line rest_of_line spaced decimal digits_within digit
held-holds = refl
