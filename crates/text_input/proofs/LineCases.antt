-- Closed cases of the next line of a stream, read into three bytes of 0, so that a wrong clause of a definition breaks a case. Each is computed. Assumes
-- nothing.
use Prim.Native.Nat.{ℕ}
use mathlib.Core.Path.{◌≡◌, refl}
use mathlib.Core.List.{List, [], ◌∷◌}
use Rattle.std.specs.Prelude.{Option, None, Some}
use Rattle.text_input.specs.declared.Reading.TheVariants.{Going, Ended}
use Rattle.text_input.specs.Lines.{Held, is_feed, first_line, has_feed, is_empty, kept_in, held_of, next_line, line_of}

-- three bytes, and how many are kept
abbrev held : List ℕ → Option ℕ → Held
held l kept = record { line = l; kept = kept }

-- no byte, an empty line, one with its line feed, the last without, one as long as the room, and one that is longer
lines-hold : next_line (0 ∷ 0 ∷ 0 ∷ []) []
    ∷ next_line (0 ∷ 0 ∷ 0 ∷ []) (10 ∷ 97 ∷ 10 ∷ [])
    ∷ next_line (0 ∷ 0 ∷ 0 ∷ []) (97 ∷ 98 ∷ 10 ∷ 99 ∷ 10 ∷ [])
    ∷ next_line (0 ∷ 0 ∷ 0 ∷ []) (255 ∷ [])
    ∷ next_line (0 ∷ 0 ∷ 0 ∷ []) (97 ∷ 98 ∷ 13 ∷ 10 ∷ [])
    ∷ next_line (0 ∷ 0 ∷ 0 ∷ []) (97 ∷ 98 ∷ 99 ∷ 100 ∷ 101 ∷ 10 ∷ 97 ∷ [])
    ∷ []
    ≡ held (0 ∷ 0 ∷ 0 ∷ []) None
    ∷ held (0 ∷ 0 ∷ 0 ∷ []) (Some 0)
    ∷ held (97 ∷ 98 ∷ 0 ∷ []) (Some 2)
    ∷ held (255 ∷ 0 ∷ 0 ∷ []) (Some 1)
    ∷ held (97 ∷ 98 ∷ 13 ∷ []) (Some 3)
    ∷ held (97 ∷ 98 ∷ 99 ∷ []) (Some 3)
    ∷ []
unfolding held_of next_line kept_in first_line is_empty is_feed
lines-hold = refl

-- before the stream's end is known a line is complete at its line feed alone
parts-hold : line_of (0 ∷ []) [] ∷ line_of (0 ∷ []) (97 ∷ []) ∷ line_of (0 ∷ []) (97 ∷ 98 ∷ 13 ∷ []) ∷ line_of (0 ∷ []) (97 ∷ 10 ∷ []) ∷ []
    ≡ record { line = 0 ∷ []; reading = Going None }
    ∷ record { line = 97 ∷ []; reading = Going (Some 1) }
    ∷ record { line = 97 ∷ []; reading = Going (Some 1) }
    ∷ record { line = 97 ∷ []; reading = Ended (Some 1) }
    ∷ []
unfolding line_of held_of next_line kept_in first_line has_feed is_empty is_feed
parts-hold = refl
