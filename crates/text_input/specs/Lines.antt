-- Lines of a stream of bytes: what its first line is, what of it is kept in lent bytes, and what the next byte makes of a line that is read into them. A
-- line ends before its line feed or at the stream's end; a last line without a line feed is a line, and the end with no byte before it is none.
-- Definitions only.
use Rattle.std.specs.Prelude.{ℕ, ◌+◌, ◌≤◌, ◌≡◌, Bool, true, false, cond, ◌||◌, List, [], ◌∷◌, ◌++◌, Option, None, Some, eqb, ltb, length, take, drop, set}
use Rattle.std.specs.Io.KnownBytes.{Consumes}
use Rattle.std.specs.Option.{unwrap_or}
use Rattle.text_input.specs.declared.Reading.{Reading}
use Rattle.text_input.specs.declared.Reading.TheVariants.{Going, Ended}

-- the lent bytes, and how many of a line are kept in them, where there is a line
pub record Held : Type 0 where
  pub line : List ℕ
  pub kept : Option ℕ

-- the lent bytes, and what is read into them so far
pub record HeldSoFar : Type 0 where
  pub line : List ℕ
  pub reading : Reading

-- of a line that goes on, and of one that has ended
abbrev pub going : Held → HeldSoFar
going h = record { line = h.line; reading = Going h.kept }

abbrev pub ended : Held → HeldSoFar
ended h = record { line = h.line; reading = Ended h.kept }

-- whether a byte is the line feed
unfoldable pub is_feed : ℕ → Bool
is_feed b = eqb b 10

-- the first line of a stream: the bytes before its first line feed, or all
unfoldable pub first_line : List ℕ → List ℕ
first_line [] = []
first_line (b ∷ s) = cond (is_feed b) [] (b ∷ first_line s)

-- whether a stream has a line feed
unfoldable pub has_feed : List ℕ → Bool
has_feed [] = false
has_feed (b ∷ s) = is_feed b || has_feed s

-- whether a stream has no byte
unfoldable pub is_empty : List ℕ → Bool
is_empty [] = true
is_empty (b ∷ s) = false

-- lent bytes with a line at their front: of a longer line as many as there is room for, behind a shorter one what was there
unfoldable pub kept_in : List ℕ → List ℕ → List ℕ
kept_in room l = take (length room) l ++ drop (length l) room

-- a line l read into lent bytes: those kept, and how many they are
unfoldable pub held_of : List ℕ → List ℕ → Held
held_of room l = record { line = kept_in room l; kept = Some (length (take (length room) l)) }

-- the next line of a stream that holds the bytes s and no more, read into lent bytes; a stream with no byte, not even a line feed, has none
unfoldable pub next_line : List ℕ → List ℕ → Held
next_line room s = cond (is_empty s) (record { line = room; kept = None }) (held_of room (first_line s))

-- the first line of the bytes s, read into lent bytes, before more of the stream is known: it has ended where they have a line feed
unfoldable pub line_of : List ℕ → List ℕ → HeldSoFar
line_of room s = cond (has_feed s) (ended (next_line room s)) (going (next_line room s))

-- before any byte
unfoldable pub started : List ℕ → HeldSoFar
started room = record { line = room; reading = Going None }

-- with a byte that is no line feed behind the `size` bytes kept, where there is room
unfoldable pub with_kept : List ℕ → ℕ → ℕ → Held
with_kept l size b =
    cond (ltb size (length l)) (record { line = set l size b; kept = Some (size + 1) }) (record { line = l; kept = Some size })

-- with a byte: a line feed completes the line, and behind any other, kept or not, it goes on
unfoldable pub with_byte : List ℕ → ℕ → ℕ → HeldSoFar
with_byte l size b = cond (is_feed b) (record { line = l; reading = Ended (Some size) }) (going (with_kept l size b))

-- with what comes next of the stream: a byte, or the end, which completes the line
unfoldable pub with_input : List ℕ → Option ℕ → Option ℕ → HeldSoFar
with_input l kept (Some b) = with_byte l (unwrap_or kept 0) b
with_input l kept None = record { line = l; reading = Ended kept }

-- a complete line stays as it is
unfoldable pub step_from : List ℕ → Reading → Option ℕ → HeldSoFar
step_from l (Going kept) x = with_input l kept x
step_from l (Ended kept) x = record { line = l; reading = Ended kept }

unfoldable pub step_of : HeldSoFar → Option ℕ → HeldSoFar
step_of h x = step_from h.line h.reading x

-- what is left of lent bytes and answered is the first line of the bytes read, and these are the line and at most its line feed: of an input whose bytes
-- are known its next, of any other no contract can say which
pub record LineRead (input_before input_after : Option (List ℕ)) (before : List ℕ) (kept : Option ℕ) (after : List ℕ) : Type 0 where
  pub bytes : List ℕ
  pub bytes-are : Consumes input_before input_after bytes
  pub held-is : record { line = after; kept = kept } ≡ next_line before bytes
  pub only-line : length bytes ≤ length (first_line bytes) + 1
