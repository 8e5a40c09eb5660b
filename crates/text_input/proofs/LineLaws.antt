-- A line that is read byte by byte into lent bytes is the first line of the bytes read; the step taken over the bytes of a stream, and then its end, gives
-- the stream's next line. Assumes nothing.
use Prim.Native.Nat.{ℕ, suc, ◌≤◌, ◌<◌}
use native.Mathlib.Omega.{arith}
use native.Mathlib.Numerals.{add-one}
use mathlib.Core.Path.{◌≡◌, refl, sym, ap, ◌∙◌}
use mathlib.Core.Bool.{Bool, true, false, cond, ◌||◌, or_assoc, or-false}
use mathlib.Core.List.{List, [], ◌∷◌, ◌++◌, map, foldl, append_assoc, append-nil}
use lib.Dec.{ltb}
use lib.ListN.{length, take, drop, set, length-append, length-take, length-drop, drop_of_length-le}
use lib.Seq.{take-nil, take-append-le, take_all, length-take-le, drop-cons, set-append_seam}
use borrow.Author.Tests.{eq-eqb, ne_eqb, eqb-true, eqb-false, le-ltb, ltb-true, ltb-false}
use Rattle.std.specs.Prelude.{Option, None, Some}
use Rattle.std.specs.Option.{unwrap_or, option_to_list}
use Rattle.std.specs.Io.KnownBytes.{Consumes}
use Rattle.std.proofs.KnownBytes.{Consumes-nil, Consumes-trans}
use Rattle.text_input.specs.declared.Reading.{Reading}
use Rattle.text_input.specs.declared.Reading.TheVariants.{Going, Ended}
use Rattle.text_input.specs.Lines.{Held, HeldSoFar, going, ended, is_feed, first_line, has_feed, is_empty, kept_in, held_of, next_line, line_of, started, with_kept, with_byte, with_input, step_from, step_of, LineRead}

-- a step, by what comes next: a complete line stays
pub step_stays : (l : List ℕ) (kept x : Option ℕ) → step_from l (Ended kept) x ≡ record { line = l; reading = Ended kept }
unfolding step_from
step_stays l kept x = refl

-- the end
pub step_end : (l : List ℕ) (kept : Option ℕ) → step_from l (Going kept) None ≡ record { line = l; reading = Ended kept }
unfolding step_from with_input
step_end l kept = refl

-- the line feed
pub step_feed : (l : List ℕ) (kept : Option ℕ) (b : ℕ) → b ≡ 10 → step_from l (Going kept) (Some b) ≡ record { line = l; reading = Ended (Some (unwrap_or kept 0)) }
unfolding step_from with_input with_byte is_feed
step_feed l kept b e = rw (eq-eqb b 10 e)

-- another byte
pub step_byte : (l : List ℕ) (kept : Option ℕ) (b : ℕ) → (b ≡ 10 → ⊥) → step_from l (Going kept) (Some b) ≡ going (with_kept l (unwrap_or kept 0) b)
unfolding step_from with_input with_byte is_feed
step_byte l kept b e = rw (ne_eqb b 10 e)

-- behind bytes with no line feed the line goes on
cons-case : (a : ℕ) (s t : List ℕ) (x : Bool) → cond x [] (a ∷ first_line s) ≡ a ∷ s → (first_line s ≡ s → first_line (s ++ t) ≡ s ++ first_line t)
    → cond x [] (a ∷ first_line (s ++ t)) ≡ a ∷ (s ++ first_line t)
cons-case a s t true h f = let z : ◌≡◌ {A = List ℕ} [] (a ∷ s) = h in absurd (cc)
cons-case a s t false h f = let e : first_line s ≡ s = cc in ap (λ (l : List ℕ). a ∷ l) (f e)

first-behind : (s t : List ℕ) → first_line s ≡ s → first_line (s ++ t) ≡ s ++ first_line t
unfolding first_line
first-behind [] t h = refl
first-behind (a ∷ s) t h = cons-case a s t (is_feed a) h (first-behind s t)

first-feed : first_line (10 ∷ []) ≡ []
unfolding first_line is_feed
first-feed = refl

first-other : (b : ℕ) → (b ≡ 10 → ⊥) → first_line (b ∷ []) ≡ b ∷ []
unfolding first_line is_feed
first-other b e = rw (ne_eqb b 10 e)

empty-snoc : (s : List ℕ) (b : ℕ) → is_empty (s ++ b ∷ []) ≡ false
unfolding is_empty
empty-snoc [] b = refl
empty-snoc (a ∷ s) b = refl

-- lent bytes stay as many, and a line that fits stands in them whole
length-kept : (room l : List ℕ) → length (kept_in room l) ≡ length room
unfolding kept_in
length-kept room l = simp (length-append, length-take, length-drop) (omega arith)

kept-fits : (room l : List ℕ) → length l ≤ length room → kept_in room l ≡ l ++ drop (length l) room
unfolding kept_in
kept-fits room l h = rw take_all

kept-nil : (room : List ℕ) → kept_in room [] ≡ room
unfolding kept_in
kept-nil room = rw take-nil

length-snoc : (l : List ℕ) (b : ℕ) → length (l ++ b ∷ []) ≡ suc (length l)
length-snoc l b = simp length-append (omega arith)

-- a byte is stored behind a line, where there is room
kept-stored : (room l : List ℕ) (b : ℕ) → length l < length room → set (kept_in room l) (length l) b ≡ kept_in room (l ++ b ∷ [])
kept-stored room l b h =
    let fits : length l ≤ length room = omega arith in
    let more : length (l ++ b ∷ []) ≤ length room = omega (arith, length-snoc l b) in
    rw (kept-fits room l fits, kept-fits room (l ++ b ∷ []) more, length-snoc l b, drop-cons room (length l) 0 h, append_assoc)
    (set-append_seam l _ _ b)

-- and left out, where there is none
kept_full : (room l : List ℕ) (b : ℕ) → length room ≤ length l → kept_in room l ≡ kept_in room (l ++ b ∷ [])
unfolding kept_in
kept_full room l b h =
    let full : length room ≤ length (l ++ b ∷ []) = omega (arith, length-snoc l b) in
    rw (take-append-le (length room) l (b ∷ []) h, drop_of_length-le room h, drop_of_length-le room full)

-- how many bytes of a line are kept
size_fits : (room l : List ℕ) → length l ≤ length room → length (take (length room) l) ≡ length l
size_fits room l h = rw take_all

size-full : (room l : List ℕ) → length room ≤ length l → length (take (length room) l) ≡ length room
size-full room l h = length-take-le _ _ h

-- a byte more of a line, by whether there is room: it is kept behind those of the line, or lost, and what is held is the line with it, cut to the room
kept-by : (room l : List ℕ) (b : ℕ) (x : Bool) → ltb (length l) (length room) ≡ x
    → with_kept (kept_in room l) (length (take (length room) l)) b ≡ held_of room (l ++ b ∷ [])
unfolding with_kept held_of
kept-by room l b true e =
    let lt : length l < length room = ltb-true _ _ e in
    let fits : length l ≤ length room = omega arith in
    let more : length (l ++ b ∷ []) ≤ length room = omega (arith, length-snoc l b) in
    simp (size_fits room l fits, length-kept, e, kept-stored room l b lt, size_fits room (l ++ b ∷ []) more, length-snoc, add-one)
kept-by room l b false e =
    let full : length room ≤ length l = ltb-false _ _ e in
    let more : length room ≤ length (l ++ b ∷ []) = omega (arith, length-snoc l b) in
    simp (size-full room l full, size-full room (l ++ b ∷ []) more, length-kept, le-ltb (length room) (length room) (omega arith), ← kept_full room l b full)

-- bytes without a line feed stand in the lent bytes, as many as are kept
module _ (room line : List ℕ) (kept : Option ℕ) where
  held-as : (s : List ℕ) → first_line s ≡ s → record { line = line; kept = kept } ≡ next_line room s
      → (line ≡ kept_in room s) × (unwrap_or kept 0 ≡ length (take (length room) s))
  unfolding next_line is_empty held_of
  held-as [] u e =
      let line-is : line ≡ room = ap (λ (h : Held). h.line) e in
      let kept-is : kept ≡ None = ap (λ (h : Held). h.kept) e in
      (rw (line-is, kept-nil), rw (kept-is, take-nil))
  held-as (a ∷ s) u e =
      let line-is = ap (λ (h : Held). h.line) e in
      let kept-is = ap (λ (h : Held). h.kept) e in
      (line-is ∙ rw u, rw (kept-is, u))

-- how many bytes are kept, of a line that goes on and of one that has ended
abbrev kept-of : Reading → Option ℕ
kept-of (Going k) = k
kept-of (Ended k) = k

-- a line of some bytes and one more
line-more : (room s : List ℕ) (b : ℕ) → next_line room (s ++ b ∷ []) ≡ held_of room (first_line (s ++ b ∷ []))
unfolding next_line
line-more room s b = rw empty-snoc

-- bytes behind a stream with a line feed change nothing of its first line
fed-case : (x : Bool) {y : Bool} {l m : List ℕ} → (y ≡ true → l ≡ m) → x || y ≡ true → cond x [] l ≡ cond x [] m
fed-case true f h = refl
fed-case false f h = f h

first-fed : (s t : List ℕ) → has_feed s ≡ true → first_line (s ++ t) ≡ first_line s
unfolding first_line has_feed
first-fed [] t h = let z : false ≡ true = h in cc
first-fed (a ∷ s) t h = fed-case (is_feed a) (λ e. ap (λ (l : List ℕ). a ∷ l) (first-fed s t e)) h

-- one without a line feed is its first line
unfed-case : (x : Bool) {y : Bool} {l m : List ℕ} → (y ≡ false → l ≡ m) → x || y ≡ false → cond x [] l ≡ m
unfed-case true f h = let z : true ≡ false = h in cc
unfed-case false f h = f h

first-whole : (s : List ℕ) → has_feed s ≡ false → first_line s ≡ s
unfolding first_line has_feed
first-whole [] h = refl
first-whole (a ∷ s) h = unfed-case (is_feed a) (λ e. ap (λ (l : List ℕ). a ∷ l) (first-whole s e)) h

feed-one : (b : ℕ) → has_feed (b ∷ []) ≡ is_feed b
unfolding has_feed
feed-one b = or-false (is_feed b)

feed-append : (s t : List ℕ) → has_feed (s ++ t) ≡ has_feed s || has_feed t
unfolding has_feed
feed-append [] t = refl
feed-append (a ∷ s) t = ap (λ (x : Bool). is_feed a || x) (feed-append s t) ∙ sym (or_assoc (is_feed a) (has_feed s) (has_feed t))

fed-empty : (s : List ℕ) → has_feed s ≡ true → is_empty s ≡ false
unfolding is_empty has_feed
fed-empty [] h = sym h
fed-empty (a ∷ s) h = refl

-- the step at a byte behind the bytes s, which have a line feed
next-fed : (room s : List ℕ) (b : ℕ) → has_feed s ≡ true → step_of (line_of room s) (Some b) ≡ line_of room (s ++ b ∷ [])
unfolding line_of step_of next_line
next-fed room s b h = simp (h, feed-append, first-fed s (b ∷ []) h, fed-empty s h, empty-snoc, step_stays)

-- and which have none, by whether the byte is one
next-unfed : (room s : List ℕ) (b : ℕ) (x : Bool) → is_feed b ≡ x → has_feed s ≡ false → step_of (line_of room s) (Some b) ≡ line_of room (s ++ b ∷ [])
unfolding line_of step_of is_feed held_of
next-unfed room s b true e h =
    let whole = first-whole s h in
    let held = held-as room (next_line room s).line (next_line room s).kept s whole refl in
    let feed : b ≡ 10 = eqb-true b 10 e in
    let first : first_line (s ++ b ∷ []) ≡ s = first-behind s (b ∷ []) whole ∙ rw (feed, first-feed, append-nil) in
    let fed : has_feed (b ∷ []) ≡ true = feed-one b ∙ e in
    let now : line_of room s ≡ going (next_line room s) = rw h in
    let line : record { line = (next_line room s).line; reading = Ended (Some (unwrap_or (next_line room s).kept 0)) } ≡ ended (held_of room s) = rw (held.0, held.1) in
    let after : line_of room (s ++ b ∷ []) ≡ ended (held_of room s) = simp (feed-append, h, fed, line-more, first) in
    ap (λ (k : HeldSoFar). step_of k (Some b)) now ∙ step_feed (next_line room s).line (next_line room s).kept b feed ∙ line ∙ sym after
next-unfed room s b false e h =
    let whole = first-whole s h in
    let held = held-as room (next_line room s).line (next_line room s).kept s whole refl in
    let other = eqb-false b 10 e in
    let first : first_line (s ++ b ∷ []) ≡ s ++ b ∷ [] = first-behind s (b ∷ []) whole ∙ rw (first-other b other) in
    let fed : has_feed (b ∷ []) ≡ false = feed-one b ∙ e in
    let now : line_of room s ≡ going (next_line room s) = rw h in
    let line : with_kept (next_line room s).line (unwrap_or (next_line room s).kept 0) b ≡ held_of room (s ++ b ∷ []) = rw (held.0, held.1) (kept-by room s b _ refl) in
    let after : line_of room (s ++ b ∷ []) ≡ going (held_of room (s ++ b ∷ [])) = simp (feed-append, h, fed, line-more, first) in
    ap (λ (k : HeldSoFar). step_of k (Some b)) now
    ∙ step_byte (next_line room s).line (next_line room s).kept b other
    ∙ ap (λ (k : Held). going k) line
    ∙ sym after

next-by : (room s : List ℕ) (b : ℕ) (x : Bool) → has_feed s ≡ x → step_of (line_of room s) (Some b) ≡ line_of room (s ++ b ∷ [])
next-by room s b true h = next-fed room s b h
next-by room s b false h = next-unfed room s b _ refl h

-- the step at the stream's end
end-by : (room s : List ℕ) (x : Bool) → has_feed s ≡ x → step_of (line_of room s) None ≡ ended (next_line room s)
unfolding line_of step_of
end-by room s true h = simp (h, step_stays)
end-by room s false h = simp (h, step_end)

-- no byte is read
line_of-none : (room : List ℕ) → started room ≡ line_of room []
unfolding started line_of next_line has_feed is_empty
line_of-none room = refl

-- the step over the bytes t, behind s
steps-from : (room s t : List ℕ) → foldl step_of (line_of room s) (map Some t) ≡ line_of room (s ++ t)
steps-from room s [] = rw append-nil
steps-from room s (b ∷ t) =
    ap (λ (h : HeldSoFar). foldl step_of h (map Some t)) (next-by room s b _ refl)
    ∙ steps-from room (s ++ b ∷ []) t
    ∙ ap (λ (l : List ℕ). line_of room l) (append_assoc s (b ∷ []) t)

-- the step over the bytes of a stream, and then its end, gives its next line
pub steps-read : (room s : List ℕ) → step_of (foldl step_of (started room) (map Some s)) None ≡ ended (next_line room s)
steps-read room s = rw (line_of-none, steps-from room [] s) (end-by room s _ refl)

-- what is held is the line of the bytes read so far, none of which is a line feed
pub record Unended (input_before input_after : Option (List ℕ)) (room : List ℕ) (kept : Option ℕ) (line : List ℕ) : Type 0 where
  pub bytes : List ℕ
  pub bytes-are : Consumes input_before input_after bytes
  pub held-is : record { line = line; kept = kept } ≡ next_line room bytes
  pub unended : first_line bytes ≡ bytes

-- no byte is read
pub line_start : (input : Option (List ℕ)) (room : List ℕ) → Unended input input room None room
unfolding next_line is_empty first_line
line_start input room = record { bytes = []; bytes-are = Consumes-nil input; held-is = refl; unended = refl }

module _ (input_before input_now input_after : Option (List ℕ)) (room line : List ℕ) (kept : Option ℕ) (u : Unended input_before input_now room kept line) where
  -- a byte that is no line feed
  pub line_byte : (b : ℕ) (more : Option ℕ) (after : List ℕ) → Consumes input_now input_after (b ∷ []) → (b ≡ 10 → ⊥)
      → record { line = after; kept = more } ≡ with_kept line (unwrap_or kept 0) b
      → Unended input_before input_after room more after
  line_byte b more after read other e =
      let held = held-as room line kept u.bytes u.unended u.held-is in
      let same : first_line (u.bytes ++ b ∷ []) ≡ u.bytes ++ b ∷ [] = first-behind u.bytes (b ∷ []) u.unended ∙ rw (first-other b other) in
      record {
        bytes = u.bytes ++ b ∷ [];
        bytes-are = Consumes-trans _ _ _ _ _ u.bytes-are read;
        held-is = e ∙ rw (held.0, held.1, line-more, same) (kept-by room u.bytes b _ refl);
        unended = same;
      }

  -- the line feed
  pub line_feed : (b n : ℕ) → Consumes input_now input_after (b ∷ []) → b ≡ 10 → n ≡ unwrap_or kept 0 → LineRead input_before input_after room (Some n) line
  unfolding held_of
  line_feed b n read-byte feed size-is =
      let read : Consumes input_now input_after (10 ∷ []) = rw feed at read-byte in
      let held = held-as room line kept u.bytes u.unended u.held-is in
      let same : first_line (u.bytes ++ 10 ∷ []) ≡ u.bytes = first-behind u.bytes (10 ∷ []) u.unended ∙ rw (first-feed, append-nil) in
      record {
        bytes = u.bytes ++ 10 ∷ [];
        bytes-are = Consumes-trans _ _ _ _ _ u.bytes-are read;
        held-is = rw (line-more, same, size-is, held.0, held.1);
        only-line = rw same (omega (arith, length-snoc u.bytes 10));
      }

  -- the stream's end, where no byte is read
  pub line_end : Consumes input_now input_after [] → LineRead input_before input_after room kept line
  line_end read =
      record {
        bytes = u.bytes ++ [];
        bytes-are = Consumes-trans _ _ _ _ _ u.bytes-are read;
        held-is = rw append-nil u.held-is;
        only-line = rw (append-nil, u.unended) (omega arith);
      }

  -- a step behind which the line goes on, by whether the byte is the line feed
  going-by : (b : ℕ) (x : Bool) (more : Option ℕ) (after : List ℕ) → is_feed b ≡ x → Consumes input_now input_after (b ∷ [])
      → record { line = after; reading = Going more } ≡ step_from line (Going kept) (Some b)
      → Unended input_before input_after room more after
  unfolding is_feed
  going-by b true more after feed read e =
      let z : ◌≡◌ {A = Reading} (Going more) (Ended (Some (unwrap_or kept 0))) = ap (λ (h : HeldSoFar). h.reading) (e ∙ step_feed line kept b (eqb-true b 10 feed)) in
      absurd (cc)
  going-by b false more after feed read e =
      let other = eqb-false b 10 feed in
      let same = e ∙ step_byte line kept b other in
      let line-is : after ≡ (with_kept line (unwrap_or kept 0) b).line = ap (λ (h : HeldSoFar). h.line) same in
      let more-is : more ≡ (with_kept line (unwrap_or kept 0) b).kept = ap (λ (h : HeldSoFar). kept-of h.reading) same in
      line_byte b more after read other (rw (line-is, more-is) refl)

  pub line_going : (x more : Option ℕ) (after : List ℕ) → Consumes input_now input_after (option_to_list x)
      → record { line = after; reading = Going more } ≡ step_of (record { line = line; reading = Going kept }) x
      → Unended input_before input_after room more after
  unfolding step_of
  line_going None more after read e =
      let z : ◌≡◌ {A = Reading} (Going more) (Ended kept) = ap (λ (h : HeldSoFar). h.reading) (e ∙ step_end line kept) in
      absurd (cc)
  line_going (Some b) more after read e = going-by b _ more after refl read e

  -- and one behind which it has ended
  ended-by : (b : ℕ) (x : Bool) (all : Option ℕ) (after : List ℕ) → is_feed b ≡ x → Consumes input_now input_after (b ∷ [])
      → record { line = after; reading = Ended all } ≡ step_from line (Going kept) (Some b)
      → LineRead input_before input_after room all after
  unfolding is_feed
  ended-by b true all after feed read e =
      let is = eqb-true b 10 feed in
      let same = e ∙ step_feed line kept b is in
      let line-is : after ≡ line = ap (λ (h : HeldSoFar). h.line) same in
      let all-is : all ≡ Some (unwrap_or kept 0) = ap (λ (h : HeldSoFar). kept-of h.reading) same in
      rw (line-is, all-is) (line_feed b (unwrap_or kept 0) read is refl)
  ended-by b false all after feed read e =
      let z : ◌≡◌ {A = Reading} (Ended all) (Going (with_kept line (unwrap_or kept 0) b).kept) = ap (λ (h : HeldSoFar). h.reading) (e ∙ step_byte line kept b (eqb-false b 10 feed)) in
      absurd (cc)

  pub line_ended : (x all : Option ℕ) (after : List ℕ) → Consumes input_now input_after (option_to_list x)
      → record { line = after; reading = Ended all } ≡ step_of (record { line = line; reading = Going kept }) x
      → LineRead input_before input_after room all after
  unfolding step_of
  line_ended None all after read e =
      let same = e ∙ step_end line kept in
      let line-is : after ≡ line = ap (λ (h : HeldSoFar). h.line) same in
      let all-is : all ≡ kept = ap (λ (h : HeldSoFar). kept-of h.reading) same in
      rw (line-is, all-is) (line_end read)
  line_ended (Some b) all after read e = ended-by b _ all after refl read e
