-- Arrays that are filled: with the values of a function from an index on, and with flat rates by column. Assumes nothing.
use Prim.Native.Nat.{ℕ, ◌+◌, ◌-◌, ◌/◌, ◌≤◌, ◌<◌, zero-le}
use native.Mathlib.Omega.{arith}
use mathlib.Core.Path.{◌≡◌, refl, sym, ap, ◌∙◌}
use mathlib.Core.Bool.{Bool, true, false, cond}
use mathlib.Core.List.{List, ◌++◌, append-nil}
use borrow.Author.Tests.{ltb-true, ltb-false, le-ltb}
use lib.Dec.{ltb}
use lib.ListN.{length, get_or, take, drop, replicate, length-append, length-drop, length-replicate, get_or-append}
use lib.Seq.{ext_get_or, length-take-le, get_or-take, get_or-append_right}
use Rattle.std.proofs.lemmas.List.{get_or-replicate, nil_from_length}
use borrow.Rule.Slice.PartMut.{put_mid}
use Rattle.lists.specs.Tables.{table, table_from}
use Rattle.lists.proofs.TableLaws.{table_from-get_or, table-get_or, table-length, table-ext}
use Rattle.lists.proofs.FillLaws.{Filled}
use Rattle.form.specs.Limits.{sheet_months, rate_count}

-- a list that is filled with the values of a function from `base` on is its table from there
pub filled-from : (base n : ℕ) (f : ℕ → ℕ) (l : List ℕ) → Filled (λ (i : ℕ). f (base + i)) 0 n n l → l ≡ table_from base n f
filled-from base n f l filled =
    ext_get_or 0 l (table_from base n f) (filled.long ∙ sym (table-length base n f))
    (λ i h. filled.holds i (omega (arith, filled.long)) ∙ sym (table_from-get_or base n f i 0 (omega (arith, filled.long))))

-- a list whose part from an index on becomes one value
filled-behind : (from n v : ℕ) (l new : List ℕ) → length l ≡ n → from ≤ n → new ≡ replicate (length (take (length l - from) (drop from l))) v
    → take from l ++ new ≡ table n (λ (i : ℕ). cond (ltb i from) (get_or l i 0) v)
filled-behind from n v l new long h e =
    ext_get_or 0 _ _ (ap (λ (x : List ℕ). length (take from l ++ x)) e ∙ size ∙ sym (table-length 0 n _))
    (λ i b.
    let within : i < n = omega (arith, ap (λ (x : List ℕ). length (take from l ++ x)) e, size) in
    by i within (ltb i from) refl ∙ sym (table-get_or n (λ (j : ℕ). cond (ltb j from) (get_or l j 0) v) i 0 within))
  where
    front : length (take from l) ≡ from
    front = length-take-le from l (rw long h)

    behind : length (take (length l - from) (drop from l)) ≡ n - from
    behind = length-take-le (length l - from) (drop from l) (omega (arith, length-drop from l)) ∙ ap (λ (k : ℕ). k - from) long

    size : length (take from l ++ replicate (length (take (length l - from) (drop from l))) v) ≡ n
    size = length-append (take from l) _ ∙ omega (arith, front, behind, length-replicate (length (take (length l - from) (drop from l))) v)

    by : (i : ℕ) → i < n → (u : Bool) → ltb i from ≡ u → get_or (take from l ++ new) i 0 ≡ cond (ltb i from) (get_or l i 0) v
    by i b true t =
        let early : i < from = ltb-true i from t in
        get_or-append (take from l) new 0 i (rw front early) ∙ get_or-take from l i 0 early ∙ rw t
    by i b false t =
        let late : from ≤ i = ltb-false i from t in
        get_or-append_right (take from l) new i 0 (rw front late)
        ∙ ap (λ (x : List ℕ). get_or x (i - length (take from l)) 0) e
        ∙ get_or-replicate (length (take (length l - from) (drop from l))) (i - length (take from l)) v 0 (omega (arith, front, behind))
        ∙ rw t

pub part-filled : (from n v : ℕ) (l new : List ℕ) → length l ≡ n → from ≤ n → new ≡ replicate (length (take (length l - from) (drop from l))) v
    → put_mid from (length l - from) l new ≡ table n (λ (i : ℕ). cond (ltb i from) (get_or l i 0) v)
part-filled from n v l new long h e =
    ap (λ (x : List ℕ). take from l ++ (new ++ x))
    (nil_from_length (drop (length l - from) (drop from l)) (omega (arith, length-drop (length l - from) (drop from l), length-drop from l)))
    ∙ ap (λ (x : List ℕ). take from l ++ x) (append-nil new)
    ∙ filled-behind from n v l new long h e

-- flat rates by column: the first in all entries, the second from 120 on, and the third from 240 on. Below 120 the first is left, i / 120 = 0;
-- below 240 the second, i / 120 = 1; else the third, i / 120 = 2
pub flat-filled : (f : ℕ → ℕ) {first second third : ℕ} (before : List ℕ) {all middle last : List ℕ} → first ≡ f 1 → second ≡ f 2 → third ≡ f 3
    → all ≡ table rate_count (λ (i : ℕ). cond (ltb i 0) (get_or before i 0) first)
    → middle ≡ table rate_count (λ (i : ℕ). cond (ltb i 120) (get_or all i 0) second)
    → last ≡ table rate_count (λ (i : ℕ). cond (ltb i 240) (get_or middle i 0) third)
    → last ≡ table rate_count (λ (i : ℕ). f (i / sheet_months + 1))
flat-filled f {first} {second} {third} before {all} {middle} {last} p q r a m l = l ∙ table-ext rate_count _ _ at
  where
    low : (i : ℕ) → i < rate_count → (u : Bool) → ltb i 120 ≡ u → i < 240 → cond u (get_or all i 0) second ≡ f (i / sheet_months + 1)
    low i h true e b =
        let n : i / sheet_months + 1 ≡ 1 = omega (arith, ltb-true i 120 e) in
        ap (λ (x : List ℕ). get_or x i 0) a
        ∙ table-get_or rate_count (λ (j : ℕ). cond (ltb j 0) (get_or before j 0) first) i 0 h
        ∙ simp (le-ltb i 0 zero-le) (p ∙ ap f (sym n))
    low i h false e b = let n : i / sheet_months + 1 ≡ 2 = omega (arith, ltb-false i 120 e) in q ∙ ap f (sym n)

    by : (i : ℕ) → i < rate_count → (v : Bool) → ltb i 240 ≡ v → cond v (get_or middle i 0) third ≡ f (i / sheet_months + 1)
    by i h true e =
        ap (λ (x : List ℕ). get_or x i 0) m
        ∙ table-get_or rate_count (λ (j : ℕ). cond (ltb j 120) (get_or all j 0) second) i 0 h
        ∙ low i h (ltb i 120) refl (ltb-true i 240 e)
    by i h false e = let n : i / sheet_months + 1 ≡ 3 = omega (arith, ltb-false i 240 e) in r ∙ ap f (sym n)

    at : (i : ℕ) → i < rate_count → cond (ltb i 240) (get_or middle i 0) third ≡ f (i / sheet_months + 1)
    at i h = by i h (ltb i 240) refl
