-- Records put one after the other: where each stands, what it holds, and what a search over them finds. Assumes nothing.
use Prim.Native.Nat.{ℕ, zero, suc, ◌+◌, ◌≤◌, ◌<◌}
use native.Mathlib.Nat.{not-suc-le-zero, le_of_suc-le-suc, eq-or-lt_of_le}
use native.Mathlib.Omega.{arith}
use mathlib.Core.Path.{◌≡◌, refl, sym, ap, subst, ◌∙◌}
use mathlib.Core.Logic.{⊎_elim}
use mathlib.Core.Bool.{Bool, true, false}
use mathlib.Core.List.{List, [], ◌∷◌, ◌++◌, append_assoc, append-nil}
use borrow.Author.Tests.{le-leb, lt-leb}
use lib.ListN.{length, get_or, take, drop, length-append}
use lib.Seq.{take_all}
use Rattle.lists.specs.Tables.{joined}
use Rattle.record_fields.specs.Bytes.{number_at}
use Rattle.record_fields.specs.Records.{record_length, next_record, search_records, first_record}
use Rattle.theorem_certificates.specs.Filed.{bytes, framed, run}
use Rattle.theorem_certificates.proofs.ByteLaws.{number_behind, number-front, bytes-length, number-first}

framed-length : (b : List ℕ) → length (framed b) ≡ 2 + length b
unfolding framed
framed-length b = length-append (bytes 2 (length b)) b ∙ ap (λ (n : ℕ). n + length b) (bytes-length 2 (length b))

-- the offset of record i
unfoldable pub offset : List (List ℕ) → ℕ → ℕ
offset bs i = length (run (take i bs))

-- the records before it, itself, and those behind it
parted : (bs : List (List ℕ)) (i : ℕ) → i < length bs → run bs ≡ run (take i bs) ++ (framed (get_or bs i []) ++ run (drop (suc i) bs))
unfolding run joined
parted [] i h = absurd (not-suc-le-zero h)
parted (b ∷ bs) zero h = refl
parted (b ∷ bs) (suc i) h =
    ap (λ (l : List ℕ). framed b ++ l) (parted bs i (le_of_suc-le-suc h))
    ∙ sym (append_assoc (framed b) (run (take i bs)) (framed (get_or bs i []) ++ run (drop (suc i) bs)))

-- by records: the first is 2 bytes and its body long; every offset behind it is that of the records without it, moved by its length
pub offset-suc : (bs : List (List ℕ)) (i : ℕ) → i < length bs → offset bs (suc i) ≡ offset bs i + (2 + length (get_or bs i []))
unfolding offset run joined
offset-suc [] i h = absurd (not-suc-le-zero h)
offset-suc (b ∷ bs) zero h = rw append-nil (omega (arith, framed-length b))
offset-suc (b ∷ bs) (suc i) h =
    omega (
      arith,
      offset-suc bs i (le_of_suc-le-suc h),
      length-append (framed b) (run (take (suc i) bs)),
      length-append (framed b) (run (take i bs)),
    )

module _ (bs : List (List ℕ)) where
  pub offset-first : offset bs 0 ≡ 0
  unfolding offset run joined
  offset-first = refl

  pub offset-last : offset bs (length bs) ≡ length (run bs)
  unfolding offset
  offset-last = rw (take_all (length bs) bs (omega arith))

  -- as many bytes as records at least
  pub offset-ge : (i : ℕ) → i ≤ length bs → i ≤ offset bs i
  offset-ge zero h = omega arith
  offset-ge (suc i) h = omega (arith, offset-suc bs i h, offset-ge i (omega arith))

  pub offset-lt : (i j : ℕ) → i < j → j ≤ length bs → offset bs i < offset bs j
  offset-lt i zero l h = absurd (not-suc-le-zero l)
  offset-lt i (suc j) l h =
      ⊎_elim (λ e. omega (arith, offset-suc bs j h, ap (offset bs) e)) (λ m. omega (arith, offset-suc bs j h, offset-lt i j m (omega arith)))
      (eq-or-lt_of_le (le_of_suc-le-suc l))

  -- what record i holds
  module _ (i : ℕ) (h : i < length bs) where
    -- the bytes are the records before, 2 bytes of length, the body and what is behind it: past the first two parts a number within the body
    -- is read off the body
    pub record-field : (j n : ℕ) → j + n ≤ length (get_or bs i []) → number_at (run bs) (offset bs i + 2 + j) n ≡ number_at (get_or bs i []) j n
    unfolding offset framed
    record-field j n l =
        let b : List ℕ = get_or bs i [] in
        let behind : List ℕ = run (drop (suc i) bs) in
        let index : length (run (take i bs)) + 2 + j ≡ length (run (take i bs)) + (length (bytes 2 (length b)) + j) = omega (arith, bytes-length 2 (length b)) in
        rw (parted bs i h, index, append_assoc (bytes 2 (length b)) b behind)
        (number_behind (run (take i bs)) (bytes 2 (length b) ++ (b ++ behind)) (length (bytes 2 (length b)) + j) n
        ∙ number_behind (bytes 2 (length b)) (b ++ behind) j n
        ∙ number-front b behind j n l)

    module _ (fits : length (get_or bs i []) < 65536) where
      -- the bytes are the records before, 2 bytes of length, and what is behind them: past the records before, the first number is that length
      pub record-length : record_length (run bs) (offset bs i) ≡ length (get_or bs i [])
      unfolding offset framed
      record-length =
          let b : List ℕ = get_or bs i [] in
          let behind : List ℕ = run (drop (suc i) bs) in
          let index : length (run (take i bs)) ≡ length (run (take i bs)) + 0 = omega arith in
          rw (parted bs i h, append_assoc (bytes 2 (length b)) b behind)
          (ap (λ (m : ℕ). number_at (run (take i bs) ++ (bytes 2 (length b) ++ (b ++ behind))) m 2) index
          ∙ number_behind (run (take i bs)) (bytes 2 (length b) ++ (b ++ behind)) 0 2
          ∙ number-first 2 (length b) (b ++ behind) fits)

      pub record-next : next_record (run bs) (offset bs i) ≡ offset bs (suc i)
      unfolding next_record
      record-next = omega (arith, record-length, offset-suc bs i h)

-- a search over the records before record k
module _ (bs : List (List ℕ)) (sized : (i : ℕ) → i < length bs → length (get_or bs i []) < 65536) (test : ℕ → Bool) (k : ℕ) (within : k ≤ length bs) where
  search-from-none : (steps j : ℕ) → j ≤ k → k ≤ j + steps → ((i : ℕ) → j ≤ i → i < k → test (offset bs i) ≡ false)
      → search_records (run bs) test (offset bs k) (offset bs j) steps ≡ offset bs k
  unfolding search_records
  search-from-none zero j l u f = refl
  search-from-none (suc steps) j l u f =
      ⊎_elim (λ e. rw (le-leb (offset bs k) (offset bs j) (omega (arith, ap (offset bs) e))))
      (λ m. rw
      (lt-leb (offset bs k) (offset bs j) (offset-lt bs j k m within), f j (omega arith) m, record-next bs j (omega arith) (sized j (omega arith)))
      (search-from-none steps (suc j) m (omega arith) (λ i a b. f i (omega arith) b))) (eq-or-lt_of_le l)

  -- none passes
  pub search-none : ((i : ℕ) → i < k → test (offset bs i) ≡ false) → first_record (run bs) test (offset bs k) ≡ offset bs k
  unfolding first_record
  search-none f =
      ap (λ (m : ℕ). search_records (run bs) test (offset bs k) m (offset bs k)) (sym (offset-first bs))
      ∙ search-from-none (offset bs k) 0 (omega arith) (omega (arith, offset-ge bs k within)) (λ i a b. f i b)

  module _ (i : ℕ) (before : i < k) (passes : test (offset bs i) ≡ true) where
    -- a record before i fails the test, and the search goes on at the next one; record i, before the end of the search, passes, and is its answer
    search-from-hit : (steps j : ℕ) → j ≤ i → k ≤ j + steps → ((m : ℕ) → j ≤ m → m < i → test (offset bs m) ≡ false)
        → search_records (run bs) test (offset bs k) (offset bs j) steps ≡ offset bs i
    unfolding search_records
    search-from-hit zero j l u f = absurd (omega arith)
    search-from-hit (suc steps) j l u f =
        ⊎_elim
        (λ e. rw (lt-leb (offset bs k) (offset bs j) (offset-lt bs j k (omega arith) within), subst (λ (m : ℕ). test (offset bs m) ≡ true) (sym e) passes)
        (ap (offset bs) e))
        (λ m. rw
        (lt-leb (offset bs k) (offset bs j) (offset-lt bs j k (omega arith) within), f j (omega arith) m, record-next bs j (omega arith) (sized j (omega arith)))
        (search-from-hit steps (suc j) m (omega arith) (λ n a b. f n (omega arith) b))) (eq-or-lt_of_le l)

    -- record i is the first that passes
    pub search-hit : ((m : ℕ) → m < i → test (offset bs m) ≡ false) → first_record (run bs) test (offset bs k) ≡ offset bs i
    unfolding first_record
    search-hit f =
        ap (λ (m : ℕ). search_records (run bs) test (offset bs k) m (offset bs k)) (sym (offset-first bs))
        ∙ search-from-hit (offset bs k) 0 (omega arith) (omega (arith, offset-ge bs k within)) (λ n a b. f n b)
