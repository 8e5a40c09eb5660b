-- The first refusal of verdicts in their order: of two, of one condition, of a short list and another, and of several that are tried in turn.
-- Assumes nothing.
use Prim.Native.Nat.{ℕ, zero, suc, ◌+◌, ◌-◌, ◌≤◌, ◌<◌}
use native.Mathlib.Nat.{sub-zero, le_of_suc-le-suc, not-suc-le-zero}
use native.Mathlib.Numerals.{add-one}
use native.Mathlib.Omega.{arith}
use mathlib.Core.Path.{◌≡◌, refl, sym, ap, ◌∙◌}
use mathlib.Core.Bool.{Bool, true, false, cond}
use borrow.Author.Tests.{lt-ltb, le-ltb, ltb-false, eq-eqb, ne_eqb, eqb-true, eqb-false}
use lib.Dec.{ltb, eqb}
use Rattle.lists.specs.Tables.{table_from}
use Rattle.answers.specs.Verdict.{Verdict, accepted, refused, refused_if, first_refusal, first_of, list_verdict}

-- the number of a verdict, 0 where it accepts
abbrev pub number-of : Verdict → ℕ
number-of v = v.number

module _ (v next : Verdict) where
  -- the first does not refuse: the next decides
  pub first-passed : v.number ≡ 0 → first_refusal v next ≡ next
  unfolding first_refusal
  first-passed h = simp (eq-eqb v.number 0 h)

  -- the first refuses
  pub first-refused : (v.number ≡ 0 → ⊥) → first_refusal v next ≡ v
  unfolding first_refusal
  first-refused h = simp (ne_eqb v.number 0 h)

  -- no refusal: neither refuses
  pub first-none : (first_refusal v next).number ≡ 0 → (v.number ≡ 0) × (next.number ≡ 0)
  first-none e = by (eqb v.number 0) refl
    where
      by : (b : Bool) → eqb v.number 0 ≡ b → (v.number ≡ 0) × (next.number ≡ 0)
      by true t =
          let zero = eqb-true v.number 0 t in
          (zero, ap number-of (sym (first-passed zero)) ∙ e)
      by false t =
          let some = eqb-false v.number 0 t in
          absurd (some (ap number-of (sym (first-refused some)) ∙ e))

-- a condition that holds refuses with its number
pub condition-holds : (b : Bool) (n at : ℕ) → b ≡ true → refused n at ≡ refused_if b n at
unfolding refused_if
condition-holds b n at h = rw h

pub condition-refuses : (b : Bool) (n at : ℕ) → b ≡ true → (refused_if b (suc n) at).number ≡ 0 → ⊥
unfolding refused
condition-refuses b n at h e =
    let numbered : suc n ≡ 0 = ap number-of (condition-holds b (suc n) at h) ∙ e in
    absurd (omega arith)

-- a condition that does not hold accepts
pub condition-passes : (b : Bool) (n at : ℕ) → b ≡ false → accepted ≡ refused_if b n at
unfolding refused_if
condition-passes b n at h = rw h

pub condition-none : (b : Bool) (n at : ℕ) → b ≡ false → (refused_if b n at).number ≡ 0
unfolding accepted
condition-none b n at h = ap number-of (sym (condition-passes b n at h))

-- a condition that does not refuse does not hold
pub condition-fails : (b : Bool) (n at : ℕ) → (refused_if b (suc n) at).number ≡ 0 → b ≡ false
condition-fails true n at h = absurd (condition-refuses true n at refl h)
condition-fails false n at h = refl

-- a row whose condition holds before other rows, and one whose condition does not
pub row-holds : {b : Bool} (n at : ℕ) (rest : Verdict) → true ≡ b → refused (suc n) at ≡ first_refusal (refused_if b (suc n) at) rest
row-holds {b} n at rest h =
    condition-holds b (suc n) at (sym h) ∙ sym (first-refused (refused_if b (suc n) at) rest (condition-refuses b n at (sym h)))

pub row-fails : {b : Bool} (n at : ℕ) {v rest : Verdict} → false ≡ b → v ≡ rest → v ≡ first_refusal (refused_if b n at) rest
row-fails {b} n at {v} {rest} h e = e ∙ sym (first-passed (refused_if b n at) rest (condition-none b n at (sym h)))

-- a verdict that refuses, refuses at a location
abbrev pub LocatedAt : ℕ → Verdict → Type 0
LocatedAt at v = (v.number ≡ 0 → ⊥) → v.location ≡ at

pub located-accepted : (at : ℕ) → LocatedAt at accepted
unfolding accepted
located-accepted at h = absurd (h refl)

pub located-row : (b : Bool) (n at : ℕ) → LocatedAt at (refused_if b n at)
unfolding refused_if refused accepted
located-row true n at h = refl
located-row false n at h = absurd (h refl)

pub located-first : (at : ℕ) (v next : Verdict) → LocatedAt at v → LocatedAt at next → LocatedAt at (first_refusal v next)
unfolding first_refusal
located-first at v next l m = by (eqb v.number 0) refl
  where
    by : (b : Bool) → eqb v.number 0 ≡ b → LocatedAt at (cond b next v)
    by true e = m
    by false e = l

-- acceptance before other verdicts
pub accepted-first : {v w : Verdict} (next : Verdict) → accepted ≡ v → w ≡ next → w ≡ first_refusal v next
unfolding accepted
accepted-first {v} next e f = f ∙ sym (first-passed v next (ap number-of (sym e)))

-- 10 before another verdict: a short list, a list that is long enough, and what no refusal says of the list
module _ (least size : ℕ) (next : Verdict) where
  pub list-short : size < least → refused 10 size ≡ first_refusal (list_verdict least size) next
  unfolding list_verdict
  list-short h =
      let short = lt-ltb size least h in
      condition-holds (ltb size least) 10 size short ∙ sym (first-refused (list_verdict least size) next (condition-refuses (ltb size least) 9 size short))

  pub list-long : least ≤ size → next ≡ first_refusal (list_verdict least size) next
  unfolding list_verdict
  list-long h = sym (first-passed (list_verdict least size) next (condition-none (ltb size least) 10 size (le-ltb size least h)))

  pub list-none : (first_refusal (list_verdict least size) next).number ≡ 0 → least ≤ size
  unfolding list_verdict
  list-none h = ltb-false size least (condition-fails (ltb size least) 9 size (first-none (list_verdict least size) next h).0)

module _ (verdict : ℕ → Verdict) where
  -- the first i of n verdicts do not refuse
  pub record Untried (n i : ℕ) : Type 0 where
    pub within : i ≤ n
    pub rest : first_of (table_from 0 n verdict) ≡ first_of (table_from i (n - i) verdict)

  -- before the first
  pub tried-start : (n : ℕ) → Untried n 0
  tried-start n = record { within = omega arith; rest = rw sub-zero }

  rest_from : (n i : ℕ) → i < n → first_of (table_from i (n - i) verdict) ≡ first_refusal (verdict i) (first_of (table_from (i + 1) (n - (i + 1)) verdict))
  unfolding first_of table_from
  rest_from n i h =
      let e : n - i ≡ suc (n - (i + 1)) = omega arith in
      rw (e, add-one)

  -- the next refuses: it is the first
  pub tried_here : (n i : ℕ) → Untried n i → i < n → ((verdict i).number ≡ 0 → ⊥) → verdict i ≡ first_of (table_from 0 n verdict)
  tried_here n i u h r = sym (u.rest ∙ rest_from n i h ∙ first-refused (verdict i) _ r)

  -- the next does not refuse
  pub tried-next : (n i : ℕ) → Untried n i → i < n → (verdict i).number ≡ 0 → Untried n (i + 1)
  tried-next n i u h z = record { within = omega arith; rest = u.rest ∙ rest_from n i h ∙ first-passed (verdict i) _ z }

  -- none refuses
  pub tried-all : (n i : ℕ) → Untried n i → n ≤ i → accepted ≡ first_of (table_from 0 n verdict)
  unfolding first_of table_from
  tried-all n i u h =
      let e : n - i ≡ 0 = omega arith in
      sym (u.rest ∙ rw e)

  none_from : (j n : ℕ) → (first_of (table_from j n verdict)).number ≡ 0 → (i : ℕ) → i < n → (verdict (j + i)).number ≡ 0
  unfolding first_of table_from
  none_from j zero h i l = absurd (not-suc-le-zero l)
  none_from j (suc n) h zero l =
      let e : j + 0 ≡ j = omega arith in
      rw e (first-none (verdict j) (first_of (table_from (suc j) n verdict)) h).0
  none_from j (suc n) h (suc i) l =
      let e : j + suc i ≡ suc j + i = omega arith in
      rw e (none_from (suc j) n (first-none (verdict j) (first_of (table_from (suc j) n verdict)) h).1 i (le_of_suc-le-suc l))

  -- what it says of each that none refuses
  pub tried-none : (n : ℕ) → (first_of (table_from 0 n verdict)).number ≡ 0 → (i : ℕ) → i < n → (verdict i).number ≡ 0
  tried-none n h i l =
      let e : 0 + i ≡ i = omega arith in
      rw e at (none_from 0 n h i l)
