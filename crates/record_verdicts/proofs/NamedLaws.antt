-- When a record that names a cell has no fault but perhaps 16: of kind 1 or 6, and an amendment.
-- Assumes nothing.
use Rattle.std.specs.Prelude.{Some}
use Prim.Native.Nat.{ℕ, ◌+◌, ◌-◌, ◌≤◌}
use native.Mathlib.Omega.{arith}
use mathlib.Core.Path.{◌≡◌, refl, sym, subst, ◌∙◌}
use mathlib.Core.Bool.{Bool, true, false, and-false, ◌||◌, ◌&&◌, true≢false}
use mathlib.Core.List.{List}
use borrow.Author.Tests.{ltb-false, le-ltb, eqb-true, eqb-false, eq-eqb, ne_eqb}
use lib.Dec.{eqb}
use lib.ListN.{length, get_or}
use Rattle.form.specs.Cells.{first_cell}
use Rattle.answers.specs.Verdict.{accepted, refused_if, first_refusal, first_of}
use Rattle.form.specs.Limits.{class_limit}
use Rattle.form.specs.Classes.{cell_class}
use Rattle.record_fields.specs.Bytes.{number_at}
use Rattle.record_fields.specs.Records.{record_length, record_kind, record_cell, record_value, next_record}
use Rattle.record_kinds.specs.Kinds.{cell_kind, flat_rates_kind, tiers_kind, rate_path_kind, fine_coupon_kind, amendment_kind, gives_cell, names_cell, due_length}
use Rattle.record_kinds.specs.declared.items.Item.TheVariants.{Cell}
use Rattle.record_kinds.specs.Items.{record_class, record_item}
use Rattle.record_offsets.specs.Inner.Notes.{noted_before}
use Rattle.record_limits.specs.Bodies.{value_limit, unfit_for, unfit_amendment, over_limit}
use Rattle.record_limits.specs.TierFaults.{unsound_tiers}
use Rattle.record_limits.proofs.BodyLaws.{value-within, amendment-within}
use Rattle.record_shape.specs.Faults.{incomplete, path_beside_flat, unlisted, repeated}
use Rattle.record_shape.proofs.RepetitionLaws.{cell-repeated}
use Rattle.record_verdicts.specs.RecordVerdicts.{shape_verdict, body_verdict}
use Rattle.record_verdicts.specs.Inner.PlainVerdicts.{plain_verdict}
use Rattle.record_verdicts.proofs.FaultLaws.{Faultless, faultless, complete-ends, shaped-length}
use Rattle.record_verdicts.specs.Inner.SoundRecords.{sound_named}

-- what holds of kinds 1 and 6 holds of a kind that gives a cell its value
of-kind : (P : ℕ → Type 0) → P cell_kind → P fine_coupon_kind → (kind : ℕ) → gives_cell kind ≡ true → P kind
unfolding gives_cell
of-kind P one fine kind = by (eqb kind cell_kind) (eqb kind fine_coupon_kind) refl refl
  where
    by : (a b : Bool) → eqb kind cell_kind ≡ a → eqb kind fine_coupon_kind ≡ b → (a || b) ≡ true → P kind
    by true b e f h = subst P (sym (eqb-true kind cell_kind e)) one
    by false true e f h = subst P (sym (eqb-true kind fine_coupon_kind f)) fine
    by false false e f h = absurd (true≢false (sym h))

pub gives-named : (kind : ℕ) → gives_cell kind ≡ true → names_cell kind ≡ true
unfolding names_cell
gives-named kind h = rw h

pub amends-named : (kind : ℕ) → kind ≡ amendment_kind → names_cell kind ≡ true
unfolding names_cell gives_cell
amends-named kind e = rw e

module _ (s : List ℕ) (at : ℕ) where
  abbrev kind : ℕ
  kind = record_kind s at

  -- no row of the table holds
  pub passes : Faultless s at → plain_verdict s at ≡ accepted
  unfolding plain_verdict shape_verdict body_verdict first_of first_refusal refused_if accepted
  passes f = rw (f.complete, f.shaped, f.listed, f.single, f.alone, f.limited, f.loaded)

  -- what is told of a record
  pub record Told : Type 0 where
    pub named : names_cell kind ≡ true
    pub fault-free : Faultless s at

  sound-is : Told → sound_named s at ≡ true
  unfolding sound_named accepted
  sound-is t = rw (t.named, passes t.fault-free)

  pub sound-told : sound_named s at ≡ true → Told
  unfolding sound_named
  sound-told = by (names_cell kind) (eqb (plain_verdict s at).number 0) refl refl
    where
      by : (a b : Bool) → names_cell kind ≡ a → eqb (plain_verdict s at).number 0 ≡ b → (a && b) ≡ true → Told
      by true true e f h = record { named = e; fault-free = faultless s at (eqb-true (plain_verdict s at).number 0 f) }
      by true false e f h = absurd (true≢false (sym h))
      by false b e f h = absurd (true≢false (sym h))

  -- an answer that is true just where the record is told to be sound
  pub told : (b : Bool) → (b ≡ true → Told) → (Told → b ≡ true) → b ≡ sound_named s at
  told b to from = by (sound_named s at) b refl refl
    where
      by : (a c : Bool) → sound_named s at ≡ a → b ≡ c → c ≡ a
      by true true e f = refl
      by true false e f = absurd (true≢false (sym (from (sound-told e)) ∙ f))
      by false true e f = absurd (true≢false (sym (sound-is (to f)) ∙ e))
      by false false e f = refl

  pub not-told : (Told → ⊥) → false ≡ sound_named s at
  not-told h = told false (λ e. absurd (true≢false (sym e))) (λ t. absurd (h t))

  -- a record that ends within the bytes
  complete-is : (size : ℕ) → record_length s at ≡ size → 2 ≤ size → at + 2 + size ≤ length s → incomplete s at ≡ false
  unfolding incomplete next_record
  complete-is size e l h =
      rw (le-ltb (length s) (at + 2) (omega arith), le-ltb (record_length s at) 2 (omega (arith, e)), le-ltb (length s) (at + 2 + record_length s at) (omega (arith, e)))

  listed-is : (record_class s at ≡ 0 → ⊥) → unlisted s at ≡ false
  listed-is h = rw (ne_eqb (record_class s at) 0 h) (and-false (names_cell kind))

  is-listed : names_cell kind ≡ true → unlisted s at ≡ false → record_class s at ≡ 0 → ⊥
  is-listed named h = eqb-false (record_class s at) 0 (simp named at h)

  pub told-listed : Told → record_class s at ≡ 0 → ⊥
  told-listed t = is-listed t.named t.fault-free.listed

  -- a record of kind 1 or 6: its length, its cell, which is listed and stands nowhere before, and its value
  pub record FitValue : Type 0 where
    pub within : at + 14 ≤ length s
    pub sized : record_length s at ≡ 12
    pub listed : record_class s at ≡ 0 → ⊥
    pub once : length s ≤ get_or (noted_before s at).cells (record_cell s at - first_cell) 0
    pub low : record_value s at ≤ value_limit s at

  module _ (gives : gives_cell kind ≡ true) where
    cell-due : due_length s at ≡ 12
    unfolding due_length
    cell-due = simp gives

    cell-item : (record_class s at ≡ 0 → ⊥) → record_item s at ≡ Some (Cell (record_cell s at))
    unfolding record_item
    cell-item h = simp (gives, ne_eqb (record_class s at) 0 h)

    cell-alone : path_beside_flat s at ≡ false
    unfolding path_beside_flat
    cell-alone =
        rw (of-kind (λ (k : ℕ). eqb k flat_rates_kind ≡ false) refl refl kind gives, of-kind (λ (k : ℕ). eqb k rate_path_kind ≡ false) refl refl kind gives)

    cell-loaded : unsound_tiers s at ≡ false
    unfolding unsound_tiers
    cell-loaded = rw (of-kind (λ (k : ℕ). eqb k tiers_kind ≡ false) refl refl kind gives)

    cell-limited : record_value s at ≤ value_limit s at → over_limit s at ≡ false
    unfolding over_limit
    cell-limited h = simp gives (le-ltb (value_limit s at) (record_value s at) h)

    -- Fourteen bytes hold 2 and a length of 12, which is what kinds 1 and 6 are due. The cell is listed and noted nowhere before, the value is
    -- within its limit, and 12 and 11 never hold of a kind that gives a cell
    pub value-told : FitValue → Told
    value-told f =
        record {
          named = gives-named kind gives;
          fault-free = record {
            complete = complete-is 12 f.sized (omega arith) (omega (arith, f.within));
            shaped = rw (f.sized, cell-due);
            listed = listed-is f.listed;
            single = sym (cell-repeated s at (record_cell s at) (omega (arith, f.within)) (cell-item f.listed)) ∙ le-ltb _ _ f.once;
            alone = cell-alone;
            limited = cell-limited f.low;
            loaded = cell-loaded;
          };
        }

    -- No fault of shape: the length is 12, and the record ends within the bytes, which are 14 from its offset. No repetition: what is noted
    -- for its cell is not before the end. No fault of limit: its value is within its own
    pub told-value : Told → FitValue
    unfolding next_record
    told-value t =
        let f = t.fault-free in
        let sized : record_length s at ≡ 12 = shaped-length s at f.shaped ∙ cell-due in
        let within : at + 14 ≤ length s = omega (arith, complete-ends s at f.complete, sized) in
        let listed = told-listed t in
        record {
          within = within;
          sized = sized;
          listed = listed;
          once = ltb-false _ _ (cell-repeated s at (record_cell s at) (omega (arith, within)) (cell-item listed) ∙ f.single);
          low = value-within s at f.limited gives;
        }

  -- an amendment: its length, its cell, which is listed, and what it says
  pub record FitRecord : Type 0 where
    pub within : at + 18 ≤ length s
    pub sized : record_length s at ≡ 16
    pub listed : record_class s at ≡ 0 → ⊥
    pub fit : unfit_amendment s at ≡ false

  module _ (amends : kind ≡ amendment_kind) where
    amendment-due : due_length s at ≡ 16
    unfolding due_length gives_cell
    amendment-due = rw amends

    amendment-single : repeated s at ≡ false
    amendment-single = simp (eq-eqb kind amendment_kind amends)

    amendment-alone : path_beside_flat s at ≡ false
    unfolding path_beside_flat
    amendment-alone = rw amends

    amendment-loaded : unsound_tiers s at ≡ false
    unfolding unsound_tiers
    amendment-loaded = rw amends

    amendment-limited : unfit_amendment s at ≡ false → over_limit s at ≡ false
    unfolding over_limit gives_cell
    amendment-limited h = rw amends h

    -- Eighteen bytes hold 2 and a length of 16, which is what kind 7 is due. The cell is listed, the amendment fits it, and 4, 12 and 11 never
    -- hold of kind 7
    pub amendment-told : FitRecord → Told
    amendment-told f =
        record {
          named = amends-named kind amends;
          fault-free = record {
            complete = complete-is 16 f.sized (omega arith) (omega (arith, f.within));
            shaped = rw (f.sized, amendment-due);
            listed = listed-is f.listed;
            single = amendment-single;
            alone = amendment-alone;
            limited = amendment-limited f.fit;
            loaded = amendment-loaded;
          };
        }

    -- no fault of shape: the length is 16, and the record ends within the bytes, which are 18 from its offset; its cell is listed, and 5 does
    -- not hold, so that it fits
    pub told-amendment : Told → FitRecord
    unfolding next_record
    told-amendment t =
        let f = t.fault-free in
        let sized : record_length s at ≡ 16 = shaped-length s at f.shaped ∙ amendment-due in
        record {
          within = omega (arith, complete-ends s at f.complete, sized);
          sized = sized;
          listed = told-listed t;
          fit = amendment-within s at f.limited amends;
        }

    -- what an amendment says, by its fields
    pub fit_is : {limit number state value : ℕ} → limit ≡ class_limit (cell_class (record_cell s at)) → number ≡ number_at s (at + 6) 2 → state ≡ number_at s (at + 8) 2
        → value ≡ number_at s (at + 10) 8
        → unfit_for limit number state value ≡ unfit_amendment s at
    unfolding unfit_amendment
    fit_is p q r v =
        let second : at + 2 + 4 ≡ at + 6 = omega arith in
        let third : at + 2 + 6 ≡ at + 8 = omega arith in
        rw (p, q, r, v, second, third)

  -- a record that is told to be sound is of one of the three kinds, and takes 14 bytes at least
  pub other-kind : gives_cell kind ≡ false → (kind ≡ amendment_kind → ⊥) → Told → ⊥
  unfolding names_cell
  other-kind g a t = a (eqb-true kind amendment_kind (simp g at t.named))

  pub told-within : Told → at + 14 ≤ length s
  told-within t = by (gives_cell kind) (eqb kind amendment_kind) refl refl
    where
      by : (g a : Bool) → gives_cell kind ≡ g → eqb kind amendment_kind ≡ a → at + 14 ≤ length s
      by true a e f = (told-value e t).within
      by false true e f = omega (arith, (told-amendment (eqb-true kind amendment_kind f) t).within)
      by false false e f = absurd (other-kind e (eqb-false kind amendment_kind f) t)
