-- `withdrawal_months::level_multipliers` meets its contract: the levels passed have their multipliers, the others none. Assumes nothing.
use Prim.Native.Nat.{ℕ, zero, suc}
use mathlib.Core.Path.{◌≡◌, refl, ◌∙◌}
use native.Mathlib.Omega.{arith}
use lib.ListN.{replicate}
use lib.Seq.{get_or-set_other}
use Rattle.lists.proofs.FillLaws.{fill_none, fill_more}
use Rattle.withdrawal_months.specs.Levels.{multipliers_at, no_multipliers, held_at}
use Rattle.withdrawal_months.proofs.LevelLaws.{last-le}
use Rattle.withdrawal_months.proofs.level_multipliers.Goals as goal

none-held : (n level : ℕ) → held_at (replicate n no_multipliers) level ≡ no_multipliers
none-held zero level = refl
none-held (suc n) zero = refl
none-held (suc n) (suc level) = none-held n level

pub overflow_add-level-end : goal.overflow_add-level-end
overflow_add-level-end c = omega (arith, c.last_level-level-end.ensures, last-le c.args.brokered c.args.tiers.now c.requires.2)

pub loop-level-init : goal.loop-level-init
loop-level-init c = (fill_none _ no_multipliers no_multipliers 17, λ level h. none-held 17 level)

pub offset_bounds-multipliers-level : goal.offset_bounds-multipliers-level
offset_bounds-multipliers-level c = omega (arith, c.last_level-level-end.ensures, last-le c.args.brokered c.args.tiers.now c.requires.2)

pub bounds-multipliers-level : goal.bounds-multipliers-level
bounds-multipliers-level c = omega (arith, c.last_level-level-end.ensures, last-le c.args.brokered c.args.tiers.now c.requires.2)

pub multipliers_of-requires : goal.multipliers_of-requires
multipliers_of-requires c =
    (c.requires.0, c.requires.1, rw c.level_survival-survival.ensures (c.requires.3 c.loop-level.level))

pub loop-level-preserved : goal.loop-level-preserved
unfolding multipliers_at
loop-level-preserved c =
    let state = c.loop-level in
    let made = c.multipliers_of.result in (
      fill_more _ no_multipliers 17 state.level state.multipliers made (omega (arith, c.last_level-level-end.ensures, last-le c.args.brokered c.args.tiers.now c.requires.2))
          (c.multipliers_of.ensures ∙ rw c.level_survival-survival.ensures) state.invariant.0,
      λ level h. get_or-set_other state.multipliers state.level level made no_multipliers (λ e. omega (arith, e, h)) ∙ state.invariant.1 level (omega (arith, h)),
    )

pub returns : goal.returns
returns c = (
  λ level h. c.loop-level.invariant.0.holds level (omega (arith, h, c.last_level-level-end.ensures)),
  λ level h. c.loop-level.invariant.1 level (omega (arith, h, c.last_level-level-end.ensures)),
)
