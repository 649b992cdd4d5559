use Rattle.std.proofs.Common.{◌≡◌, refl, sym, subst, ℕ, ◌-◌, arith, inl, inr}
use Rattle.std.proofs.lemmas.Grind.{common_steps}
use Rattle.std.proofs.lemmas.Int.{ints}
use Rattle.std.proofs.lemmas.Bool.{cases_eq}
use Rattle.lifting.specs.Carried.{IsShortAt}
use Rattle.lifting.proofs.Fitting.{short_fits}
use Rattle.lifting.proofs.Levels.{lower_levels_fit, room_alone, room_for_fewer}
use Rattle.lifting.proofs.short_samples.synth_samples_short.Goals as goal

pub sample_only-requires-clause-sizes : goal.sample_only-requires-clause-sizes
sample_only-requires-clause-sizes c = grind (ints, arith, common_steps)

pub synth_short_levels-requires-clause-room : goal.synth_short_levels-requires-clause-room
synth_short_levels-requires-clause-room c =
    lower_levels_fit c.args.bands.now c.args.plane.now c.args.scratch.now c.args.size.w c.args.size.h c.requires.room (omega (arith, c.depth.ensures.value, c.if-depth-eq0.false)) _ (omega (arith, c.depth-last.ensures.value))

pub returns-then-not-synth_short_levels-clause-samples : goal.returns-then-not-synth_short_levels-clause-samples
returns-then-not-synth_short_levels-clause-samples c = grind (ints, arith, common_steps)

pub is_short-requires-clause-room : goal.is_short-requires-clause-room
is_short-requires-clause-room c =
    let b = c.args.bands.now in
    let n : ℕ = c.depth-last.result - 1 in
    let up = c.synth_short_levels in
    room_alone b n c.args.size.w c.args.size.h up.new.plane up.new.scratch
    (room_for_fewer b n c.args.size.w c.args.size.h c.args.plane.now c.args.scratch.now
    (lower_levels_fit b c.args.plane.now c.args.scratch.now c.args.size.w c.args.size.h c.requires.room (omega (arith, c.depth.ensures.value, c.if-depth-eq0.false)) n (omega (arith, c.depth-last.ensures.value)))
    n (omega arith) up.new.plane up.new.scratch up.ensures.same_size up.ensures.same_size_scratch)

pub is_short-requires-clause-below : goal.is_short-requires-clause-below
is_short-requires-clause-below c = grind (ints, arith, common_steps)

pub returns-then-not-is_short-clause-samples : goal.returns-then-not-is_short-clause-samples
returns-then-not-is_short-clause-samples c = grind (ints, arith, common_steps)

pub synth_last-requires-clause-has_room : goal.synth_last-requires-clause-has_room
synth_last-requires-clause-has_room c =
    let b = c.args.bands.now in
    let is : c.depth-last.result - 1 ≡ b.depth - 1 = omega (arith, c.depth-last.ensures.value) in
    short_fits c.args.wavelet b c.args.size.w c.args.size.h (b.depth - 1) (subst (λ (n : ℕ). IsShortAt c.args.wavelet b c.args.size.w c.args.size.h n) is (c.is_short.ensures.0 c.if-not-is_short.false))

pub synth_last-requires-clause-below : goal.synth_last-requires-clause-below
synth_last-requires-clause-below c = grind (ints, arith, common_steps)

pub returns-clause-answer : goal.returns-clause-answer
returns-clause-answer c =
    let b = c.args.bands.now in
    let last : ℕ = c.depth-last.result - 1 in (
      λ e n lt. elim (cases_eq n last) [
        | inl is ↦ subst (λ (j : ℕ). IsShortAt c.args.wavelet b c.args.size.w c.args.size.h j) (sym is) (c.is_short.ensures.0 c.if-not-is_short.false)
        | inr ne ↦ c.synth_short_levels.ensures.answer.0 c.if-not-synth_short_levels.false n (omega (arith, c.depth-last.ensures.value))
      ],
      λ p. refl,
    )

pub returns-clause-samples : goal.returns-clause-samples
returns-clause-samples c = grind (ints, arith, common_steps)
