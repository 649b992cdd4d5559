use Rattle.std.proofs.Common.{sym, subst, ℕ, ◌+◌, arith, inl, inr}
use Rattle.std.proofs.lemmas.Bool.{cases_eq}
use Rattle.lifting.specs.Carried.{IsShortAt}
use Rattle.lifting.proofs.Levels.{room_alone, room_for_fewer, sizes_after}
use Rattle.lifting.proofs.Fitting.{short_fits}
use Rattle.lifting.proofs.short_samples.synth_short_levels.Goals as goal

pub is_short-requires-clause-room : goal.is_short-requires-clause-room
is_short-requires-clause-room c =
    let i = c.loop-n.invariant in
    room_alone c.args.bands.now c.loop-n.n c.args.size.w c.args.size.h c.loop-n.plane c.loop-n.scratch
    (room_for_fewer c.args.bands.now c.args.levels c.args.size.w c.args.size.h c.args.plane.now c.args.scratch.now c.requires.room c.loop-n.n (omega (arith, c.loop-n-test.true)) c.loop-n.plane c.loop-n.scratch i.same_size i.same_size_scratch)

pub synth_next-requires-clause-room : goal.synth_next-requires-clause-room
synth_next-requires-clause-room c =
    let i = c.loop-n.invariant in
    room_for_fewer c.args.bands.now c.args.levels c.args.size.w c.args.size.h c.args.plane.now c.args.scratch.now c.requires.room (c.loop-n.n + 1) (omega (arith, c.loop-n-test.true)) c.loop-n.plane c.loop-n.scratch i.same_size i.same_size_scratch

pub synth_next-requires-clause-has_room : goal.synth_next-requires-clause-has_room
synth_next-requires-clause-has_room c = short_fits c.args.wavelet c.args.bands.now c.args.size.w c.args.size.h c.loop-n.n (c.is_short.ensures.0 c.if-not-is_short.false)

pub loop-n-preserved : goal.loop-n-preserved
loop-n-preserved c =
    let i = c.loop-n.invariant in
    let up = c.synth_next.ensures in
    record {
      same_size = sizes_after c.args.plane.now c.loop-n.plane c.synth_next.new.plane i.same_size up.same_size;
      same_size_scratch = sizes_after c.args.scratch.now c.loop-n.scratch c.synth_next.new.scratch i.same_size_scratch up.same_size_scratch;
      short = λ n lt. elim (cases_eq n c.loop-n.n) [
        | inl is ↦ subst (λ (j : ℕ). IsShortAt c.args.wavelet c.args.bands.now c.args.size.w c.args.size.h j) (sym is) (c.is_short.ensures.0 c.if-not-is_short.false)
        | inr ne ↦ i.short n (omega arith)
      ];
      levels = up.levels;
    }
