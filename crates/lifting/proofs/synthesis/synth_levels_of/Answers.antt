use Rattle.std.proofs.Common.{◌≡◌, subst, ℕ, ◌+◌, arith}
use Rattle.lifting.specs.LevelRoom.{HoldsLevels}
use Rattle.lifting.proofs.Levels.{room_for_fewer}
use Rattle.lifting.proofs.synthesis.synth_levels_of.Goals as goal

pub synth_next-requires-clause-room : goal.synth_next-requires-clause-room
synth_next-requires-clause-room G c =
    let i = c.loop-n.invariant in
    room_for_fewer c.args.bands.now c.args.levels c.args.size.w c.args.size.h c.args.plane.now c.args.scratch.now c.requires.room (c.loop-n.n + 1) (omega (arith, c.loop-n-test.true)) c.loop-n.plane c.loop-n.scratch i.same_size i.same_size_scratch

pub returns-clause-levels : goal.returns-clause-levels
returns-clause-levels g c =
    let last : c.loop-n.n ≡ c.args.levels = omega (arith, c.loop-n-test.false, c.loop-n.auto.n-end) in
    subst (λ (n : ℕ). HoldsLevels g.T.Number.value g.T.Number.none c.args.wavelet c.args.bands.now c.args.size.w c.args.size.h n c.loop-n.plane) last c.loop-n.invariant.levels
