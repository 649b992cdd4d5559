use Rattle.std.proofs.Common.{◌≡◌, ◌∙◌, sym, ap, ℕ, ◌+◌, ◌*◌, ◌<◌, ℤ, pos, length, slice_index_or, arith}
use Rattle.planes.specs.Valued.{valued}
use Rattle.lifting.specs.Places.{woven}
use Rattle.lifting.specs.Steps.{halved}
use Rattle.lifting.specs.Clipping.{clipped_up}
use Rattle.lifting.proofs.WovenLines.{woven_even, woven_odd}
use Rattle.lifting.proofs.LaneSamples.{next_pairs}
use Rattle.lifting.proofs.SampleRows.{put_two, read_is, read_small}
use Rattle.lifting.proofs.samples.weave_each.Goals as goal

pub loop-k-preserved : goal.loop-k-preserved
loop-k-preserved G c =
    let e : ℕ → ℤ = valued G.T.Number.value G.T.Number.none c.args.even.now in
    let o : ℕ → ℤ = valued G.T.Number.value G.T.Number.none c.args.odd.now in
    let k : ℕ = c.loop-k.k in
    let up : ℤ → ℤ = λ v. clipped_up (G.T.Number.value c.args.half) (halved c.args.wavelet v) in
    let room : 2 * k + 1 < length c.loop-k.dst = omega (arith, c.loop-k-test.true, c.requires.room, c.loop-k.auto) in
    let lt : k < length c.args.even.now = omega (arith, c.loop-k-test.true, c.requires.inside) in
    record {
      done = put_two (λ i (v : ℕ). pos v ≡ up (woven e o i)) 0 c.sample.result c.sample-in-loop-k.result c.loop-k.dst k room c.loop-k.invariant.done
          (c.sample.ensures ∙ ap up (read_is G.T.Number.value G.T.Number.none c.args.even.now k c.index-even-k.result lt c.index-even-k.is ∙ sym (woven_even e o k)))
          (c.sample-in-loop-k.ensures ∙ ap up (read_is G.T.Number.value G.T.Number.none c.args.odd.now k c.index-odd-k.result (omega (arith, lt, c.requires.same_len)) c.index-odd-k.is ∙ sym (woven_odd e o k)));
    }

pub sample-requires-in-loop-k-clause-small : goal.sample-requires-in-loop-k-clause-small
sample-requires-in-loop-k-clause-small G c =
    read_small G.T.Number.value G.T.Number.none (G.T.Number.reach + G.T.Number.reach) c.args.odd.now c.loop-k.k c.index-odd-k.result (omega (arith, c.loop-k-test.true, c.requires.inside, c.requires.same_len)) c.index-odd-k.is c.requires.odd_small

pub loop-at-preserved : goal.loop-at-preserved
loop-at-preserved G c =
    let e : ℕ → ℤ = valued G.T.Number.value G.T.Number.none c.args.even.now in
    let o : ℕ → ℤ = valued G.T.Number.value G.T.Number.none c.args.odd.now in
    let from : ℕ = c.loop-at.at in
    let up : ℤ → ℤ = λ v. clipped_up (G.T.Number.value c.args.half) (halved c.args.wavelet v) in
    let done = c.weave_block.ensures in
    record {
      inside = omega (arith, c.loop-at-test.true, c.loop-at.invariant.inside);
      done = next_pairs from (λ j. pos (slice_index_or c.weave_block.new.dst j 0) ≡ up (woven e o j)) (λ j lj. ap pos (done.below j lj) ∙ c.loop-at.invariant.done j lj) (λ i lt. done.block i lt);
    }
