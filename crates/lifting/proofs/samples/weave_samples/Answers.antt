use Rattle.std.proofs.Common.{◌≡◌, ◌∙◌, sym, ap, ℕ, ◌*◌, ◌/◌, ◌<◌, ℤ, pos, length, arith}
use Rattle.planes.specs.Valued.{valued}
use Rattle.lifting.specs.Places.{woven}
use Rattle.lifting.specs.Steps.{halved}
use Rattle.lifting.specs.Clipping.{clipped_up}
use Rattle.lifting.proofs.WovenLines.{woven_even}
use Rattle.lifting.proofs.SampleRows.{put_one, read_is, sample_is}
use Rattle.lifting.proofs.samples.weave_samples.Goals as goal

pub returns-then-n-count : goal.returns-then-n-count
returns-then-n-count G c i lt =
    let e : ℕ → ℤ = valued G.T.Number.value G.T.Number.none c.args.even.now in
    let o : ℕ → ℤ = valued G.T.Number.value G.T.Number.none c.args.odd.now in
    let k : ℕ = length c.args.dst.now / 2 in
    let half = G.T.Number.value c.half_range-half.result in
    let up : ℤ → ℤ = λ v. clipped_up half (halved c.args.wavelet v) in
    let pairs = c.weave_pairs.new.dst in
    let same : length pairs ≡ length c.args.dst.now = c.weave_pairs.auto.dst in
    let inside : k < length c.args.even.now = omega (arith, c.if-n-count.true, c.requires.room) in
    sample_is c.args.depth half (halved c.args.wavelet (woven e o i)) _ c.half_range-half.ensures
    (put_one (λ i (v : ℕ). pos v ≡ up (woven e o i)) 0 c.sample.result pairs (2 * k) (omega (arith, same, c.if-n-count.true)) c.weave_pairs.ensures
    (c.sample.ensures ∙ ap up (read_is G.T.Number.value G.T.Number.none c.args.even.now k c.index-even-count.result inside c.index-even-count.is ∙ sym (woven_even e o k)))
    i (omega (arith, lt)))

pub returns-else-n-count : goal.returns-else-n-count
returns-else-n-count G c i lt =
    sample_is c.args.depth (G.T.Number.value c.half_range-half.result) _ _ c.half_range-half.ensures (c.weave_pairs.ensures i (omega (arith, lt, c.if-n-count.false)))
