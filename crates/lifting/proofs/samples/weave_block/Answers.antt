use Rattle.std.proofs.Common.{◌∙◌, ap, ℤ, pos}
use Rattle.planes.specs.Valued.{valued}
use Rattle.lifting.specs.Lines.{Line}
use Rattle.lifting.specs.Steps.{halved}
use Rattle.lifting.specs.Clipping.{clipped_up}
use Rattle.lifting.proofs.LaneSamples.{woven_block}
use Rattle.lifting.proofs.samples.weave_block.Goals as goal

pub returns-clause-block : goal.returns-clause-block
returns-clause-block G c i lt =
    let e : Line = valued G.T.Number.value G.T.Number.none c.args.even.now in
    let o : Line = valued G.T.Number.value G.T.Number.none c.args.odd.now in
    let k = c.args.wavelet in
    let half = G.T.Number.value c.args.half in
    let up : ℤ → ℤ = λ v. clipped_up half (halved k v) in
    ap pos (c.put_woven.ensures.block i lt)
    ∙ woven_block up c.args.at c.offset_block-evens.result c.offset_block-odds.result e o
    (λ j lj. c.offset_block-evens.ensures.each j lj ∙ ap (clipped_up half) (c.block_shifted.ensures.each j lj ∙ ap (halved k) (c.load.ensures.each j lj)))
    (λ j lj. c.offset_block-odds.ensures.each j lj ∙ ap (clipped_up half) (c.block_shifted-2.ensures.each j lj ∙ ap (halved k) (c.load-2.ensures.each j lj))) i lt
