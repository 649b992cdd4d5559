use Rattle.std.proofs.Common.{◌≡◌, ◌∙◌, rules, refl, ◌+◌, ◌*◌, arith}
use Rattle.planes.specs.Raster.{height}
use Rattle.planes.proofs.RowLists.{length-rows_of}
use Rattle.lifting.proofs.LevelRows.{band_more}
use Rattle.lifting.proofs.RingRows.{ring_height, room_inside}
use Rattle.lifting.proofs.analysis.analyse_next.Goals.{then-put_row, else-put_row}
use Rattle.lifting.proofs.analysis.analyse_next.Goals as goal

pub new-down-requires-clause-ring : goal.new-down-requires-clause-ring
new-down-requires-clause-ring g c =
    let s = c.args.scratch.now in
    let q = c.requires.1.1.1.1.1.1.1.1 in
    rw c.numbers_mut.ensures.len (room_inside 4 (2 * c.args.h) (2 * c.args.w) s.w (height s) (ring_height (2 * c.args.h) s (omega (arith, c.if-h-eq0.false)) q.1.0) q.0)

pub loop-j-preserved : goal.loop-j-preserved
loop-j-preserved g c =
    let i = c.loop-j.invariant in
    let put = c.put_row.ensures in
    let new = c.put_row.new.self in
    let k : new.wavelet ≡ c.args.wavelet = put.same_level.wavelet ∙ i.is.2 in
    let h : new.h ≡ c.args.h = put.same_level.h ∙ i.is.1 in
    let w : new.w ≡ c.args.w = put.same_level.w ∙ i.is.0 in
    let more = band_more g.T.Number.value g.T.Number.none g.g new c.args.wavelet c.args.h c.args.w c.loop-j.down.made in
    elim c.if-put_row.branch [
      | then-put_row t ↦
          let dealt = t.deal.ensures in
          let one : new.made ≡ c.loop-j.down.made + 1 = put.whole t.if-put_row.true in
          record {
            same_size = search rules;
            same_sizes = search rules;
            same_reference = search rules;
            is = (w, h, k);
            ready = put.ready;
            came = search rules;
            has = put.after;
            rest = search rules;
            left = rw t.plane-is (more 0 0 k h w one _ _ (dealt.left g.g put.after) i.left);
            dealt = rw t.bands-is (record {
              hl = more 0 1 k h w one _ _ (dealt.hl g.g put.after) i.dealt.hl;
              lh = more 1 0 k h w one _ _ (dealt.lh g.g put.after) i.dealt.lh;
              hh = more 1 1 k h w one _ _ (dealt.hh g.g put.after) i.dealt.hh;
            });
            others = search rules;
          }
      | else-put_row t ↦ search rules
    ]

pub returns-clause-same_size_scratch : goal.returns-clause-same_size_scratch
returns-clause-same_size_scratch g c = (refl, length-rows_of _ _ _)
