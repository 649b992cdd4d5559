-- In which order `take_line` asks: next, more, line, fits, is_row, small, before, room, depth, sizes, shown.
use Rattle.std.proofs.Common.{◌≡◌, ◌∙◌, sym, ap, refl, ℕ, ◌-◌, ◌^◌, ◌<◌, ◌≤◌, length, pos, arith}
use Rattle.planes.proofs.Floors.{wider}
use Rattle.planes.specs.Numbers.{Within}
use Rattle.slice_geometry.specs.declared.Size.{Size}
use Rattle.slice_geometry.specs.declared.PictureShape.{PictureShape}
use Rattle.slice_geometry.specs.Frames.{frame_of}
use Rattle.slice_geometry.specs.Geometry.{padded_length}
use Rattle.slice_geometry.specs.Slicing.{Slicing}
use Rattle.picture_codec.specs.Pictures.{size_of, depth_of}
use Rattle.picture_codec.specs.Samples.{component_shown, sample_bits}
use Rattle.picture_codec.specs.Encoding.{centred}
use Rattle.picture_codec.specs.EncoderInside.{bands_of}
use Rattle.picture_codec.proofs.AnalysedBands.{centred_within, shift_small}
use Rattle.picture_codec.proofs.Sizes.{padded_covers}
use Rattle.picture_codec.proofs.StoredBands.{stored_sizes, analysis_stays, lines_analysed}
use Rattle.picture_codec.proofs.Runs.{below-all}
use Rattle.picture_codec.proofs.Tables.{positive}
use Rattle.picture_codec.proofs.component_lines.ComponentLines.take.Goals as goal

pub loop-y-init : goal.loop-y-init
loop-y-init c =
    let p = c.args.picture.now in
    let s : Slicing = c.args.params.now.layout in
    let size : Size = size_of (frame_of p.shape) c.args.c in
    let g = centred (sample_bits p c.args.c) size (component_shown p c.args.c) in
    let old = c.requires in
    let same : c.size_of-size.result ≡ size = c.size_of-size.ensures.value ∙ ap (λ (sh : PictureShape). size_of (frame_of sh) c.args.c) c.shape.ensures in
    let some : 1 ≤ size.h = omega (arith, c.size_of-size.ensures.allowed.some_rows, ap (λ (z : Size). z.h) same) in
    record {
      lines = record {
        analysis = analysis_stays _ _ _ _ _ _ old.analysis c.start.ensures.same;
        line = old.line;
        same_slicing = old.same_slicing;
        same_size = old.same_size;
        room = old.room;
      };
      came = c.start.ensures.none.none_came;
      rows = c.start.ensures.none.come g;
      shown = c.start.ensures.none.shown g _;
      whole = λ none. absurd (omega (arith, none, some, padded_covers s.depth size.h c.depth.ensures.allowed.depth));
    }

pub take_line-requires : goal.take_line-requires
take_line-requires c =
    let p = c.args.picture.now in
    let s : Slicing = c.args.params.now.layout in
    let size : Size = size_of (frame_of p.shape) c.args.c in
    let d = sample_bits p c.args.c in
    let samples = component_shown p c.args.c in
    let lines = c.loop-y.invariant.lines in
    let self = c.loop-y.self in
    let same : c.size_of-size.result ≡ size = c.size_of-size.ensures.value ∙ ap (λ (sh : PictureShape). size_of (frame_of sh) c.args.c) c.shape.ensures in
    let bits : c.depth_of.result ≡ d = c.depth_of.ensures.value ∙ ap (λ (sh : PictureShape). depth_of (frame_of sh) c.args.c) c.shape-2.ensures in
    let high : c.padded_size-y-end.result.h ≡ padded_length s.depth size.h = ap (λ (z : Size). z.h) c.padded_size-y-end.ensures.value ∙ ap (λ (z : Size). padded_length s.depth z.h) same in
    let more : self.analysis.came < self.analysis.h = omega (arith, c.loop-y.invariant.came, c.loop-y-test.true, high, lines.analysis.rows) in
    let fits : size.w ≤ self.analysis.w = omega (arith, padded_covers s.depth size.w c.depth.ensures.allowed.depth, lines.analysis.columns) in
    let small : (y x : ℕ) → y < self.analysis.h → x < self.analysis.w → Within (2 ^ 15) (centred d size samples y x) = λ y x ly lx.
    wider (2 ^ (d - 1)) (2 ^ 15) (centred d size samples y x) (shift_small d (omega (arith, bits, c.depth_of.ensures.allowed.most)))
    (centred_within d size samples (omega (arith, bits, c.depth_of.ensures.allowed.some)) (below-all (2 ^ d) samples.cells (positive d) (rw c.samples.ensures.value at c.samples.ensures.below)) y x) in (
      sym c.loop-y.invariant.came,
      (
        more,
        (
          lines.line ∙ sym lines.analysis.columns,
          (
            fits,
            (
              λ x. refl,
              (
                small,
                (
                  c.loop-y.invariant.rows,
                  (
                    lines.room,
                    (
                      ap (λ (t : Slicing). t.depth) lines.same_slicing ∙ sym lines.analysis.count,
                      (stored_sizes self.bands.store s size _ _ lines.same_slicing lines.same_size lines.analysis.columns lines.analysis.rows, c.loop-y.invariant.shown),
                    ),
                  ),
                ),
              ),
            ),
          ),
        ),
      ),
    )

pub returns-clause-analysed : goal.returns-clause-analysed
returns-clause-analysed c =
    let p = c.args.picture.now in
    let s : Slicing = c.args.params.now.layout in
    let size : Size = size_of (frame_of p.shape) c.args.c in
    let d = sample_bits p c.args.c in
    let samples = component_shown p c.args.c in
    let lines = c.loop-y.invariant.lines in
    let same : c.size_of-size.result ≡ size = c.size_of-size.ensures.value ∙ ap (λ (sh : PictureShape). size_of (frame_of sh) c.args.c) c.shape.ensures in
    let bits : c.depth_of.result ≡ d = c.depth_of.ensures.value ∙ ap (λ (sh : PictureShape). depth_of (frame_of sh) c.args.c) c.shape-2.ensures in
    let high : c.padded_size-y-end.result.h ≡ padded_length s.depth size.h = ap (λ (z : Size). z.h) c.padded_size-y-end.ensures.value ∙ ap (λ (z : Size). padded_length s.depth z.h) same in
    let all : c.loop-y.y ≡ padded_length s.depth size.h = omega (arith, c.loop-y-test.false, c.loop-y.auto.y-end, high) in
    lines_analysed _ d samples c.loop-y.self.bands.store s size lines.same_slicing lines.same_size c.depth.ensures.allowed.depth (omega (arith, bits, c.depth_of.ensures.allowed.some))
    (below-all (2 ^ d) samples.cells (positive d) (rw c.samples.ensures.value at c.samples.ensures.below)) (c.loop-y.invariant.whole all)
