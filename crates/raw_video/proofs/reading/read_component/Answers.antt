use Rattle.std.proofs.Common.{◌≡◌, ◌+◌, ◌*◌, ◌^◌, ◌<◌, ◌≤◌, ℕ, Bool, List, All, refl, length, take, replicate, min, Ok, Err, sym, ap, subst, ◌∙◌, arith}
use Rattle.std.proofs.lemmas.Grind.{common_steps}
use Rattle.std.proofs.lemmas.List.{length-take}
use Rattle.std.proofs.lemmas.Result.{err_from_is_err_and}
use Rattle.slice_geometry.specs.declared.PictureShape.{PictureShape}
use Rattle.picture_codec.specs.Pictures.{depth_of}
use Rattle.slice_geometry.specs.Frames.{frame_of}
use Rattle.picture_codec.specs.Samples.{PictureSeen, SamplesSeen, component_shown, with_run, width_of, height_of, sample_bits}
use Rattle.raw_video.specs.RawText.{is_wide}
use Rattle.raw_video.specs.RawParse.{sample_size}
use Rattle.raw_video.specs.Reading.{ReadsSamples}
use Rattle.raw_video.proofs.PieceTurns.{size_is, piece_inside, piece_next}
use Rattle.raw_video.proofs.ReadTurns.{reads_nothing}
use Rattle.raw_video.proofs.ComponentTurns.{piece_more, piece_halted, piece_below, run_front, run_long, put_here, put_others}
use Rattle.raw_video.proofs.reading.read_component.Goals as goal

pub loop-piece-init : goal.loop-piece-init
loop-piece-init g c =
    let rest = g.S.Source.rest c.args.src.now in
    let count = length c.samples-count.result.now in
    let most = c.samples_a_read-most.result in
    let picture = c.args.picture.now in
    let wide = c.are_wide-wide.ensures ∙ ap (λ (s : PictureShape). is_wide (frame_of s)) c.shape.ensures in
    let bound : c.bound_of-bound.result ≡ 2 ^ sample_bits picture c.args.c = c.bound_of-bound.ensures ∙ ap (λ (d : ℕ). 2 ^ d) (c.depth_of.ensures.value ∙ ap (λ (s : PictureShape). depth_of (frame_of s) c.args.c) c.shape-2.ensures) in
    record {
      bytes_long = refl;
      long = refl;
      same_shape = refl;
      many = ap (λ (l : List ℕ). length l) (sym c.samples-count.ensures.value);
      size = sym c.samples-count.ensures.count;
      below = sym bound;
      so_far =
          reads_nothing c.are_wide-wide.result c.args.start c.args.room c.bound_of-bound.result rest (component_shown picture c.args.c).cells (min count (most * 0)) (omega arith)
          (subst (λ (w : Bool). sample_size w * c.args.start ≤ c.args.room) (sym wide) c.requires.inside);
      others = λ other ne. refl;
      steady = refl;
    }

pub returns-in_err-read_piece-clause-read : goal.returns-in_err-read_piece-clause-read
returns-in_err-read_piece-clause-read g c =
    let rest = g.S.Source.rest in
    let i = c.loop-piece.invariant in
    let count = length c.samples-count.result.now in
    let from : ℕ = c.samples_a_read-most.result * c.loop-piece.piece in
    let n = c.min-n.result in
    let inside : from < count = piece_inside c.are_wide-wide.result c.samples_a_read-most.result count c.loop-piece.piece c.samples_a_read-most.ensures c.loop-piece-test.true in
    let done : min count from ≡ from = omega (arith, inside) in
    let wide = c.are_wide-wide.ensures ∙ ap (λ (s : PictureShape). is_wide (frame_of s)) c.shape.ensures in
    let bound : c.bound_of-bound.result ≡ 2 ^ sample_bits c.args.picture.now c.args.c = c.bound_of-bound.ensures ∙ ap (λ (d : ℕ). 2 ^ d) (c.depth_of.ensures.value ∙ ap (λ (s : PictureShape). depth_of (frame_of s) c.args.c) c.shape-2.ensures) in
    let p = err_from_is_err_and c.from_residual.result c.from_residual.ensures.1 in
    rw (p.1, p.2)
    (let cells = (component_shown c.loop-piece.picture c.args.c).cells in
    let so_far = subst (λ (m : ℕ). ReadsSamples c.are_wide-wide.result c.args.start c.args.room (replicate m c.bound_of-bound.result) (rest c.args.src.now) (rest c.loop-piece.src) (take m cells) (Ok tt)) done i.so_far in
    let all = piece_halted c.are_wide-wide.result c.args.start c.args.room from n c.bound_of-bound.result (rest c.args.src.now) (rest c.loop-piece.src) (rest c.read_piece.new.src) (take from cells) so_far
    (take n c.read_piece.new.samples) cells count _ (omega (arith, c.min-n.ensures, inside)) c.in_err-read_piece.ensures.piece in
    subst (λ w. ReadsSamples w c.args.start c.args.room (replicate (height_of c.args.picture.now c.args.c * width_of c.args.picture.now c.args.c) (2 ^ sample_bits c.args.picture.now c.args.c)) (rest c.args.src.now) (rest c.read_piece.new.src) cells (Err c.in_err-read_piece.field-0.0)) wide
    (subst (λ (m : ℕ). ReadsSamples c.are_wide-wide.result c.args.start c.args.room (replicate m (2 ^ sample_bits c.args.picture.now c.args.c)) (rest c.args.src.now) (rest c.read_piece.new.src) cells (Err c.in_err-read_piece.field-0.0)) c.samples-count.ensures.count
    (subst (λ (b : ℕ). ReadsSamples c.are_wide-wide.result c.args.start c.args.room (replicate count b) (rest c.args.src.now) (rest c.read_piece.new.src) cells (Err c.in_err-read_piece.field-0.0)) bound all)))

pub put_samples-requires-clause-small : goal.put_samples-requires-clause-small
put_samples-requires-clause-small g c =
    let rest = g.S.Source.rest in
    subst (λ (b : ℕ). All (λ v. v < b) (take c.min-n.result c.read_piece.new.samples)) (sym c.loop-piece.invariant.below)
    (piece_below c.are_wide-wide.result (c.args.start + c.samples_a_read-most.result * c.loop-piece.piece) c.args.room c.min-n.result c.bound_of-bound.result (rest c.loop-piece.src) (rest c.read_piece.new.src) (take c.min-n.result c.read_piece.new.samples) c.in_ok-read_piece.ensures.piece)

pub loop-piece-preserved : goal.loop-piece-preserved
loop-piece-preserved g c =
    let rest = g.S.Source.rest in
    let i = c.loop-piece.invariant in
    let count = length c.samples-count.result.now in
    let from : ℕ = c.samples_a_read-most.result * c.loop-piece.piece in
    let n = c.min-n.result in
    let old = c.loop-piece.picture in
    let new = c.put_samples.new.self in
    let rows : SamplesSeen = component_shown old c.args.c in
    let samples = take n c.read_piece.new.samples in
    let inside : from < count = piece_inside c.are_wide-wide.result c.samples_a_read-most.result count c.loop-piece.piece c.samples_a_read-most.ensures c.loop-piece-test.true in
    let done : min count from ≡ from = omega (arith, inside) in
    let many : length samples ≡ n = omega (arith, length-take n c.read_piece.new.samples, c.read_piece.ensures.len, c.min-n.ensures, (size_is c.are_wide-wide.result).1, c.samples_a_read-most.ensures) in
    let is = c.put_samples.ensures in
    let here : component_shown new c.args.c ≡ with_run rows from samples = ap (λ (p : PictureSeen). component_shown p c.args.c) is ∙ put_here old.samples c.args.c (with_run rows from samples) in
    let same_shape : new.shape ≡ old.shape = ap (λ (p : PictureSeen). p.shape) is in
    let so_far = subst (λ (m : ℕ). ReadsSamples c.are_wide-wide.result c.args.start c.args.room (replicate m c.bound_of-bound.result) (rest c.args.src.now) (rest c.loop-piece.src) (take m rows.cells) (Ok tt)) done i.so_far in
    let next : min count (c.samples_a_read-most.result * (c.loop-piece.piece + 1)) ≡ from + n = omega (arith, c.min-n.ensures, inside, piece_next c.are_wide-wide.result c.samples_a_read-most.result count c.loop-piece.piece c.samples_a_read-most.ensures) in
    record {
      bytes_long = c.read_piece.ensures.bytes_len;
      long = c.read_piece.ensures.len;
      same_shape = same_shape ∙ i.same_shape;
      many = ap (λ (r : SamplesSeen). length r.cells) here ∙ run_long rows from samples (omega (arith, many, i.many, c.min-n.ensures, inside)) ∙ i.many;
      size = ap (λ (p : PictureSeen). height_of p c.args.c * width_of p c.args.c) is ∙ i.size;
      below = ap (λ (p : PictureSeen). 2 ^ sample_bits p c.args.c) is ∙ i.below;
      so_far =
          piece_more c.are_wide-wide.result c.args.start c.args.room from n c.bound_of-bound.result (rest c.args.src.now) (rest c.loop-piece.src) (rest c.read_piece.new.src) (take from rows.cells) so_far samples
          (take (min count (c.samples_a_read-most.result * (c.loop-piece.piece + 1))) (component_shown new c.args.c).cells) (min count (c.samples_a_read-most.result * (c.loop-piece.piece + 1))) next
          (ap (λ (m : ℕ). take m (component_shown new c.args.c).cells) next ∙ ap (λ (r : SamplesSeen). take (from + n) r.cells) here ∙ run_front rows from n samples (omega (arith, i.many, inside)) many)
          c.in_ok-read_piece.ensures.piece;
      others = λ other ne. ap (λ (p : PictureSeen). component_shown p other) is ∙ put_others old.samples c.args.c other (with_run rows from samples) ne ∙ i.others other ne;
      steady = c.in_ok-read_piece.ensures.cause ∙ i.steady;
    }

pub returns-clause-read : goal.returns-clause-read
returns-clause-read c = grind (arith, common_steps)

pub read_piece-requires-clause-inside : goal.read_piece-requires-clause-inside
read_piece-requires-clause-inside c = grind (arith, common_steps)

pub slice_bounds-put_samples-end : goal.slice_bounds-put_samples-end
slice_bounds-put_samples-end c = grind (arith, common_steps)

pub put_samples-requires-clause-inside : goal.put_samples-requires-clause-inside
put_samples-requires-clause-inside c = grind (arith, common_steps)

pub read_piece-requires-clause-start_few : goal.read_piece-requires-clause-start_few
read_piece-requires-clause-start_few c = grind (arith, common_steps)

pub returns-in_err-read_piece-clause-cause : goal.returns-in_err-read_piece-clause-cause
returns-in_err-read_piece-clause-cause c = grind (arith, common_steps)

pub slice_bounds-samples-end : goal.slice_bounds-samples-end
slice_bounds-samples-end c = grind (arith, common_steps)

pub returns-clause-cause : goal.returns-clause-cause
returns-clause-cause c = grind (arith, common_steps)

pub overflow_add-start : goal.overflow_add-start
overflow_add-start c = grind (arith, common_steps)

pub overflow_mul-from : goal.overflow_mul-from
overflow_mul-from c = grind (arith, common_steps)

pub overflow_sub-count : goal.overflow_sub-count
overflow_sub-count c = grind (arith, common_steps)

pub read_piece-requires-clause-bytes_long : goal.read_piece-requires-clause-bytes_long
read_piece-requires-clause-bytes_long c = grind (arith, common_steps)

pub slice_bounds-read_piece-end-in-loop-piece : goal.slice_bounds-read_piece-end-in-loop-piece
slice_bounds-read_piece-end-in-loop-piece c = grind (arith, common_steps)

pub read_piece-requires-clause-long : goal.read_piece-requires-clause-long
read_piece-requires-clause-long c = grind (arith, common_steps)

pub overflow_add-piece-end : goal.overflow_add-piece-end
overflow_add-piece-end g c = grind (arith, common_steps)

pub overflow_sub-piece-end : goal.overflow_sub-piece-end
overflow_sub-piece-end g c = grind (arith, common_steps)

pub read_piece-requires-clause-some : goal.read_piece-requires-clause-some
read_piece-requires-clause-some g c = grind (arith, common_steps)

pub read_piece-requires-clause-few : goal.read_piece-requires-clause-few
read_piece-requires-clause-few g c = grind (arith, common_steps)

pub read_piece-requires-clause-one_read : goal.read_piece-requires-clause-one_read
read_piece-requires-clause-one_read g c = grind (arith, common_steps)
