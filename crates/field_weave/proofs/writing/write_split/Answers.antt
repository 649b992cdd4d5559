use Rattle.std.proofs.Common.{◌≡◌, ℕ, List, ◌+◌, ◌-◌, ◌*◌, ◌<◌, ◌≤◌, length, take, drop, get_or, refl, sym, ap, subst, ◌∙◌, arith}
use Rattle.slice_geometry.specs.declared.Size.{Size}
use Rattle.slice_geometry.specs.Frames.{frame_of}
use Rattle.picture_codec.specs.Pictures.{size_of}
use Rattle.picture_codec.specs.Samples.{sample_at, component_shown}
use Rattle.raw_video.proofs.Pieces.{OnErr-always}
use Rattle.field_weave.specs.Weaving.{split_lines}
use Rattle.field_weave.proofs.Tables.{row_inside}
use Rattle.field_weave.proofs.LineTurns.{frame_size, lent_at, lent_long}
use Rattle.field_weave.proofs.WrittenLines.{no_rows, row_passes, row_short, rows_passed, passes_by, short_by}
use Rattle.field_weave.proofs.writing.write_split.Goals as goal

pub loop-y-init : goal.loop-y-init
loop-y-init g c =
    let size = size_of (frame_of c.args.field.now) c.args.c in
    record {
      wide = refl;
      passed = no_rows c.args.writer.now.wide size.w 0 (split_lines size c.args.line (component_shown c.args.frame.now c.args.c)).cells (g.K.Sink.written c.args.out.now) c.args.writer.now.waiting refl;
      steady = refl;
    }

pub slice_bounds-put-end : goal.slice_bounds-put-end
slice_bounds-put-end g c =
    let frame = c.args.frame.now in
    let k = c.args.c in
    let size = size_of (frame_of c.args.field.now) k in
    let y = c.loop-y.y in
    let i = c.loop-y.invariant in
    let line = c.args.line in
    let cells = c.samples-samples.result.now in
    let w = c.size_of-size.result.w in
    let sized : c.size_of-size.result ≡ size = c.size_of-size.ensures.value in
    let wide : w ≡ size.w = ap (λ (z : Size). z.w) sized in
    let down : y < size.h = omega (arith, c.loop-y-test.true, ap (λ (z : Size). z.h) sized) in
    let twice = frame_size (frame_of c.args.field.now) (frame_of frame.shape) k c.requires.doubled in
    let all : length cells ≡ 2 * size.h * size.w = c.samples-samples.ensures.count ∙ ap (λ (z : Size). z.h * z.w) twice in
    let few : 2 * y + line < 2 * size.h = omega (arith, down, c.requires.line) in
    let from : ℕ = (2 * y + line) * w in
    let fits : from + w ≤ length cells =
    subst (λ (n : ℕ). (2 * y + line) * n + n ≤ length cells) (sym wide) (omega (arith, all, row_inside (2 * y + line) size.w (2 * size.h) few)) in
    fits

pub returns-in_err-put-clause-err : goal.returns-in_err-put-clause-err
returns-in_err-put-clause-err g c =
    let written = g.K.Sink.written in
    let frame = c.args.frame.now in
    let k = c.args.c in
    let size = size_of (frame_of c.args.field.now) k in
    let y = c.loop-y.y in
    let i = c.loop-y.invariant in
    let line = c.args.line in
    let cells = c.samples-samples.result.now in
    let w = c.size_of-size.result.w in
    let sized : c.size_of-size.result ≡ size = c.size_of-size.ensures.value in
    let wide : w ≡ size.w = ap (λ (z : Size). z.w) sized in
    let down : y < size.h = omega (arith, c.loop-y-test.true, ap (λ (z : Size). z.h) sized) in
    let twice = frame_size (frame_of c.args.field.now) (frame_of frame.shape) k c.requires.doubled in
    let all : length cells ≡ 2 * size.h * size.w = c.samples-samples.ensures.count ∙ ap (λ (z : Size). z.h * z.w) twice in
    let few : 2 * y + line < 2 * size.h = omega (arith, down, c.requires.line) in
    let from : ℕ = (2 * y + line) * w in
    let fits : from + w ≤ length cells =
    subst (λ (n : ℕ). (2 * y + line) * n + n ≤ length cells) (sym wide) (omega (arith, all, row_inside (2 * y + line) size.w (2 * size.h) few)) in
    let row = take (from + w - from) (drop from cells) in
    let g1 : ℕ → ℕ → ℕ = λ y x. sample_at (component_shown frame k) (2 * y + line) x in
    let long : length row ≡ size.w = lent_long cells from w fits ∙ wide in
    let each : (x : ℕ) → x < size.w → get_or row x 0 ≡ g1 y x = λ x across.
    lent_at cells from w x (omega (arith, across, wide)) ∙ ap (λ (l : List ℕ). get_or l (from + x) 0) c.samples-samples.ensures.value
    ∙ ap (λ (n : ℕ). get_or (component_shown frame k).cells ((2 * y + line) * n + x) 0) (wide ∙ sym (ap (λ (z : Size). z.w) twice) ∙ sym c.samples-samples.ensures.width) in
    let b = c.args.writer.now.wide in
    let out0 = written c.args.out.now in
    let out1 = written c.loop-y.out in
    let out2 = written c.put.new.sink in
    let p = c.args.writer.now.waiting in
    let q = c.loop-y.writer.waiting in
    OnErr-always c.from_residual.result (row_short b size g1 y row down long each out0 out1 p q i.passed out2 (short_by c.loop-y.writer.wide b row out1 out2 q i.wide c.in_err-put.ensures.err))

pub loop-y-preserved : goal.loop-y-preserved
loop-y-preserved g c =
    let written = g.K.Sink.written in
    let frame = c.args.frame.now in
    let k = c.args.c in
    let size = size_of (frame_of c.args.field.now) k in
    let y = c.loop-y.y in
    let i = c.loop-y.invariant in
    let line = c.args.line in
    let cells = c.samples-samples.result.now in
    let w = c.size_of-size.result.w in
    let sized : c.size_of-size.result ≡ size = c.size_of-size.ensures.value in
    let wide : w ≡ size.w = ap (λ (z : Size). z.w) sized in
    let down : y < size.h = omega (arith, c.loop-y-test.true, ap (λ (z : Size). z.h) sized) in
    let twice = frame_size (frame_of c.args.field.now) (frame_of frame.shape) k c.requires.doubled in
    let all : length cells ≡ 2 * size.h * size.w = c.samples-samples.ensures.count ∙ ap (λ (z : Size). z.h * z.w) twice in
    let few : 2 * y + line < 2 * size.h = omega (arith, down, c.requires.line) in
    let from : ℕ = (2 * y + line) * w in
    let fits : from + w ≤ length cells =
    subst (λ (n : ℕ). (2 * y + line) * n + n ≤ length cells) (sym wide) (omega (arith, all, row_inside (2 * y + line) size.w (2 * size.h) few)) in
    let row = take (from + w - from) (drop from cells) in
    let g1 : ℕ → ℕ → ℕ = λ y x. sample_at (component_shown frame k) (2 * y + line) x in
    let long : length row ≡ size.w = lent_long cells from w fits ∙ wide in
    let each : (x : ℕ) → x < size.w → get_or row x 0 ≡ g1 y x = λ x across.
    lent_at cells from w x (omega (arith, across, wide)) ∙ ap (λ (l : List ℕ). get_or l (from + x) 0) c.samples-samples.ensures.value
    ∙ ap (λ (n : ℕ). get_or (component_shown frame k).cells ((2 * y + line) * n + x) 0) (wide ∙ sym (ap (λ (z : Size). z.w) twice) ∙ sym c.samples-samples.ensures.width) in
    let b = c.args.writer.now.wide in
    let out0 = written c.args.out.now in
    let out1 = written c.loop-y.out in
    let out2 = written c.put.new.sink in
    let p = c.args.writer.now.waiting in
    let q = c.loop-y.writer.waiting in
    let r = c.put.new.self.waiting in
    record {
      wide = c.in_ok-put.ensures.wide ∙ i.wide;
      passed = row_passes b size g1 y row down long each out0 out1 p q i.passed out2 r (passes_by c.loop-y.writer.wide b row out1 out2 q r i.wide c.in_ok-put.ensures.ok);
      steady = c.in_ok-put.ensures.cause ∙ i.steady;
    }

pub returns-clause-ok : goal.returns-clause-ok
returns-clause-ok g c =
    let written = g.K.Sink.written in
    let k = c.args.c in
    let size = size_of (frame_of c.args.field.now) k in
    let line = c.args.line in
    rows_passed c.args.writer.now.wide size (λ y x. sample_at (component_shown c.args.frame.now k) (2 * y + line) x) c.loop-y.y (written c.args.out.now) (written c.loop-y.out) c.args.writer.now.waiting c.loop-y.writer.waiting
    (omega (arith, c.loop-y-test.false, ap (λ (z : Size). z.h) c.size_of-size.ensures.value)) c.loop-y.invariant.passed
