use Rattle.std.proofs.Common.{◌≡◌, ℕ, List, ◌+◌, ◌-◌, ◌*◌, ◌<◌, ◌≤◌, length, take, drop, get_or, refl, sym, ap, subst, ◌∙◌, arith}
use Rattle.std.proofs.lemmas.Grind.{common_steps}
use Rattle.slice_geometry.specs.declared.Size.{Size}
use Rattle.slice_geometry.specs.declared.PictureShape.{PictureShape}
use Rattle.slice_geometry.specs.Frames.{frame_of}
use Rattle.picture_codec.specs.Pictures.{size_of}
use Rattle.picture_codec.specs.Samples.{component_shown}
use Rattle.raw_video.specs.RawText.{text_of}
use Rattle.raw_video.specs.Waiting.{PassesOn}
use Rattle.raw_video.proofs.Pieces.{OnErr-always}
use Rattle.field_weave.specs.declared.Order.TheVariants.{Bottom}
use Rattle.field_weave.specs.Weaving.{twice_high, woven_lines}
use Rattle.field_weave.proofs.Tables.{row_inside}
use Rattle.field_weave.proofs.LineTurns.{lent_at, lent_long}
use Rattle.field_weave.proofs.WrittenLines.{no_rows, row_passes, row_short, rows_passed, turn_of, upper_row, lower_row, passes_by, short_by}
use Rattle.field_weave.proofs.writing.write_alternating.Goals as goal

pub loop-y-init : goal.loop-y-init
loop-y-init g c =
    let size = size_of (frame_of c.args.upper.now.shape) c.args.c in
    record {
      wide = refl;
      passed = no_rows c.args.writer.now.wide size.w (2 * 0) (woven_lines Bottom size (component_shown c.args.lower.now c.args.c) (component_shown c.args.upper.now c.args.c)).cells (g.K.Sink.written c.args.out.now) c.args.writer.now.waiting refl;
      steady = refl;
    }

pub returns-in_err-put-clause-err : goal.returns-in_err-put-clause-err
returns-in_err-put-clause-err g c =
    let written = g.K.Sink.written in
    let k = c.args.c in
    let size = size_of (frame_of c.args.upper.now.shape) k in
    let upper = component_shown c.args.upper.now k in
    let lower = component_shown c.args.lower.now k in
    let y = c.loop-y.y in
    let i = c.loop-y.invariant in
    let w = c.size_of-size.result.w in
    let sized : c.size_of-size.result ≡ size = c.size_of-size.ensures.value ∙ ap (λ (s : PictureShape). size_of (frame_of s) k) c.shape.ensures in
    let wide : w ≡ size.w = ap (λ (z : Size). z.w) sized in
    let down : y < size.h = omega (arith, c.loop-y-test.true, ap (λ (z : Size). z.h) sized) in
    let g1 : ℕ → ℕ → ℕ = turn_of upper lower in
    let first = c.samples-first.result.now in
    let up = c.samples-first.ensures in
    let fits1 : y * w + w ≤ length first = subst (λ (n : ℕ). y * n + n ≤ length first) (sym wide) (omega (arith, up.count, row_inside y size.w size.h down)) in
    let row1 = take (y * w + w - y * w) (drop (y * w) first) in
    let long1 : length row1 ≡ size.w = lent_long first (y * w) w fits1 ∙ wide in
    let each1 : (x : ℕ) → x < size.w → get_or row1 x 0 ≡ g1 (2 * y) x = λ x across.
    lent_at first (y * w) w x (omega (arith, across, wide)) ∙ ap (λ (l : List ℕ). get_or l (y * w + x) 0) up.value
    ∙ ap (λ (n : ℕ). get_or upper.cells (y * n + x) 0) (wide ∙ sym up.width) ∙ sym (upper_row upper lower y x) in
    let inside1 : 2 * y < 2 * size.h = omega (arith, down) in
    let b = c.args.writer.now.wide in
    let out0 = written c.args.out.now in
    let out1 = written c.loop-y.out in
    let out2 = written c.put.new.sink in
    let p = c.args.writer.now.waiting in
    let q = c.loop-y.writer.waiting in
    OnErr-always c.from_residual.result (row_short b (twice_high size) g1 (2 * y) row1 inside1 long1 each1 out0 out1 p q i.passed out2 (short_by c.loop-y.writer.wide b row1 out1 out2 q i.wide c.in_err-put.ensures.err))

pub returns-in_err-put-2-clause-err : goal.returns-in_err-put-2-clause-err
returns-in_err-put-2-clause-err g c =
    let written = g.K.Sink.written in
    let k = c.args.c in
    let size = size_of (frame_of c.args.upper.now.shape) k in
    let upper = component_shown c.args.upper.now k in
    let lower = component_shown c.args.lower.now k in
    let y = c.loop-y.y in
    let i = c.loop-y.invariant in
    let w = c.size_of-size.result.w in
    let sized : c.size_of-size.result ≡ size = c.size_of-size.ensures.value ∙ ap (λ (s : PictureShape). size_of (frame_of s) k) c.shape.ensures in
    let wide : w ≡ size.w = ap (λ (z : Size). z.w) sized in
    let down : y < size.h = omega (arith, c.loop-y-test.true, ap (λ (z : Size). z.h) sized) in
    let g1 : ℕ → ℕ → ℕ = turn_of upper lower in
    let first = c.samples-first.result.now in
    let up = c.samples-first.ensures in
    let fits1 : y * w + w ≤ length first = subst (λ (n : ℕ). y * n + n ≤ length first) (sym wide) (omega (arith, up.count, row_inside y size.w size.h down)) in
    let row1 = take (y * w + w - y * w) (drop (y * w) first) in
    let long1 : length row1 ≡ size.w = lent_long first (y * w) w fits1 ∙ wide in
    let each1 : (x : ℕ) → x < size.w → get_or row1 x 0 ≡ g1 (2 * y) x = λ x across.
    lent_at first (y * w) w x (omega (arith, across, wide)) ∙ ap (λ (l : List ℕ). get_or l (y * w + x) 0) up.value
    ∙ ap (λ (n : ℕ). get_or upper.cells (y * n + x) 0) (wide ∙ sym up.width) ∙ sym (upper_row upper lower y x) in
    let inside1 : 2 * y < 2 * size.h = omega (arith, down) in
    let b = c.args.writer.now.wide in
    let out0 = written c.args.out.now in
    let out1 = written c.loop-y.out in
    let out2 = written c.put.new.sink in
    let p = c.args.writer.now.waiting in
    let q = c.loop-y.writer.waiting in
    let r = c.put.new.self.waiting in
    let one = row_passes b (twice_high size) g1 (2 * y) row1 inside1 long1 each1 out0 out1 p q i.passed out2 r (passes_by c.loop-y.writer.wide b row1 out1 out2 q r i.wide c.in_ok-put.ensures.ok) in
    let same : c.put.new.self.wide ≡ b = c.in_ok-put.ensures.wide ∙ i.wide in
    let second = c.samples-second.result.now in
    let low = c.samples-second.ensures in
    let sized2 : size_of (frame_of c.args.lower.now.shape) k ≡ size = ap (λ (s : PictureShape). size_of (frame_of s) k) c.requires in
    let many : length second ≡ size.h * size.w = low.count ∙ ap (λ (z : Size). z.h * z.w) sized2 in
    let fits2 : y * w + w ≤ length second = subst (λ (n : ℕ). y * n + n ≤ length second) (sym wide) (omega (arith, many, row_inside y size.w size.h down)) in
    let row2 = take (y * w + w - y * w) (drop (y * w) second) in
    let long2 : length row2 ≡ size.w = lent_long second (y * w) w fits2 ∙ wide in
    let each2 : (x : ℕ) → x < size.w → get_or row2 x 0 ≡ g1 (2 * y + 1) x = λ x across.
    lent_at second (y * w) w x (omega (arith, across, wide)) ∙ ap (λ (l : List ℕ). get_or l (y * w + x) 0) low.value
    ∙ ap (λ (n : ℕ). get_or lower.cells (y * n + x) 0) (wide ∙ sym (ap (λ (z : Size). z.w) sized2) ∙ sym low.width) ∙ sym (lower_row upper lower y x) in
    let inside2 : 2 * y + 1 < 2 * size.h = omega (arith, down) in
    let out3 = written c.put-in-loop-y.new.sink in
    OnErr-always c.from_residual-in_err-put-2.result (row_short b (twice_high size) g1 (2 * y + 1) row2 inside2 long2 each2 out0 out2 p r one out3 (short_by c.put.new.self.wide b row2 out2 out3 r same c.in_err-put-2.ensures.err))

pub loop-y-preserved : goal.loop-y-preserved
loop-y-preserved g c =
    let written = g.K.Sink.written in
    let k = c.args.c in
    let size = size_of (frame_of c.args.upper.now.shape) k in
    let upper = component_shown c.args.upper.now k in
    let lower = component_shown c.args.lower.now k in
    let y = c.loop-y.y in
    let i = c.loop-y.invariant in
    let w = c.size_of-size.result.w in
    let sized : c.size_of-size.result ≡ size = c.size_of-size.ensures.value ∙ ap (λ (s : PictureShape). size_of (frame_of s) k) c.shape.ensures in
    let wide : w ≡ size.w = ap (λ (z : Size). z.w) sized in
    let down : y < size.h = omega (arith, c.loop-y-test.true, ap (λ (z : Size). z.h) sized) in
    let g1 : ℕ → ℕ → ℕ = turn_of upper lower in
    let first = c.samples-first.result.now in
    let up = c.samples-first.ensures in
    let fits1 : y * w + w ≤ length first = subst (λ (n : ℕ). y * n + n ≤ length first) (sym wide) (omega (arith, up.count, row_inside y size.w size.h down)) in
    let row1 = take (y * w + w - y * w) (drop (y * w) first) in
    let long1 : length row1 ≡ size.w = lent_long first (y * w) w fits1 ∙ wide in
    let each1 : (x : ℕ) → x < size.w → get_or row1 x 0 ≡ g1 (2 * y) x = λ x across.
    lent_at first (y * w) w x (omega (arith, across, wide)) ∙ ap (λ (l : List ℕ). get_or l (y * w + x) 0) up.value
    ∙ ap (λ (n : ℕ). get_or upper.cells (y * n + x) 0) (wide ∙ sym up.width) ∙ sym (upper_row upper lower y x) in
    let inside1 : 2 * y < 2 * size.h = omega (arith, down) in
    let b = c.args.writer.now.wide in
    let out0 = written c.args.out.now in
    let out1 = written c.loop-y.out in
    let out2 = written c.put.new.sink in
    let p = c.args.writer.now.waiting in
    let q = c.loop-y.writer.waiting in
    let r = c.put.new.self.waiting in
    let one = row_passes b (twice_high size) g1 (2 * y) row1 inside1 long1 each1 out0 out1 p q i.passed out2 r (passes_by c.loop-y.writer.wide b row1 out1 out2 q r i.wide c.in_ok-put.ensures.ok) in
    let same : c.put.new.self.wide ≡ b = c.in_ok-put.ensures.wide ∙ i.wide in
    let second = c.samples-second.result.now in
    let low = c.samples-second.ensures in
    let sized2 : size_of (frame_of c.args.lower.now.shape) k ≡ size = ap (λ (s : PictureShape). size_of (frame_of s) k) c.requires in
    let many : length second ≡ size.h * size.w = low.count ∙ ap (λ (z : Size). z.h * z.w) sized2 in
    let fits2 : y * w + w ≤ length second = subst (λ (n : ℕ). y * n + n ≤ length second) (sym wide) (omega (arith, many, row_inside y size.w size.h down)) in
    let row2 = take (y * w + w - y * w) (drop (y * w) second) in
    let long2 : length row2 ≡ size.w = lent_long second (y * w) w fits2 ∙ wide in
    let each2 : (x : ℕ) → x < size.w → get_or row2 x 0 ≡ g1 (2 * y + 1) x = λ x across.
    lent_at second (y * w) w x (omega (arith, across, wide)) ∙ ap (λ (l : List ℕ). get_or l (y * w + x) 0) low.value
    ∙ ap (λ (n : ℕ). get_or lower.cells (y * n + x) 0) (wide ∙ sym (ap (λ (z : Size). z.w) sized2) ∙ sym low.width) ∙ sym (lower_row upper lower y x) in
    let inside2 : 2 * y + 1 < 2 * size.h = omega (arith, down) in
    let out3 = written c.put-in-loop-y.new.sink in
    let t = c.put-in-loop-y.new.self.waiting in
    let both = row_passes b (twice_high size) g1 (2 * y + 1) row2 inside2 long2 each2 out0 out2 p r one out3 t (passes_by c.put.new.self.wide b row2 out2 out3 r t same c.in_ok-put-2.ensures.ok) in
    let next : 2 * y + 1 + 1 ≡ 2 * (y + 1) = omega arith in
    record {
      wide = c.in_ok-put-2.ensures.wide ∙ same;
      passed = subst (λ (n : ℕ). PassesOn out0 out3 p t (text_of b (take (n * size.w) (woven_lines Bottom size lower upper).cells))) next both;
      steady = c.in_ok-put-2.ensures.cause ∙ c.in_ok-put.ensures.cause ∙ i.steady;
    }

pub returns-clause-ok : goal.returns-clause-ok
returns-clause-ok g c =
    let written = g.K.Sink.written in
    let k = c.args.c in
    let size = size_of (frame_of c.args.upper.now.shape) k in
    let sized : c.size_of-size.result ≡ size = c.size_of-size.ensures.value ∙ ap (λ (s : PictureShape). size_of (frame_of s) k) c.shape.ensures in
    rows_passed c.args.writer.now.wide (twice_high size) (turn_of (component_shown c.args.upper.now k) (component_shown c.args.lower.now k)) (2 * c.loop-y.y) (written c.args.out.now) (written c.loop-y.out) c.args.writer.now.waiting c.loop-y.writer.waiting
    (omega (arith, c.loop-y-test.false, ap (λ (z : Size). z.h) sized)) c.loop-y.invariant.passed

pub overflow_mul-y-in-loop-y-2 : goal.overflow_mul-y-in-loop-y-2
overflow_mul-y-in-loop-y-2 g c = grind (arith, common_steps)

pub overflow_add-y-in-loop-y : goal.overflow_add-y-in-loop-y
overflow_add-y-in-loop-y g c = grind (arith, common_steps)

pub offset_bounds-second-y : goal.offset_bounds-second-y
offset_bounds-second-y g c = grind (arith, common_steps)

pub slice_bounds-put-end-in-loop-y : goal.slice_bounds-put-end-in-loop-y
slice_bounds-put-end-in-loop-y g c = grind (arith, common_steps)
