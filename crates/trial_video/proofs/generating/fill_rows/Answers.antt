use Rattle.std.proofs.Common.{◌≡◌, ℕ, ◌+◌, ◌*◌, ◌/◌, ◌%◌, ◌^◌, ◌<◌, ◌≤◌, List, All, length, refl, sym, ap, subst, ◌∙◌, arith}
use Rattle.slice_geometry.specs.declared.Size.{Size}
use Rattle.slice_geometry.specs.declared.PictureShape.{PictureShape}
use Rattle.slice_geometry.specs.Frames.{frame_of}
use Rattle.picture_codec.specs.Pictures.{size_of, depth_of}
use Rattle.picture_codec.specs.Samples.{SamplesSeen, PictureSeen, component_shown, width_of, height_of, sample_bits, sample_at, with_run}
use Rattle.raw_video.proofs.ComponentTurns.{run_long, put_here, put_others}
use Rattle.trial_video.specs.Video.{state_at, video_rows}
use Rattle.trial_video.proofs.States.{sample_from, more_steps}
use Rattle.trial_video.proofs.RowTurns.{row_ends, row_more, rows_are}
use Rattle.trial_video.proofs.generating.fill_rows.Goals as goal

pub loop-y-init : goal.loop-y-init
loop-y-init c =
    let sized : c.size_of-size.result ≡ size_of (frame_of c.args.picture.now.shape) c.args.c = c.size_of-size.ensures.value ∙ ap (λ (s : PictureShape). size_of (frame_of s) c.args.c) c.shape.ensures in
    record {
      long = refl;
      same_shape = refl;
      width = c.samples.ensures.width ∙ sym c.requires.long;
      height = c.samples.ensures.height ∙ sym (ap (λ (z : Size). z.h) sized);
      many =
          ap (λ (l : List ℕ). length l) (sym c.samples.ensures.value) ∙ c.samples.ensures.count
          ∙ ap (λ (n : ℕ). n * width_of c.args.picture.now c.args.c) (sym (ap (λ (z : Size). z.h) sized)) ∙ ap (λ (n : ℕ). c.size_of-size.result.h * n) (sym c.requires.long);
      state = let none : 0 ≡ 0 * length c.args.line.now = no_rows (length c.args.line.now) in ap (state_at c.args.start) none;
      low = c.requires.start;
      done = λ y x lt across. absurd (omega (arith, lt));
      others = λ other ne. refl;
    }
  where
    no_rows : (n : ℕ) → 0 ≡ 0 * n
    no_rows n = omega arith

pub fill_row-state-requires-clause-short : goal.fill_row-state-requires-clause-short
fill_row-state-requires-clause-short c =
    let sized : c.size_of-size.result ≡ size_of (frame_of c.args.picture.now.shape) c.args.c = c.size_of-size.ensures.value ∙ ap (λ (s : PictureShape). size_of (frame_of s) c.args.c) c.shape.ensures in
    omega (arith, c.loop-y.invariant.long, c.requires.long, ap (λ (z : Size). z.w) sized, c.size_of-size.ensures.width)

pub put_samples-requires-clause-inside : goal.put_samples-requires-clause-inside
put_samples-requires-clause-inside c =
    let i = c.loop-y.invariant in
    let y = c.loop-y.y in
    let w = length c.args.line.now in
    let h = c.size_of-size.result.h in
    let new = c.fill_row-state.new.row in
    let old = c.loop-y.picture in
    let sized : c.size_of-size.result ≡ size_of (frame_of c.args.picture.now.shape) c.args.c = c.size_of-size.ensures.value ∙ ap (λ (s : PictureShape). size_of (frame_of s) c.args.c) c.shape.ensures in
    let long : length new ≡ w = c.fill_row-state.ensures.len ∙ i.long in
    let high : height_of old c.args.c ≡ h = ap (λ (s : PictureShape). (size_of (frame_of s) c.args.c).h) i.same_shape ∙ sym (ap (λ (z : Size). z.h) sized) in
    let wide : width_of old c.args.c ≡ w = ap (λ (s : PictureShape). (size_of (frame_of s) c.args.c).w) i.same_shape ∙ sym c.requires.long in
    let all : height_of old c.args.c * width_of old c.args.c ≡ h * w = ap (λ (n : ℕ). n * width_of old c.args.c) high ∙ ap (λ (n : ℕ). h * n) wide in
    subst (λ (n : ℕ). y * n + n ≤ height_of old c.args.c * width_of old c.args.c) (sym long) (subst (λ (n : ℕ). y * w + w ≤ n) (sym all) (row_ends y w h c.loop-y-test.true))

pub put_samples-requires-clause-small : goal.put_samples-requires-clause-small
put_samples-requires-clause-small c =
    let deep : c.depth_of-depth.result ≡ sample_bits c.loop-y.picture c.args.c = c.depth_of-depth.ensures.value ∙ ap (λ (s : PictureShape). depth_of (frame_of s) c.args.c) (c.shape-2.ensures ∙ sym c.loop-y.invariant.same_shape) in
    subst (λ (b : ℕ). All (λ v. v < 2 ^ b) c.fill_row-state.new.row) deep c.fill_row-state.ensures.below

pub loop-y-preserved : goal.loop-y-preserved
loop-y-preserved c =
    let i = c.loop-y.invariant in
    let y = c.loop-y.y in
    let w = length c.args.line.now in
    let h = c.size_of-size.result.h in
    let start = c.args.start in
    let depth = c.depth_of-depth.result in
    let line = c.fill_row-state.new.row in
    let old = c.loop-y.picture in
    let new = c.put_samples.new.self in
    let rows : SamplesSeen = component_shown old c.args.c in
    let is = c.put_samples.ensures in
    let long : length line ≡ w = c.fill_row-state.ensures.len ∙ i.long in
    let here : component_shown new c.args.c ≡ with_run rows (y * w) line =
    ap (λ (q : PictureSeen). component_shown q c.args.c) is ∙ put_here old.samples c.args.c (with_run rows (y * length line) line) ∙ ap (λ (n : ℕ). with_run rows (y * n) line) long in
    let fits : y * w + length line ≤ length rows.cells = omega (arith, long, i.many, row_ends y w h c.loop-y-test.true) in
    let first : 2 * c.from.result + 3 * c.args.p ≡ 2 * y + 3 * c.args.p = omega (arith, c.from.ensures) in
    record {
      long = long;
      same_shape = ap (λ (q : PictureSeen). q.shape) is ∙ i.same_shape;
      width = ap (λ (r : SamplesSeen). r.w) here ∙ i.width;
      height = ap (λ (r : SamplesSeen). r.h) here ∙ i.height;
      many = ap (λ (r : SamplesSeen). length r.cells) here ∙ run_long rows (y * w) line fits ∙ i.many;
      state =
          c.fill_row-state.ensures.state ∙ ap (λ (s : ℕ). state_at s (length c.loop-y.line)) i.state ∙ ap (λ (n : ℕ). state_at (state_at start (y * w)) n) i.long
          ∙ more_steps start (y * w) w ∙ ap (state_at start) (next_row y w);
      low = c.fill_row-state.ensures.small;
      done = λ k x lt across.
          ap (λ (r : SamplesSeen). sample_at r k x) here
          ∙ row_more rows start c.args.p depth w h y line i.width i.many c.loop-y-test.true long i.done
          (λ z inside.
          c.fill_row-state.ensures.row z (omega (arith, inside, i.long))
          ∙ ap (λ (n : ℕ). (z + n + state_at c.loop-y.state (z + 1) / 4096) % 2 ^ depth) first
          ∙ ap (λ (s : ℕ). (z + (2 * y + 3 * c.args.p) + state_at s (z + 1) / 4096) % 2 ^ depth) i.state)
          k x lt across;
      others = λ other ne. ap (λ (q : PictureSeen). component_shown q other) is ∙ put_others old.samples c.args.c other (with_run rows (y * length line) line) ne ∙ i.others other ne;
    }
  where
    next_row : (y w : ℕ) → y * w + w ≡ (y + 1) * w
    next_row y w = grind arith

pub returns-clause-rows : goal.returns-clause-rows
returns-clause-rows c = λ seed first e.
    let i = c.loop-y.invariant in
    let size = c.size_of-size.result in
    let depth = c.depth_of-depth.result in
    let start = c.args.start in
    let rows : SamplesSeen = component_shown c.loop-y.picture c.args.c in
    let sized : size ≡ size_of (frame_of c.args.picture.now.shape) c.args.c = c.size_of-size.ensures.value ∙ ap (λ (s : PictureShape). size_of (frame_of s) c.args.c) c.shape.ensures in
    let deep : depth ≡ sample_bits c.args.picture.now c.args.c = c.depth_of-depth.ensures.value ∙ ap (λ (s : PictureShape). depth_of (frame_of s) c.args.c) c.shape-2.ensures in
    let wide : length c.args.line.now ≡ size.w = c.requires.long ∙ sym (ap (λ (z : Size). z.w) sized) in
    rows_are rows size seed first start c.args.p depth (i.width ∙ wide) i.height (i.many ∙ ap (λ (n : ℕ). size.h * n) wide) e
    (subst (λ (n : ℕ). (y x : ℕ) → y < size.h → x < n → sample_at rows y x ≡ sample_from start c.args.p depth n y x) wide (λ y x down across. i.done y x (omega (arith, down, c.loop-y-test.false)) across))
    ∙ ap (λ (d : ℕ). video_rows seed c.args.p first d size) deep ∙ ap (λ (z : Size). video_rows seed c.args.p first (sample_bits c.args.picture.now c.args.c) z) sized

pub returns-clause-state : goal.returns-clause-state
returns-clause-state c =
    let i = c.loop-y.invariant in
    let sized : c.size_of-size.result ≡ size_of (frame_of c.args.picture.now.shape) c.args.c = c.size_of-size.ensures.value ∙ ap (λ (s : PictureShape). size_of (frame_of s) c.args.c) c.shape.ensures in
    let over : c.loop-y.y ≡ c.size_of-size.result.h = omega (arith, c.loop-y-test.false, c.loop-y.auto.y-end) in
    i.state ∙ ap (λ (n : ℕ). state_at c.args.start (n * length c.args.line.now)) (over ∙ ap (λ (z : Size). z.h) sized)
    ∙ ap (λ (n : ℕ). state_at c.args.start (height_of c.args.picture.now c.args.c * n)) c.requires.long
