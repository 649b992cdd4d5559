-- In which order this function asks: next, more, line, fits, is_row, small, before, room, depth, sizes, shown; and `put_line`:
-- more, wide, is_row, small, before, room, depth, sizes, shown.
use Rattle.std.proofs.Common.{◌≡◌, ◌∙◌, sym, ap, ℕ, ◌-◌, ◌<◌, ◌≤◌, min, List, ◌++◌, length, take, drop, get_or, ℤ, pos, arith}
use Rattle.slice_geometry.specs.declared.Size.{Size}
use Rattle.slice_geometry.specs.declared.PictureShape.{PictureShape}
use Rattle.slice_geometry.specs.Frames.{frame_of}
use Rattle.picture_codec.specs.Pictures.{size_of, depth_of}
use Rattle.picture_codec.specs.Samples.{component_shown, sample_bits}
use Rattle.picture_codec.proofs.LineSamples.{row_is_centred, line_inside, length_back, row_back}
use Rattle.picture_codec.proofs.component_lines.ComponentLines.take_line.Goals as goal

pub put_line-requires : goal.put_line-requires
put_line-requires g c =
    let p = c.args.picture.now in
    let size : Size = size_of (frame_of p.shape) c.args.c in
    let s = component_shown p c.args.c in
    let asked = c.requires.1.1.1.1 in
    let same : c.size_of-size.result ≡ size = c.size_of-size.ensures.value ∙ ap (λ (sh : PictureShape). size_of (frame_of sh) c.args.c) c.shape.ensures in
    let bits : c.depth_of-depth.result ≡ sample_bits p c.args.c = c.depth_of-depth.ensures.value ∙ ap (λ (sh : PictureShape). depth_of (frame_of sh) c.args.c) c.shape-2.ensures in
    let some : 1 ≤ size.w = omega (arith, c.size_of-size.ensures.allowed.some_columns, ap (λ (z : Size). z.w) same) in
    let some_rows : 1 ≤ size.h = omega (arith, c.size_of-size.ensures.allowed.some_rows, ap (λ (z : Size). z.h) same) in
    let line : c.min.result ≡ min c.args.y (size.h - 1) = c.min.ensures ∙ ap (λ (z : Size). min c.args.y (z.h - 1)) same in
    let all = ap length (sym c.samples.ensures.value) ∙ c.samples.ensures.count in
    let long = c.deref_mut.ensures.len in
    let back : List ℤ = take c.args.self.now.line.len (c.centre_row.new.row ++ drop (length c.centre_row.new.row) c.args.self.now.line.items) in
    let is_row : (x : ℕ) → x < c.args.self.now.analysis.w → get_or back x (pos 0) ≡ g.g c.args.self.now.analysis.came x = λ x lx.
    let inside : x < length c.deref_mut.result.now = omega (arith, lx, long, c.requires.1.1.0) in
    row_back c.args.self.now.line.len c.centre_row.new.row _ x (omega (arith, inside, c.centre_row.ensures.same_length)) (omega (arith, inside, long))
    ∙ c.centre_row.ensures.values x inside
    ∙ row_is_centred (sample_bits p c.args.c) c.depth_of-depth.result size c.size_of-size.result s c.samples.result.now c.min.result c.args.y x bits same c.samples.ensures.value c.samples.ensures.width some line
    (line_inside c.min.result c.args.y size.h size.w (length s.cells) line some_rows all)
    ∙ sym (asked.0 x) ∙ ap (λ (n : ℕ). g.g n x) c.requires.0 in
    let wide = length_back c.args.self.now.line.len c.centre_row.new.row c.args.self.now.line.items (omega (arith, long, c.deref_mut.ensures.value)) (omega (arith, c.centre_row.ensures.same_length, ap length c.deref_mut.ensures.value)) in
    (c.requires.1.0, (omega (arith, wide, c.requires.1.1.0), (is_row, asked.1)))
