-- The frame of a header's shape.
use Rattle.std.proofs.Common.{◌≡◌, ◌∙◌, ap}
use Rattle.sequence_header.specs.declared.parts.HeaderParts.{HeaderParts}
use Rattle.sequence_header.specs.Coding.{IsShapeOf, luma_size, colour_size, luma_depth, colour_depth}
use Rattle.slice_geometry.specs.declared.PictureShape.{PictureShape}
use Rattle.slice_geometry.specs.Frames.{Frame, frame_of}
use Rattle.stream_rows.specs.Streams.{frame_under}

-- its sizes and depths are the header's
pub frame_is : (parts : HeaderParts) (shape : PictureShape) → IsShapeOf shape parts → frame_of shape ≡ frame_under parts
frame_is parts shape is =
    ap (λ n. let f : Frame = record { luma = n; colour = shape.colour; luma_depth = shape.luma_depth; colour_depth = shape.colour_depth } in f) is.luma
    ∙ ap (λ n. let f : Frame = record { luma = luma_size parts; colour = n; luma_depth = shape.luma_depth; colour_depth = shape.colour_depth } in f) is.colour
    ∙ ap (λ n. let f : Frame = record { luma = luma_size parts; colour = colour_size parts; luma_depth = n; colour_depth = shape.colour_depth } in f) is.luma_depth
    ∙ ap (λ n. let f : Frame = record { luma = luma_size parts; colour = colour_size parts; luma_depth = luma_depth parts; colour_depth = n } in f) is.colour_depth
