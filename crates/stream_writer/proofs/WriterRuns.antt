-- Calls of a writer that all answer Ok write a stream of their pictures.
use Rattle.std.proofs.Common.{◌≡◌, ◌∙◌, ap, subst, refl, ◌%◌, ℕ, List, [], ◌∷◌, ◌++◌, map, Option}
use Rattle.std.specs.Io.KnownBytes.{Appends}
use Rattle.std.proofs.lemmas.List.{length-map}
use Rattle.vc2_io.proofs.Known.{Appends-then}
use Rattle.slice_geometry.specs.Frames.{Frame}
use Rattle.picture_codec.specs.Samples.{PictureSamples, picture_of}
use Rattle.picture_codec.specs.Encoding.{slices_of}
use Rattle.stream_rows.specs.Streams.{frame_under}
use Rattle.stream_writer.specs.StreamPictures.{pictures_of}
use Rattle.stream_writer.specs.EncodedStream.{Settings, header_unit}
use Rattle.stream_writer.specs.EncodedPictures.{all_slices}
use Rattle.stream_writer.specs.Writer.{StreamWriterSeen, writer_begun, after_picture, due_units, texts_from, HaveRoomInTurn}
use Rattle.stream_writer.specs.WriterRuns.{CallsWrite, shown_of, RunsWriteStreams}
use Rattle.stream_writer.proofs.SameShapes.{steep_for}
use Rattle.stream_writer.proofs.EncodedStreams.{encoded_pictures}
use Rattle.stream_writer.proofs.EncodedPictures.{all_sliced}
use Rattle.stream_writer.proofs.WriterCalls.{calls_stream}

-- each has room, and its text is written
calls_texts : (w : StreamWriterSeen) (pictures : List PictureSamples) (out0 out1 : Option (List ℕ)) → CallsWrite w pictures out0 out1
    → Appends out0 out1 (texts_from w (all_slices w.settings pictures)) × HaveRoomInTurn w (all_slices w.settings pictures)
calls_texts w [] out0 out1 c = (c.1.wrote, tt)
calls_texts w (p ∷ pictures) out0 out1 c =
    let slices = slices_of (frame_under w.settings.parts) w.settings.params p in
    let more = calls_texts (after_picture w) pictures c.1 out1 (subst (λ (x : StreamWriterSeen). CallsWrite x pictures c.1 out1) c.2.after c.3) in (
      Appends-then out0 c.1 out1 (due_units w slices) (texts_from (after_picture w) (all_slices w.settings pictures)) c.2.wrote more.0,
      (c.2.why, more.1),
    )

abbrev shown_by : Settings → List (List ℕ) → Frame × PictureSamples
shown_by s slices = (frame_under s.parts, picture_of (frame_under s.parts) s.params slices)

shown_each : (s : Settings) (pictures : List PictureSamples)
    → map (λ slices. shown_by s slices) (all_slices s pictures) ≡ map (shown_of s) pictures
shown_each s [] = refl
shown_each s (p ∷ pictures) = ap (λ (l : List (Frame × PictureSamples)). shown_of s p ∷ l) (shown_each s pictures)

pub runs_write : RunsWriteStreams
runs_write s shape pictures out0 out1 lawful is have even run =
    let slices = all_slices s pictures in
    let unit = header_unit s.parts in
    let calls = calls_texts (writer_begun s) pictures run.mid out1 (subst (λ (w : StreamWriterSeen). CallsWrite w pictures run.mid out1) run.start.0 run.calls) in
    let sliced = all_sliced s.parts s.params shape pictures lawful.params is (steep_for s shape is run.start.1) have in
    let stream = calls_stream s slices lawful sliced (λ e. ap (λ (n : ℕ). n % 2) (length-map pictures (slices_of (frame_under s.parts) s.params)) ∙ even e) calls.1 in (
      unit ++ texts_from (writer_begun s) slices,
      Appends-then out0 run.mid out1 unit (texts_from (writer_begun s) slices) run.start.2 calls.0,
      record { stream = stream; shown = ap pictures_of stream.found ∙ encoded_pictures s slices ∙ shown_each s pictures },
    )
