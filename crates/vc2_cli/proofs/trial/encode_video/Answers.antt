use Rattle.std.proofs.Common.{◌≡◌, ◌∙◌, ℕ, List, length, ap, arith}
use Rattle.slice_geometry.specs.Frames.{frame_of}
use Rattle.trial_video.specs.Video.{TrialVideoSeen}
use Rattle.stream_writer.specs.EncodedStream.{header_length, header_unit}
use Rattle.stream_rows.proofs.Frames.{frame_is}
use Rattle.stream_writer.proofs.EncodedUnits.{length-header_unit}
use Rattle.vc2_words.specs.Settings.{Asked}
use Rattle.vc2_words.specs.Shown.{shown}
use Rattle.vc2_cli.specs.Encode.{written_under}
use Rattle.vc2_cli.proofs.StreamSinks.{start_stop}
use Rattle.vc2_cli.proofs.TrialWritten.{begins}
use Rattle.vc2_cli.proofs.trial.encode_video.Goals as goal

pub write_video-result-requires-clause-begun : goal.write_video-result-requires-clause-begun
write_video-result-requires-clause-begun c =
    let a = c.args in
    let s : Asked = shown a.settings.now in
    let made = c.new-video.ensures in
    begins s a.part c.requires.lawful c.requires.steep c.new-video.result c.in-Ok-started.writer a.sink.now c.start-started.new.sink
    (ap (λ (v : TrialVideoSeen). frame_of v.shape) made ∙ frame_is s.parts c.picture_shape-shape.result c.picture_shape-shape.ensures) (ap (λ (v : TrialVideoSeen). v.seed) made) (ap (λ (v : TrialVideoSeen). v.pictures) made)
    c.in-Ok-started.ensures.starts.0 c.requires.empty c.requires.room c.in-Ok-started.ensures.starts.2

pub want_of-requires : goal.want_of-requires
want_of-requires c =
    let a = c.args in
    let s : Asked = shown a.settings.now in
    let long : length (header_unit s.parts) ≡ header_length s.parts = length-header_unit s.parts in
    let none : length a.sink.now.bytes ≡ 0 = ap (λ (l : List ℕ). length l) c.requires.empty in
    start_stop (written_under s) a.sink.now c.start-started.new.sink c.in-Err-started.stop c.requires.steep c.steady.ensures c.steady-2.ensures c.in-Err-started.ensures.starts c.in-Err-started.ensures.cause (omega (arith, long, none, c.requires.room))
