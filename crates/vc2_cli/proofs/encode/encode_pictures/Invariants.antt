use Rattle.std.proofs.Common.{◌≡◌, ◌<◌, ◌≤◌, None, false, ℕ, List, Option}
use Rattle.slice_geometry.specs.Slicing.{slice_count}
use Rattle.sequence_header.specs.Coding.{IsShapeOf}
use Rattle.vc2_words.specs.Shown.{shown}
use Rattle.vc2_cli.specs.Encode.{raw_size}
use Rattle.vc2_cli.specs.EncodeTurn.{WritesPictures}
use Rattle.vc2_cli.proofs.encode.encode_pictures.Given as goal

abbrev pub invariant-loop-turn : goal.invariant-loop-turn
invariant-loop-turn g l =
    let rest = g.S.Source.rest in
    let written = g.K.Sink.written in
    let asked = shown l.settings in
    record {
      unrefused : l.reader.refused ≡ false;
      shape : l.reader.shape ≡ l.picture.shape;
      pictures : IsShapeOf l.picture.shape l.writer.settings.parts;
      unended : l.writer.ended ≡ false;
      going : l.writer.stop ≡ None;
      goes : (rest0 out0 : Option (List ℕ)) → 0 < raw_size asked → 1 ≤ slice_count asked.params.slicing
          → WritesPictures asked 0 rest0 (rest l.fn.src) out0 (written l.fn.out) l.fn.reader l.fn.writer → WritesPictures asked l.turn rest0 (rest l.src) out0 (written l.out) l.reader l.writer;
      steady : g.S.Source.faults l.src ≡ g.S.Source.faults l.fn.src;
      steady_out : g.K.Sink.faults l.out ≡ g.K.Sink.faults l.fn.out;
    }
