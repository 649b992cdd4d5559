use Rattle.std.proofs.Common.{Option, sym, subst}
use Rattle.picture_codec.specs.Decoding.{PictureDecoderSeen}
use Rattle.stream_reader.specs.StreamTable.{KeepsDecoder, Makes}
use Rattle.stream_reader.proofs.ReaderTurns.{finished_makes, unfinished_makes}
use Rattle.stream_reader.proofs.steps.keep.Goals as goal
use Rattle.stream_reader.proofs.steps.keep.Goals.{then-makes_pictures, else-makes_pictures}

pub returns-after-makes_pictures : goal.returns-after-makes_pictures
returns-after-makes_pictures c =
    let makes = c.args.makes_pictures in
    let made : Makes makes c.in-Some.decoder c.if-makes_pictures.decoder = elim c.if-makes_pictures.branch [
      | then-makes_pictures w ↦ subst (Makes makes c.in-Some.decoder) (sym w.decoder-is) (finished_makes makes c.in-Some.decoder w.finish.new.decoder w.finish.ensures.state w.finish.ensures.unit)
      | else-makes_pictures w ↦ unfinished_makes makes c.in-Some.decoder c.if-makes_pictures.decoder w.if-makes_pictures.false w.decoder-is
    ] in
    subst (λ (took : Option PictureDecoderSeen). KeepsDecoder makes took c.args.kept.now c.replace.new.self) (sym c.in-Some.is) (c.if-makes_pictures.decoder, c.replace.ensures.after, made)
