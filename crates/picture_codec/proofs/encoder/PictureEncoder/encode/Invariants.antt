use Rattle.picture_codec.specs.EncoderInside.{trio_of}
use Rattle.picture_codec.proofs.encoder.PictureEncoder.encode.Given as goal

abbrev pub ghost-encode_slices : goal.ghost-encode_slices
ghost-encode_slices a = trio_of a.lines.now
