use Rattle.slice_encoder.proofs.ShortTexts.{text_at-is}
use Rattle.slice_encoder.proofs.short_texts.text_at.Goals as goal

pub returns : goal.returns
returns c = text_at-is c.args.place c.requires
