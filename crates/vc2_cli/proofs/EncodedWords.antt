-- What words that ask for `encode` come to.
use Rattle.std.proofs.Common.{◌∙◌, ℕ, List, Result, ap}
use Rattle.picture_codec.specs.Samples.{PictureSamples}
use Rattle.vc2_words.specs.declared.keys.WordFault.{WordFault}
use Rattle.vc2_words.specs.Commands.{AskedCommand, encode, asked_by}
use Rattle.vc2_words.specs.Lawful.{AreLawfulWords}
use Rattle.vc2_words.proofs.Settled.{words_say}
use Rattle.vc2_cli.specs.Reply.{command_reply}
use Rattle.vc2_cli.specs.WholePictures.{raw_input}
use Rattle.vc2_cli.specs.EncodeReply.{GiveSettings, AreEncodedBy}
use Rattle.vc2_cli.proofs.SteepOk.{steep_from_ok}
use Rattle.vc2_cli.proofs.Parts.{encode_was}
use Rattle.vc2_cli.proofs.TrialWritten.{trial_settings}
use Rattle.vc2_cli.proofs.EncodeReplies.{are_encoded}

pub give_settings : (words : List (List ℕ)) → GiveSettings words
give_settings words s asked =
    let was = encode_was (asked_by words) s asked in
    let lawful : AreLawfulWords s = words_say words (encode s) was.0 in
    trial_settings s lawful (steep_from_ok s lawful.params was.1)

pub are_encoded_by : (words : List (List ℕ)) (pictures : List PictureSamples) → AreEncodedBy words pictures
are_encoded_by words pictures s asked may =
    ap (λ (r : Result AskedCommand WordFault). command_reply r (raw_input s pictures)) asked ∙ are_encoded s pictures (give_settings words s asked) may
