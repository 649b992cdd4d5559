use Rattle.vc2_cli.proofs.EncodedWords.{give_settings, are_encoded_by}
use Rattle.vc2_cli.proofs.laws.words_are_encoded.Goals as goal

pub returns-clause-settings : goal.returns-clause-settings
returns-clause-settings c = give_settings

pub returns-clause-encode : goal.returns-clause-encode
returns-clause-encode c = are_encoded_by
