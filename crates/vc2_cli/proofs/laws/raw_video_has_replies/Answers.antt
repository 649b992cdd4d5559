use Rattle.vc2_cli.proofs.RawReplies.{is_raw_reply, is_of_whole, is_raw_reply_by}
use Rattle.vc2_cli.proofs.laws.raw_video_has_replies.Goals as goal

pub returns-clause-encode : goal.returns-clause-encode
returns-clause-encode c = is_raw_reply

pub returns-clause-whole : goal.returns-clause-whole
returns-clause-whole c = is_of_whole

pub returns-clause-words : goal.returns-clause-words
returns-clause-words c = is_raw_reply_by
