use Rattle.vc2_cli.proofs.ProxyReplies.{is_proxied}
use Rattle.vc2_cli.proofs.laws.proxies_have_replies.Goals as goal

pub returns : goal.returns
returns c = is_proxied
