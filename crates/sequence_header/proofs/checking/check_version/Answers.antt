use Rattle.sequence_header.proofs.Groups.{version_pass}
use Rattle.sequence_header.proofs.Failing.{version_fail, from_within}
use Rattle.sequence_header.specs.declared.parts.HeaderReason.TheVariants.{VersionRefused}
use Rattle.sequence_header.proofs.checking.check_version.Goals as goal

pub returns : goal.returns
returns c = from_within _ _ _ 1 2 c.args.major VersionRefused c.check_within.result c.check_within.ensures.ok c.check_within.ensures.err (version_pass (record { major = c.args.major; minor = c.args.minor; level = c.args.level })) (version_fail (record { major = c.args.major; minor = c.args.minor; level = c.args.level }))
