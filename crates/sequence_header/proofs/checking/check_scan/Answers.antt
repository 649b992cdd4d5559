use Rattle.sequence_header.proofs.Groups.{scan_pass, scan_pass_none}
use Rattle.sequence_header.proofs.Failing.{scan_fail, from_within}
use Rattle.sequence_header.specs.declared.parts.HeaderReason.TheVariants.{ScanUnknown}
use Rattle.sequence_header.proofs.checking.check_scan.Goals as goal

pub returns-in-Some : goal.returns-in-Some
returns-in-Some c = rw c.in-Some.is (from_within _ _ _ 0 1 c.in-Some.scan ScanUnknown c.check_within.result c.check_within.ensures.ok c.check_within.ensures.err (λ low high. scan_pass c.in-Some.scan high) (scan_fail c.in-Some.scan))

pub returns-in-None : goal.returns-in-None
returns-in-None c = rw c.in-None.is scan_pass_none
