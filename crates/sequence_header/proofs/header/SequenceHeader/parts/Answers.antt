use Rattle.std.proofs.Common.{◌≡◌, [], Ok, subst}
use Rattle.field_rows.specs.Given.{checked}
use Rattle.sequence_header.specs.declared.parts.HeaderParts.{HeaderParts}
use Rattle.sequence_header.specs.Header.{header_fields}
use Rattle.sequence_header.specs.HeaderFields.{fields_of}
use Rattle.sequence_header.proofs.Whole.{passed_whole}
use Rattle.sequence_header.proofs.header.SequenceHeader.parts.Goals as goal

pub returns-clause-passes : goal.returns-clause-passes
returns-clause-passes c = subst (λ (p : HeaderParts). checked header_fields (fields_of p) ≡ Ok (p, [])) c.self.view_is (passed_whole c.self.inside.parts c.self.invariant)
