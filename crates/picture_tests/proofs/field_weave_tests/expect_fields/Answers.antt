use Rattle.std.proofs.Common.{◌∙◌, sym}
use Rattle.picture_tests.proofs.field_weave_tests.expect_fields.Goals as goal

pub expect_split-requires : goal.expect_split-requires
expect_split-requires g c = c.blank-second.ensures ∙ sym c.blank-first.ensures
