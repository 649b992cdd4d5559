use Rattle.std.proofs.Common.{◌∙◌, sym}
use Rattle.picture_tests.proofs.field_weave_tests.expect_pair.Goals as goal

pub expect_woven-requires : goal.expect_woven-requires
expect_woven-requires g c = c.put_rows-2.ensures ∙ c.blank-second.ensures ∙ sym (c.put_rows.ensures ∙ c.blank-first.ensures)
