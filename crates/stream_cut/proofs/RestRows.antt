-- The rows of a unit that are left behind what it begins with.
use Rattle.std.specs.Prelude.{◌-◌, []}
use Rattle.parse_info.specs.declared.TheConstants.{HEAD_SIZE}
use Rattle.field_rows.specs.Rows.{Rows, done, ◌>>=◌, bytes_under}
use Rattle.slice_geometry.specs.Slicing.{slice_count}
use Rattle.stream_rows.specs.declared.reason.Reason.{Reason}
use Rattle.stream_rows.specs.Units.{Past, DataUnit, Sequence, Repeated, Picture, Skipped, End, next_checked}
use Rattle.stream_cut.specs.Skim.{skim_slices}
use Rattle.stream_cut.specs.Opening.{Opened, OpensSequence, OpensRepeated, OpensPicture, OpensSkipped, OpensEnd}

unfoldable pub rest_rows : Past → Opened → Rows Reason DataUnit
rest_rows z (OpensSequence parts) = done (Sequence parts)
rest_rows z OpensRepeated = done Repeated
rest_rows z (OpensPicture parts number p next) = do
  slices ← skim_slices p (slice_count p.slicing) []
  length ← next_checked z next
  done (Picture parts number p slices)
rest_rows z (OpensSkipped next) = do
  payload ← bytes_under (next - HEAD_SIZE) (λ bytes. [])
  done Skipped
rest_rows z OpensEnd = done End
