use Rattle.std.proofs.Common.{◌≡◌, ◌+◌, ◌-◌, ◌^◌, ◌≤◌, List, ℕ, Option, [], length, false}
use Rattle.field_rows.specs.Rows.{Rows, ◌>>=◌}
use Rattle.slice_geometry.specs.Slicing.{slice_count, bytes_before, IsAllowed}
use Rattle.sequence_header.specs.declared.parts.HeaderParts.{HeaderParts}
use Rattle.slice_geometry.specs.Frames.{frame_of}
use Rattle.run_theory.specs.Begun.{Begun}
use Rattle.stream_rows.specs.declared.reason.Reason.{Reason}
use Rattle.stream_rows.specs.Streams.{frame_under}
use Rattle.stream_rows.specs.Units.{Past, DataUnit, units, slice_rows}
use Rattle.stream_reader.specs.Held.{greatest_share}
use Rattle.stream_reader.proofs.PictureTurns.{SlicesSoFar}
use Rattle.stream_reader.proofs.pictures.slices.Given as goal

abbrev pub invariant-loop-share : goal.invariant-loop-share
invariant-loop-share g l = record {
  so_far : (parts : HeaderParts) (z : Past) → frame_of l.fn.decoder.shape ≡ frame_under parts → (others : List (List ℕ) → Rows Reason DataUnit) (held0 : List ℕ) (rest0 : Option (List ℕ))
      → Begun units z held0 rest0 (g.S.Source.rest l.fn.src) l.place l.fn.window.held (slice_rows parts l.fn.decoder.params (slice_count l.fn.decoder.params.slicing) [] >>= others)
      → SlicesSoFar parts z held0 rest0 (g.S.Source.rest l.src) l.at l.window.held others l.fn.decoder.params l.decoder;
  at_is : l.at ≡ l.place + bytes_before l.fn.decoder.params.slicing.a l.fn.decoder.params.slicing.b l.decoder.next;
  total : l.at + length l.window.held + l.window.room ≡ 2 ^ 40;
  shape : l.decoder.shape ≡ l.fn.decoder.shape;
  params : l.decoder.params ≡ l.fn.decoder.params;
  unrefused : l.decoder.refused ≡ false;
  held : length l.window.held ≤ 8192 + greatest_share l.fn.decoder.params.slicing;
  few : l.decoder.next ≤ slice_count l.fn.decoder.params.slicing;
  allowed : IsAllowed l.fn.decoder.params.slicing;
  steady : g.S.Source.faults l.src ≡ g.S.Source.faults l.fn.src;
}

abbrev pub decreases-loop-share : goal.decreases-loop-share
decreases-loop-share g l = slice_count l.fn.decoder.params.slicing - l.decoder.next
