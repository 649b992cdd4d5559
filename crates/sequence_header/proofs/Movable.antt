-- The header's rows do not ask where they stand.
use Rattle.std.proofs.Common.{ℕ}
use Rattle.field_rows.specs.Moved.{IsMovable}
use Rattle.field_rows.proofs.Movable.{movable}
use Rattle.slice_geometry.specs.declared.Size.{Size}
use Rattle.sequence_header.specs.Header.{version_rows, size_rows, sampling_rows, scan_rows, rate_rows, aspect_rows, clean_rows, excursion, signal_rows, flagged_index, colour_rows, coding_rows, header_fields, header_rows}

pub version_movable : IsMovable version_rows
unfolding version_rows
version_movable = search (movable) depth 20

pub size_movable : IsMovable size_rows
unfolding size_rows
size_movable = search (movable) depth 20

pub sampling_movable : (size : Size) → IsMovable (sampling_rows size)
unfolding sampling_rows
sampling_movable size = search (movable) depth 20

pub scan_movable : IsMovable scan_rows
unfolding scan_rows
scan_movable = search (movable) depth 20

pub rate_movable : IsMovable rate_rows
unfolding rate_rows
rate_movable = search (movable) depth 20

pub aspect_movable : IsMovable aspect_rows
unfolding aspect_rows
aspect_movable = search (movable) depth 20

pub clean_movable : IsMovable clean_rows
unfolding clean_rows
clean_movable = search (movable) depth 20

pub signal_movable : IsMovable signal_rows
unfolding signal_rows excursion
signal_movable = search (movable) depth 20

pub flagged_movable : IsMovable flagged_index
unfolding flagged_index
flagged_movable = search (movable) depth 20

pub colour_movable : IsMovable colour_rows
unfolding colour_rows
colour_movable = search (movable, flagged_movable) depth 20

pub coding_movable : (size : Size) (sampling : ℕ) → IsMovable (coding_rows size sampling)
unfolding coding_rows
coding_movable size sampling = search (movable) depth 20

pub header_movable : IsMovable header_rows
unfolding header_rows header_fields
header_movable = search (movable, version_movable, size_movable, sampling_movable, scan_movable, rate_movable, aspect_movable, clean_movable, signal_movable, colour_movable, coding_movable) depth 20
