-- No row of the transform parameters asks for its place.
use Rattle.std.proofs.Common.{ℕ}
use Rattle.field_rows.specs.Moved.{IsMovable}
use Rattle.field_rows.proofs.Movable.{movable}
use Rattle.transform_params.specs.Params.{wavelet_index_rows, wavelet_rows, slices_y_rows, denominator_rows, slicing_rows, matrix_rows, params_fields, params_rows}

wavelet_movable : IsMovable wavelet_rows
unfolding wavelet_rows wavelet_index_rows
wavelet_movable = search movable depth 20

slicing_movable : IsMovable slicing_rows
unfolding slicing_rows slices_y_rows denominator_rows
slicing_movable = search movable depth 20

matrix_movable : (depth : ℕ) → IsMovable (matrix_rows depth)
unfolding matrix_rows
matrix_movable depth = search movable depth 20

pub params_movable : IsMovable params_rows
unfolding params_rows params_fields
params_movable = search (movable, wavelet_movable, slicing_movable, matrix_movable) depth 20
