-- What is seen of transform parameters.
use Rattle.transform_params.specs.declared.TransformParams.{TransformParams}
use Rattle.transform_params.specs.Params.{Params}

-- parameters as contracts see them
abbrev pub params_of : TransformParams → Params
params_of p = record { wavelet = p.wavelet; slicing = p.layout; matrix = p.matrix }
