-- A slice that is to be encoded.
use Rattle.planes.specs.declared.Trio.{Trio}
use Rattle.slice_encoder.specs.declared.jobs.SliceJob.{SliceJob}
use Rattle.slice_encoder.specs.Trials.{CodedPicture}
use Rattle.slice_encoder.specs.Ready.{coded_picture}

-- the picture that it is a slice of, where these are the coefficients
abbrev pub picture_of : SliceJob → Trio → CodedPicture
picture_of job coefficients = coded_picture job.layout.now job.shape.now job.matrix.now coefficients
