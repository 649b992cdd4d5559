use Rattle.raw_video.proofs.ReadBack.{length_raw, picture_back, pictures_back}
use Rattle.raw_video.proofs.laws.written_is_read_back.Goals as goal

pub returns : goal.returns
returns c = record {
  length = length_raw;
  picture = λ f place s more few fewer of inside. picture_back f s of few fewer place more inside;
  pictures = λ f pictures few fewer some of inside. pictures_back f few fewer some pictures of inside;
}
