-- Video that a number gives (own): each sample is its column, row and picture, and the high bits of a state that takes a
-- step for each sample of the video.
use Rattle.std.specs.Prelude.{ℕ, zero, suc, ◌+◌, ◌*◌, ◌/◌, ◌%◌, ◌^◌, List, map}
use Rattle.std.specs.List.{range_with_len}
use Rattle.slice_geometry.specs.declared.Size.{Size}
use Rattle.slice_geometry.specs.declared.PictureShape.{PictureShape}
use Rattle.slice_geometry.specs.Frames.{Frame}
use Rattle.picture_codec.specs.Samples.{SamplesSeen, PictureSamples, samples_by}
use Rattle.raw_video.specs.RawParse.{luma_count, colour_count}

-- the state behind so many steps from the seed
abbrev pub state_at : ℕ → ℕ → ℕ
state_at seed zero = seed
state_at seed (suc j) = (25173 * state_at seed j + 13849) % 65536

-- Sample j of the video, in row y and column x of a component of picture p with so many bits. Its state is the one
-- behind its step.
abbrev pub video_sample : (seed depth p j y x : ℕ) → ℕ
video_sample seed depth p j y x = (x + 2 * y + 3 * p + state_at seed (j + 1) / 4096) % 2 ^ depth

-- a component of picture p, whose first sample is the video's sample `first`
abbrev pub video_rows : (seed p first depth : ℕ) → Size → SamplesSeen
video_rows seed p first depth size = samples_by size (λ y x. video_sample seed depth p (first + (y * size.w + x)) y x)

-- how many samples a picture has
abbrev pub picture_count : Frame → ℕ
picture_count f = luma_count f + colour_count f + colour_count f

-- Picture p, from 0. Samples are counted through the whole video: luma, then C1, then C2, each row by row.
abbrev pub video_picture : Frame → (seed p : ℕ) → PictureSamples
video_picture f seed p =
    let first = p * picture_count f in
    record {
      luma = video_rows seed p first f.luma_depth f.luma;
      c1 = video_rows seed p (first + luma_count f) f.colour_depth f.colour;
      c2 = video_rows seed p (first + luma_count f + colour_count f) f.colour_depth f.colour;
    }

-- the first n pictures
abbrev pub video : Frame → (seed n : ℕ) → List PictureSamples
video f seed n = map (λ p. video_picture f seed p) (range_with_len 0 n)

-- What is seen of a video: the shape of its pictures, its seed, and how many pictures were given.
pub record TrialVideoSeen : Type 0 where
  pub shape : PictureShape
  pub seed : ℕ
  pub pictures : ℕ
