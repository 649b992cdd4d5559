-- The video's pictures are of their frame: each component has its size, and each sample its bits.
use Rattle.std.proofs.Common.{ℕ, zero, suc, ◌+◌, ◌*◌, ◌/◌, ◌%◌, ◌^◌, ◌<◌, map, refl, sym, subst, arith}
use Rattle.std.specs.List.{AllByRecursion, range_with_len}
use Rattle.std.proofs.Math.Nat.{mod-lt}
use Rattle.std.proofs.lemmas.List.FromFn.{length-map-range_with_len, get_or-map-range_with_len}
use Rattle.slice_geometry.specs.declared.Size.{Size}
use Rattle.slice_geometry.specs.Frames.{Frame}
use Rattle.picture_codec.proofs.Tables.{positive}
use Rattle.raw_video.specs.RawParse.{luma_count, colour_count, AreRows, IsOfFrame}
use Rattle.trial_video.specs.Video.{video_sample, video_rows, picture_count, video_picture}

rows_fit : (seed p first depth : ℕ) (size : Size) → AreRows size depth (video_rows seed p first depth size)
rows_fit seed p first depth size =
    let g : ℕ → ℕ = λ k. video_sample seed depth p (first + (k / size.w * size.w + k % size.w)) (k / size.w) (k % size.w) in
    let many = length-map-range_with_len g 0 (size.h * size.w) in
    record {
      width = refl;
      height = refl;
      count = many;
      below = λ k d inside. subst (λ (v : ℕ). v < 2 ^ depth) (sym (get_or-map-range_with_len g 0 (size.h * size.w) k k d (omega (arith, inside, many)) (omega arith))) (mod-lt _ (positive depth));
    }

pub picture_fits : (f : Frame) (seed p : ℕ) → IsOfFrame f (video_picture f seed p)
picture_fits f seed p =
    let first = p * picture_count f in
    record {
      luma = rows_fit seed p first f.luma_depth f.luma;
      c1 = rows_fit seed p (first + luma_count f) f.colour_depth f.colour;
      c2 = rows_fit seed p (first + luma_count f + colour_count f) f.colour_depth f.colour;
    }

pub pictures_fit : (f : Frame) (seed from n : ℕ) → AllByRecursion (IsOfFrame f) (map (λ (p : ℕ). video_picture f seed p) (range_with_len from n))
pictures_fit f seed from zero = tt
pictures_fit f seed from (suc n) = (picture_fits f seed from, pictures_fit f seed (from + 1) n)
