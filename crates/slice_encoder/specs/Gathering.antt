-- A slice's coefficients, gathered band by band in the order of its values, and how far the codes of values reach.
use Rattle.std.specs.Prelude.{◌≡◌, ℕ, ◌+◌, ◌-◌, ◌*◌, ◌^◌, ◌<◌, ◌≤◌, ◌==◌, List, [], ◌∷◌, length, take, drop, map, slice_index, if◌then◌else◌, unsigned_abs, ℤ}
use Rattle.std.specs.List.{All, flat_map, range_with_len}
use Rattle.planes.specs.Numbers.{Within}
use Rattle.planes.specs.Raster.{Raster, height, at}
use Rattle.planes.specs.Subbands.{BandStack, HaveSizes}
use Rattle.planes.specs.declared.Rect.{Rect}
use Rattle.bit_codes.specs.Codes.{signed_code_of}
use Rattle.quant_factors.specs.Factors.{forward_of}
use Rattle.quant_factors.specs.Weights.{Weights, band_quantiser}
use Rattle.slice_geometry.specs.declared.Size.{Size}
use Rattle.slice_geometry.specs.Slicing.{Slicing}
use Rattle.slice_geometry.specs.Geometry.{padded_length}
use Rattle.slice_geometry.specs.SliceOrder.{level_rect, level_of, orient_of, numbered}
use Rattle.slice_encoder.specs.Trials.{CodedComponent, CodedPicture, c1_of, c2_of}
use Rattle.slice_encoder.specs.Listing.{rect_values}

-- ---- coefficients

-- those of the slice in band number k
abbrev pub raw_part : Slicing → Size → BandStack → ℕ → ℕ → ℕ → List ℤ
raw_part s size bands sx sy k = rect_values (at (numbered bands k)) (level_rect s size sx sy (level_of k))

-- those of the slice in all bands before band number k
abbrev pub raw_before : Slicing → Size → BandStack → ℕ → ℕ → ℕ → List ℤ
raw_before s size bands sx sy k = flat_map (raw_part s size bands sx sy) (range_with_len 0 k)

-- what is gathered: the depth of the transform, where each band's values end, and the values
pub record GatheredSeen : Type 0 where
  pub depth : ℕ
  pub ends : List ℕ
  pub values : List ℤ

-- the values of band number k, from 1 on
abbrev pub piece_of : GatheredSeen → ℕ → List ℤ
piece_of g k = take (slice_index g.ends k - slice_index g.ends (k - 1)) (drop (slice_index g.ends (k - 1)) g.values)

-- those of the lowest subband
abbrev pub lowest_of : GatheredSeen → List ℤ
lowest_of g = take (slice_index g.ends 0) g.values

-- the values outside the lowest subband as they were gathered
abbrev pub outside_of : GatheredSeen → List ℤ
outside_of g = take (slice_index g.ends (3 * g.depth) - slice_index g.ends 0) (drop (slice_index g.ends 0) g.values)

-- Its bands' values stand one behind the other, and each is that of a picture.
pub record IsGatheredSound (g : GatheredSeen) : Type 0 where
  pub shallow : g.depth ≤ 4
  pub rise : (k : ℕ) → 1 ≤ k → k ≤ 3 * g.depth → slice_index g.ends (k - 1) ≤ slice_index g.ends k
  pub whole : (k : ℕ) → k ≤ 3 * g.depth → slice_index g.ends k ≤ slice_index g.ends (3 * g.depth)
  pub inside : (k : ℕ) → k ≤ 3 * g.depth → slice_index g.ends k ≤ length g.values
  pub small : All (Within (2 ^ 27)) g.values
  pub few : length g.values ≤ 2 ^ 31

-- Here the values of each band end in a slice of a component, whatever its bands hold.
abbrev pub AreEnds : Slicing → Size → ℕ → ℕ → List ℕ → Type 0
AreEnds s size sx sy ends = (bands : BandStack) (k : ℕ) → k < 3 * s.depth + 1 → slice_index ends k ≡ length (raw_before s size bands sx sy (k + 1))

-- It holds the slice's coefficients in these bands.
pub record AreGathered (s : Slicing) (size : Size) (bands : BandStack) (sx sy : ℕ) (g : GatheredSeen) : Type 0 where
  pub depth : g.depth ≡ s.depth
  pub ends : (k : ℕ) → k < 3 * s.depth + 1 → slice_index g.ends k ≡ length (raw_before s size bands sx sy (k + 1))
  pub lowest : lowest_of g ≡ raw_part s size bands sx sy 0
  pub pieces : (k : ℕ) → 1 ≤ k → k < 3 * s.depth + 1 → piece_of g k ≡ raw_part s size bands sx sy k

-- what gathering a rectangle asks for
pub record CanGather (r : Rect) (coefficients : Raster ℤ) : Type 0 where
  pub across : r.x0 ≤ r.x1
  pub down : r.y0 ≤ r.y1
  pub x_inside : r.x1 ≤ coefficients.w
  pub y_inside : r.y1 ≤ height coefficients
  pub small : (y x : ℕ) → Within (2 ^ 27) (at coefficients y x)

-- and gathering all bands of a slice
pub record CanGatherAll (s : Slicing) (size : Size) (bands : BandStack) : Type 0 where
  pub depth : bands.depth ≡ s.depth
  pub sizes : HaveSizes bands (padded_length s.depth size.w) (padded_length s.depth size.h)
  pub small : (k y x : ℕ) → k < 3 * s.depth + 1 → Within (2 ^ 27) (at (numbered bands k) y x)

-- ---- values

-- coefficients, quantised
abbrev pub quantised : ℕ → List ℤ → List ℤ
quantised q vs = map (λ v. forward_of v q) vs

-- the values of band number k, quantised at an index of the slice
abbrev pub quantised_piece : GatheredSeen → Weights → ℕ → ℕ → List ℤ
quantised_piece g matrix index k = quantised (band_quantiser matrix index (level_of k) (orient_of k)) (piece_of g k)

-- one list's values and another's in turn
abbrev pub in_turn : List ℤ → List ℤ → List ℤ
in_turn [] ws = []
in_turn (v ∷ vs) [] = []
in_turn (v ∷ vs) (w ∷ ws) = v ∷ w ∷ in_turn vs ws

-- ---- how far codes reach

-- A value's code is counted where it isn't 0, or where something is counted behind it.
abbrev pub with_code : ℤ → ℕ → ℕ
with_code v behind = if unsigned_abs v + behind == 0 then 0 else length (signed_code_of v) + behind

-- how many bits the codes of values take up to the last one that isn't 0
abbrev pub reach : List ℤ → ℕ → ℕ
reach [] behind = behind
reach (v ∷ vs) behind = with_code v (reach vs behind)

-- the values outside the lowest subband
abbrev pub gathered_values : GatheredSeen → Weights → ℕ → List ℤ
gathered_values g matrix index = flat_map (quantised_piece g matrix index) (range_with_len 1 (3 * g.depth))

-- how far their codes reach at an index
abbrev pub gathered_reach : GatheredSeen → Weights → ℕ → ℕ
gathered_reach g matrix index = reach (gathered_values g matrix index) 0

-- and those of two components in turn
abbrev pub quantised_pair : GatheredSeen → GatheredSeen → Weights → ℕ → ℕ → List ℤ
quantised_pair g h matrix index k = in_turn (quantised_piece g matrix index k) (quantised_piece h matrix index k)

-- the values of two components in turn, but for the lowest subbands
abbrev pub gathered_pairs : GatheredSeen → GatheredSeen → Weights → ℕ → List ℤ
gathered_pairs g h matrix index = flat_map (quantised_pair g h matrix index) (range_with_len 1 (3 * g.depth))

-- how far their codes reach
abbrev pub gathered_pairs_reach : GatheredSeen → GatheredSeen → Weights → ℕ → ℕ
gathered_pairs_reach g h matrix index = reach (gathered_pairs g h matrix index) 0

-- of the slice's values outside the lowest subband
abbrev pub high_part : CodedComponent → ℕ → ℕ → ℕ → ℕ → List ℤ
high_part c index sx sy k =
    quantised (band_quantiser c.matrix index (level_of k) (orient_of k)) (raw_part c.slicing c.size c.bands sx sy k)

-- how far their codes reach
abbrev pub high_reach : CodedComponent → ℕ → ℕ → ℕ → ℕ
high_reach c index sx sy = reach (flat_map (high_part c index sx sy) (range_with_len 1 (3 * c.slicing.depth))) 0

-- of the two colour components in turn
abbrev pub high_pair : CodedPicture → ℕ → ℕ → ℕ → ℕ → List ℤ
high_pair j index sx sy k = in_turn (high_part (c1_of j) index sx sy k) (high_part (c2_of j) index sx sy k)

-- how far the codes of both colour components in turn reach
abbrev pub high_pairs_reach : CodedPicture → ℕ → ℕ → ℕ → ℕ
high_pairs_reach j index sx sy = reach (flat_map (high_pair j index sx sy) (range_with_len 1 (3 * j.slicing.depth))) 0

-- Each value of the lowest subband in front takes a bit at least.
abbrev pub behind_lowest : ℕ → ℕ → ℕ
behind_lowest places bits = if bits == 0 then 0 else places + bits
