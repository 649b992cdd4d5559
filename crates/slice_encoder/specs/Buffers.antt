-- The buffers that hold the values of a slice.
use Rattle.std.specs.Prelude.{◌≡◌, ℕ, ◌*◌, ◌^◌, ◌≤◌, List, ◌++◌, length, take, ℤ}
use Rattle.std.specs.List.{flat_map, range_with_len}
use Rattle.planes.specs.declared.ThreePlanes.{ThreePlanes}
use Rattle.planes.specs.Subbands.{BandStack}
use Rattle.bounded_blocks.specs.Writing.{need}
use Rattle.quant_factors.specs.Weights.{Weights}
use Rattle.slice_geometry.specs.declared.Size.{Size}
use Rattle.slice_geometry.specs.Slicing.{Slicing}
use Rattle.slice_geometry.specs.SliceOrder.{place_count}
use Rattle.slice_encoder.specs.declared.search.Trying.{Trying}
use Rattle.slice_encoder.specs.Choice.{fits}
use Rattle.slice_encoder.specs.Trials.{CodedComponent, CodedPicture, Lists, luma_of}
use Rattle.slice_encoder.specs.Tries.{tried_lists}
use Rattle.slice_encoder.specs.Gathering.{high_part, high_pair}
use Rattle.slice_encoder.specs.Looks.{IsLook}
use Rattle.slice_encoder.specs.TrialLaws.{AreSmallValues}

-- the buffers for a slice's values have room for them
pub record HasListRoom (j : CodedPicture) (sx sy lumas colours : ℕ) : Type 0 where
  pub luma : place_count j.slicing j.frame.luma sx sy ≤ lumas
  pub colour : 2 * place_count j.slicing j.frame.colour sx sy ≤ colours
  pub few_luma : lumas ≤ 2 ^ 32
  pub few_colour : colours ≤ 2 ^ 32

-- The front of two buffers holds the values of a slice's lowest subbands, behind which its lists have these others; these are
-- the looks at the others, and the needs of all.
pub record HoldsLists (l high : Lists) (bytes : ℕ) (t : Trying) (lumas colours : List ℤ) : Type 0 where
  pub luma_count : t.luma ≤ length lumas
  pub colour_count : t.colour ≤ length colours
  pub luma : take t.luma lumas ++ high.luma ≡ l.luma
  pub colour : take t.colour colours ++ high.colour ≡ l.colour
  pub luma_look : IsLook t.looks.luma high.luma
  pub colour_look : IsLook t.looks.colour high.colour
  pub luma_small : AreSmallValues l.luma
  pub colour_small : AreSmallValues l.colour
  pub luma_need : t.luma_need ≡ need l.luma
  pub colour_need : t.colour_need ≡ need l.colour
  pub fit : t.fits ≡ fits bytes l

-- the values of a slice outside its lowest subbands
abbrev pub high_lists : CodedPicture → ℕ → ℕ → ℕ → Lists
high_lists j index sx sy = record {
  luma = flat_map (high_part (luma_of j) index sx sy) (range_with_len 1 (3 * j.slicing.depth));
  colour = flat_map (high_pair j index sx sy) (range_with_len 1 (3 * j.slicing.depth));
}

-- the lists that two such buffers and these others make
abbrev pub lists_held : CodedPicture → ℕ → ℕ → ℕ → Trying → List ℤ → List ℤ → Lists
lists_held j sx sy index t lumas colours = record {
  luma = take t.luma lumas ++ (high_lists j index sx sy).luma;
  colour = take t.colour colours ++ (high_lists j index sx sy).colour;
}

-- Two buffers hold so what a trial of an index found over these planes.
abbrev pub HoldsTrial : CodedPicture → ThreePlanes → ℕ → ℕ → ℕ → ℕ → Trying → List ℤ → List ℤ → Type 0
HoldsTrial j kept sx sy index = HoldsLists (tried_lists j kept sx sy index) (high_lists j index sx sy)

-- a component of these bands, with their layout, size and matrix
abbrev pub coded_component : Slicing → Size → Weights → BandStack → CodedComponent
coded_component s size matrix bands = record { slicing = s; size = size; matrix = matrix; bands = bands }
