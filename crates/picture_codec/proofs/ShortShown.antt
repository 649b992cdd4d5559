-- Rooms of synthesis in 16 bits, and the bands that serve from one slice to the next.
use Rattle.std.proofs.Common.{◌≡◌, ℕ, sym, ap, subst, ◌∙◌}
use Rattle.std.specs.Prelude.{true}
use Rattle.planes.specs.Raster.{Raster, height}
use Rattle.planes.specs.Subbands.{BandStack, BandExists, subband_length, HaveSizes, AgreeInSizes}
use Rattle.slice_geometry.specs.declared.Size.{Size}
use Rattle.slice_geometry.specs.Slicing.{Slicing}
use Rattle.slice_geometry.specs.Geometry.{padded_length}
use Rattle.picture_codec.specs.Decoding.{AreTaken, HaveHalfRoom, HasLateRoom, HasGatherRoom}
use Rattle.picture_codec.specs.declared.workspace.LateWorkspace.{LateWorkspace}
use Rattle.picture_codec.specs.declared.workspace.GatherRoom.{GatherRoom}

-- ---- rooms that are made

-- rows that are made stay a room where they take bands
pub gathered_room : (s : Slicing) (size : Size) (n : ℕ) (b : BandStack) (r after : GatherRoom) → HasGatherRoom s size r → AreTaken s size n b → after.bands ≡ b → after.late ≡ r.late → after.is_made ≡ true → HasGatherRoom s size after
gathered_room s size n b r after room taken is late made = record {
  rowless = λ none. absurd cc;
  made = λ some. subst (λ (a : BandStack). HaveSizes a (padded_length s.depth size.w) (padded_length s.depth size.h)) (sym is) taken.sizes;
  made_depth = λ some. ap (λ (a : BandStack). a.depth) is ∙ taken.depth;
  late = λ none. absurd cc;
  late_depth = ap (λ (l : BandStack). l.depth) late ∙ room.late_depth;
}

-- a room that was made stays one of its size
pub made_room : {X : Type 0} (s : Slicing) (size : Size) (w : LateWorkspace X) (plane scratch : Raster X) → HaveHalfRoom s size plane scratch → w.is_made ≡ true → w.room.plane.w ≡ plane.w → height w.room.plane ≡ height plane
    → w.room.scratch.w ≡ scratch.w → height w.room.scratch ≡ height scratch → HasLateRoom s size w
made_room s size w plane scratch half made same_w same_h same_sw same_sh = record {
  rowless = λ none. absurd cc;
  made = λ some. record {
    columns = same_w ∙ half.columns;
    rows = same_h ∙ half.rows;
    scratch_columns = same_sw ∙ half.scratch_columns;
    scratch_rows = same_sh ∙ half.scratch_rows;
  };
  late = λ none. absurd cc;
}

-- ---- sizes

-- bands of one depth whose sizes are those of one component agree
pub sizes_agree : (a b : BandStack) (w h : ℕ) → a.depth ≡ b.depth → HaveSizes a w h → HaveSizes b w h → AgreeInSizes a b
sizes_agree a b w h deep first second = record {
  same_depth = deep;
  widths = λ level orient e. first.widths level orient e ∙ ap (λ (d : ℕ). subband_length d level w) deep ∙ sym (second.widths level orient (there level orient e));
  heights = λ level orient e. first.heights level orient e ∙ ap (λ (d : ℕ). subband_length d level h) deep ∙ sym (second.heights level orient (there level orient e));
}
  where
    there : (level orient : ℕ) → BandExists a.depth level orient → BandExists b.depth level orient
    there level orient e = subst (λ (d : ℕ). BandExists d level orient) deep e
