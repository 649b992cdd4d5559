-- What reading both blocks of a slice leaves, before the lowest subbands are restored.
use Rattle.std.specs.Prelude.{◌≡◌, ◌+◌, ◌*◌, ◌&&◌, Bool, true, List}
use Rattle.planes.specs.declared.Trio.{Trio}
use Rattle.slice_decoder.specs.Slice.{are_small}
use Rattle.slice_decoder.specs.Dealing.{dealt}
use Rattle.slice_decoder.specs.Components.{Part, quantisers_before, BandsHold, BandsKeep}

-- The answer says whether all values are small, and the bands hold them then. All other places stay.
pub record IsRead (luma colour : Part) (luma_block colour_block : List Bool) (old new : Trio) (good : Bool) : Type 0 where
  pub small : good ≡ (are_small (dealt luma_block (quantisers_before 1 luma (3 * luma.slicing.depth + 1)))
      && are_small (dealt colour_block (quantisers_before 2 colour (3 * colour.slicing.depth + 1))))
  pub luma_holds : good ≡ true → BandsHold 1 0 luma (3 * luma.slicing.depth + 1) luma_block old.luma new.luma
  pub c1_holds : good ≡ true → BandsHold 2 0 colour (3 * colour.slicing.depth + 1) colour_block old.c1 new.c1
  pub c2_holds : good ≡ true → BandsHold 2 1 colour (3 * colour.slicing.depth + 1) colour_block old.c2 new.c2
  pub luma_keeps : BandsKeep luma old.luma new.luma
  pub c1_keeps : BandsKeep colour old.c1 new.c1
  pub c2_keeps : BandsKeep colour old.c2 new.c2
