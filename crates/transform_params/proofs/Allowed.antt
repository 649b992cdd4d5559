-- A layout whose numbers break no rule breaks none.
use Rattle.std.proofs.Common.{arith}
use Rattle.slice_geometry.specs.declared.slice_layout.LayoutFault.{LayoutFault}
use Rattle.slice_geometry.specs.declared.slice_layout.LayoutFault.TheVariants.{Depth, Slices, Share}
use Rattle.slice_geometry.specs.Slicing.{Slicing, IsAllowed, IsBroken}

pub none_broken : (s : Slicing) (fault : LayoutFault) → IsAllowed s → IsBroken s fault → ⊥
none_broken s Depth f b = omega (arith, f.depth)
none_broken s Slices f b = b.1 f.slices
none_broken s Share f b = b.2 f.share
