use Rattle.std.proofs.Common.{◌≡◌, sym, subst, ℕ, true, false}
use Rattle.planes.specs.Subbands.{AreZeroBands}
use Rattle.slice_geometry.specs.declared.Size.{Size}
use Rattle.slice_geometry.specs.Geometry.{padded_length}
use Rattle.proxy_picture.specs.Making.{AreSized}
use Rattle.proxy_picture.proofs.Same.{zeros_sized}
use Rattle.proxy_picture.proofs.widened.WidenedBands.new.Goals as goal

pub returns : goal.returns
returns c =
    let bands = c.in_ok-bands.bands in
    let late = c.in_ok-late.late in
    let size : Size = c.args.size in
    let depth = c.args.layout.now.depth in
    let padded = c.padded_size-padded.result in
    record {
      rowless = λ not_made. subst (λ (d : ℕ). AreZeroBands bands d 0 0) (sym c.in_ok-late.ensures.same_depth) c.in_ok-bands.ensures;
      made = λ is_made. absurd (let both : false ≡ true = is_made in cc);
      late = λ not_made.
          subst (λ (d : ℕ). AreSized d (padded_length depth size.w) (padded_length depth size.h) late) c.depth-depth.ensures.value
          (subst (λ (z : Size). AreSized c.depth-depth.result z.w z.h late) c.padded_size-padded.ensures.value (zeros_sized late c.depth-depth.result padded.w padded.h c.in_ok-late.ensures));
      row = c.in_ok-row.ensures;
    }
