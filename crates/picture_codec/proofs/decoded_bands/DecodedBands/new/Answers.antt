use Rattle.std.proofs.Common.{◌≡◌, refl, sym, ap, subst, ◌∙◌}
use Rattle.std.specs.Prelude.{Bool, true, false, if◌then◌else◌}
use Rattle.planes.specs.declared.Trio.{Trio}
use Rattle.slice_geometry.specs.Geometry.{padded_length}
use Rattle.slice_decoder.specs.Short.{shown_trio}
use Rattle.picture_codec.specs.Decoding.{AreNewBands}
use Rattle.picture_codec.specs.DecodedBands.{LateSeen}
use Rattle.picture_codec.specs.ShortSlices.{AreBeside}
use Rattle.picture_codec.proofs.BothWidths.{zeros_agree}
use Rattle.picture_codec.proofs.decoded_bands.DecodedBands.new.Goals as goal
use Rattle.picture_codec.proofs.decoded_bands.DecodedBands.new.Goals.{then-not-is_short, else-not-is_short}

either : (is_short : Bool) (short rows : Trio) (P : Trio → Type 0) → (is_short ≡ true → P short) → P rows → P (if is_short then short else rows)
either true short rows P first second = first refl
either false short rows P first second = second

pub invariant_of-result : goal.invariant_of-result
invariant_of-result c =
    let s = c.args.layout.now in
    let shape = c.args.shape.now in
    let short = shown_trio c.in_ok-short.short in
    let rows = c.in-Ok.rows.bands in
    let zero = c.in_ok-short.ensures in
    let luma_w = padded_length s.depth shape.luma.w in
    let luma_h = padded_length s.depth shape.luma.h in
    let colour_w = padded_length s.depth shape.colour.w in
    let colour_h = padded_length s.depth shape.colour.h in
    let same : c.if-not-is_short.rows.bands ≡ rows = elim c.if-not-is_short.branch [
      | then-not-is_short w ↦ ap (λ (r : LateSeen Trio). r.bands) (w.rows-is ∙ w.make.ensures)
      | else-not-is_short w ↦ ap (λ (r : LateSeen Trio). r.bands) w.rows-is
    ] in
    record {
      room = sym c.in_ok-row.row.ok.0 ∙ c.in_ok-row.ensures.len;
      beside = λ cut. subst (λ (b : Trio). AreBeside c.in_ok-short.short b) (sym same) (record {
        luma = zeros_agree short.luma rows.luma s.depth luma_w luma_h (zero.luma cut) c.in-Ok.ensures.0;
        c1 = zeros_agree short.c1 rows.c1 s.depth colour_w colour_h (zero.c1 cut) c.in-Ok.ensures.1;
        c2 = zeros_agree short.c2 rows.c2 s.depth colour_w colour_h (zero.c2 cut) c.in-Ok.ensures.2;
      });
      made = λ none. elim c.if-not-is_short.branch [
        | then-not-is_short w ↦ ap (λ (r : LateSeen Trio). r.is_made) (w.rows-is ∙ w.make.ensures)
        | else-not-is_short w ↦ absurd cc
      ];
    }

pub returns : goal.returns
returns c =
    let s = c.args.layout.now in
    let shape = c.args.shape.now in
    let zero = c.in_ok-short.ensures in
    let same : c.if-not-is_short.rows.bands ≡ c.in-Ok.rows.bands = elim c.if-not-is_short.branch [
      | then-not-is_short w ↦ ap (λ (r : LateSeen Trio). r.bands) (w.rows-is ∙ w.make.ensures)
      | else-not-is_short w ↦ ap (λ (r : LateSeen Trio). r.bands) w.rows-is
    ] in
    let AreNew : Trio → Type 0 = λ b. AreNewBands s shape.luma b.luma × AreNewBands s shape.colour b.c1 × AreNewBands s shape.colour b.c2 in
    either c.are_short-is_short.result (shown_trio c.in_ok-short.short) c.if-not-is_short.rows.bands AreNew
    (λ cut. (zero.luma cut, zero.c1 cut, zero.c2 cut)) (subst AreNew (sym same) c.in-Ok.ensures)
