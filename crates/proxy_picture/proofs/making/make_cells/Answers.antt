use Rattle.std.proofs.Common.{◌≡◌, ◌∙◌, refl, sym, ap, subst, ℕ, ◌≤◌, length, true, false}
use Rattle.std.proofs.lemmas.List.{with_items_is}
use Rattle.planes.specs.Subbands.{BandStack}
use Rattle.slice_store.specs.ShortBands.{short_stack}
use Rattle.slice_geometry.specs.declared.Size.{Size}
use Rattle.slice_geometry.specs.Geometry.{padded_length}
use Rattle.lifting.specs.SampleRoom.{AreSmallIn}
use Rattle.picture_codec.specs.Samples.{SamplesSeen}
use Rattle.proxy_picture.specs.Making.{reduced, level_size, AreSized}
use Rattle.proxy_picture.proofs.Made.{small_narrow}
use Rattle.proxy_picture.proofs.Same.{sizes_same, reduced_same, widening_as}
use Rattle.proxy_picture.proofs.making.make_cells.Goals as goal

pub make_level-requires-clause-sized : goal.make_level-requires-clause-sized
make_level-requires-clause-sized c =
    let size : Size = c.args.of.size in
    let s = c.args.params.now.layout in
    subst (λ (a : BandStack). AreSized s.depth (padded_length s.depth size.w) (padded_length s.depth size.h) a) (sym c.in-Wide.ensures) (record { same_depth = c.requires.ready.depth; sizes = c.requires.ready.sizes })

pub make_level-requires-clause-serve : goal.make_level-requires-clause-serve
make_level-requires-clause-serve c =
    let size : Size = c.args.of.size in
    let s = c.args.params.now.layout in
    subst (λ (a : BandStack). AreSmallIn a (padded_length s.depth size.w) (padded_length s.depth size.h)) (sym c.in-Wide.ensures) c.requires.ready.small

pub make_level-requires-clause-room : goal.make_level-requires-clause-room
make_level-requires-clause-room c =
    let at : Size = level_size c.args.params.now.layout c.args.level c.args.of.size in
    let late = c.make.ensures at.w at.h c.requires.room.late in
    late.0.made late.1

pub make_level-requires-clause-count : goal.make_level-requires-clause-count
make_level-requires-clause-count c =
    ap length c.as_mut_slice-cells.ensures.value ∙ c.requires.room.cells

pub returns-in-Wide-clause-room : goal.returns-in-Wide-clause-room
returns-in-Wide-clause-room c =
    let at : Size = level_size c.args.params.now.layout c.args.level c.args.of.size in
    let late = c.make.ensures at.w at.h c.requires.room.late in
    let made = c.make_level.new.cells in
    let kept_count : length made ≡ length c.args.room.now.cells.items = c.make_level.ensures.count ∙ ap length c.as_mut_slice-cells.ensures.value in
    record {
      late = record {
        rowless = λ not_made. absurd (let both : false ≡ true = sym not_made ∙ late.1 in cc);
        made = λ _. c.make_level.ensures.room;
        late = λ not_made. absurd (let both : false ≡ true = sym not_made ∙ late.1 in cc);
      };
      narrow = c.requires.room.narrow;
      widened = c.requires.room.widened;
      cells = ap length (with_items_is c.args.room.now.cells made (kept_count ∙ sym c.args.room.now.cells.ok.0)) ∙ kept_count ∙ c.requires.room.cells;
    }

pub returns-in-Wide-clause-cells : goal.returns-in-Wide-clause-cells
returns-in-Wide-clause-cells c =
    let made = c.make_level.new.cells in
    let kept_count : length made ≡ length c.args.room.now.cells.items = c.make_level.ensures.count ∙ ap length c.as_mut_slice-cells.ensures.value in
    with_items_is c.args.room.now.cells made (kept_count ∙ sym c.args.room.now.cells.ok.0) ∙ c.make_level.ensures.cells
    ∙ ap (λ (a : BandStack). (reduced c.args.params.now.wavelet c.args.level c.args.of.size c.args.of.bits a).cells) c.in-Wide.ensures

pub make_level-requires-in-Narrow-clause-sized : goal.make_level-requires-in-Narrow-clause-sized
make_level-requires-in-Narrow-clause-sized c =
    let size : Size = c.args.of.size in
    let s = c.args.params.now.layout in
    subst (λ (a : BandStack). AreSized s.depth (padded_length s.depth size.w) (padded_length s.depth size.h) a) (sym c.in-Narrow.ensures.0) (record { same_depth = c.requires.ready.depth; sizes = c.requires.ready.sizes })

pub make_level-requires-in-Narrow-clause-serve : goal.make_level-requires-in-Narrow-clause-serve
make_level-requires-in-Narrow-clause-serve c =
    let size : Size = c.args.of.size in
    let s = c.args.params.now.layout in
    let b : BandStack = c.in-Narrow.bands.now in
    let sized : AreSized s.depth (padded_length s.depth size.w) (padded_length s.depth size.h) b =
    subst (λ (a : BandStack). AreSized s.depth (padded_length s.depth size.w) (padded_length s.depth size.h) a) (sym c.in-Narrow.ensures.0) (record { same_depth = c.requires.ready.depth; sizes = c.requires.ready.sizes }) in
    small_narrow s size b sized c.depth.ensures.allowed.depth c.requires.size c.in-Narrow.ensures.1

pub make_level-requires-in-Narrow-clause-count : goal.make_level-requires-in-Narrow-clause-count
make_level-requires-in-Narrow-clause-count c =
    ap length c.as_mut_slice-cells.ensures.value ∙ c.requires.room.cells

pub returns-in-Narrow-clause-room : goal.returns-in-Narrow-clause-room
returns-in-Narrow-clause-room c =
    let made = c.make_level-in-Narrow.new.cells in
    let kept_count : length made ≡ length c.args.room.now.cells.items = c.make_level-in-Narrow.ensures.count ∙ ap length c.as_mut_slice-cells.ensures.value in
    record {
      late = c.requires.room.late;
      narrow = c.make_level-in-Narrow.ensures.room;
      widened = c.requires.room.widened;
      cells = ap length (with_items_is c.args.room.now.cells made (kept_count ∙ sym c.args.room.now.cells.ok.0)) ∙ kept_count ∙ c.requires.room.cells;
    }

pub returns-in-Narrow-clause-cells : goal.returns-in-Narrow-clause-cells
returns-in-Narrow-clause-cells c =
    let made = c.make_level-in-Narrow.new.cells in
    let kept_count : length made ≡ length c.args.room.now.cells.items = c.make_level-in-Narrow.ensures.count ∙ ap length c.as_mut_slice-cells.ensures.value in
    with_items_is c.args.room.now.cells made (kept_count ∙ sym c.args.room.now.cells.ok.0) ∙ c.make_level-in-Narrow.ensures.cells
    ∙ ap (λ (a : BandStack). (reduced c.args.params.now.wavelet c.args.level c.args.of.size c.args.of.bits a).cells) c.in-Narrow.ensures.0

pub take-requires-clause-sizes : goal.take-requires-clause-sizes
take-requires-clause-sizes c =
    let size : Size = c.args.of.size in
    let s = c.args.params.now.layout in
    let short = c.in-Short.bands.now in
    let a : BandStack = short_stack short in
    let sized : AreSized s.depth (padded_length s.depth size.w) (padded_length s.depth size.h) a =
    subst (λ (b : BandStack). AreSized s.depth (padded_length s.depth size.w) (padded_length s.depth size.h) b) (sym c.in-Short.ensures.0) (record { same_depth = c.requires.ready.depth; sizes = c.requires.ready.sizes }) in
    widening_as a s.depth (padded_length s.depth size.w) (padded_length s.depth size.h) (padded_length short.slices.slicing.depth short.slices.size.w) (padded_length short.slices.slicing.depth short.slices.size.h) c.args.room.now.widened
    sized (record { same_depth = refl; sizes = c.in-Short.ensures.1.sizes }) c.requires.room.widened

pub make_level-requires-in-Short-clause-sized : goal.make_level-requires-in-Short-clause-sized
make_level-requires-in-Short-clause-sized c =
    let size : Size = c.args.of.size in
    let s = c.args.params.now.layout in
    let short = c.in-Short.bands.now in
    let a : BandStack = short_stack short in
    let sized : AreSized s.depth (padded_length s.depth size.w) (padded_length s.depth size.h) a =
    subst (λ (b : BandStack). AreSized s.depth (padded_length s.depth size.w) (padded_length s.depth size.h) b) (sym c.in-Short.ensures.0) (record { same_depth = c.requires.ready.depth; sizes = c.requires.ready.sizes }) in
    sizes_same a c.take.new.self.bands c.take.ensures.same s.depth (padded_length s.depth size.w) (padded_length s.depth size.h) sized

pub make_level-requires-in-Short-clause-serve : goal.make_level-requires-in-Short-clause-serve
make_level-requires-in-Short-clause-serve c =
    let size : Size = c.args.of.size in
    let s = c.args.params.now.layout in
    let a : BandStack = short_stack c.in-Short.bands.now in
    let sized : AreSized s.depth (padded_length s.depth size.w) (padded_length s.depth size.h) a =
    subst (λ (b : BandStack). AreSized s.depth (padded_length s.depth size.w) (padded_length s.depth size.h) b) (sym c.in-Short.ensures.0) (record { same_depth = c.requires.ready.depth; sizes = c.requires.ready.sizes }) in
    small_narrow s size c.take.new.self.bands (sizes_same a c.take.new.self.bands c.take.ensures.same s.depth (padded_length s.depth size.w) (padded_length s.depth size.h) sized) c.depth.ensures.allowed.depth c.requires.size c.take.ensures.within

pub make_level-requires-in-Short-clause-count : goal.make_level-requires-in-Short-clause-count
make_level-requires-in-Short-clause-count c =
    ap length c.as_mut_slice-cells.ensures.value ∙ c.requires.room.cells

pub returns-in-Short-clause-room : goal.returns-in-Short-clause-room
returns-in-Short-clause-room c =
    let size : Size = c.args.of.size in
    let s = c.args.params.now.layout in
    let short = c.in-Short.bands.now in
    let a : BandStack = short_stack short in
    let sized : AreSized s.depth (padded_length s.depth size.w) (padded_length s.depth size.h) a =
    subst (λ (b : BandStack). AreSized s.depth (padded_length s.depth size.w) (padded_length s.depth size.h) b) (sym c.in-Short.ensures.0) (record { same_depth = c.requires.ready.depth; sizes = c.requires.ready.sizes }) in
    let made = c.make_level-in-Short.new.cells in
    let kept_count : length made ≡ length c.args.room.now.cells.items = c.make_level-in-Short.ensures.count ∙ ap length c.as_mut_slice-cells.ensures.value in
    record {
      late = c.requires.room.late;
      narrow = c.make_level-in-Short.ensures.room;
      widened = record {
        rowless = λ not_made. absurd (let both : false ≡ true = sym not_made ∙ c.take.ensures.made in cc);
        made = λ is_made. sizes_same a c.take.new.self.bands c.take.ensures.same s.depth (padded_length s.depth size.w) (padded_length s.depth size.h) sized;
        late = λ not_made. absurd (let both : false ≡ true = sym not_made ∙ c.take.ensures.made in cc);
        row = c.take.ensures.row;
      };
      cells = ap length (with_items_is c.args.room.now.cells made (kept_count ∙ sym c.args.room.now.cells.ok.0)) ∙ kept_count ∙ c.requires.room.cells;
    }

pub returns-in-Short-clause-cells : goal.returns-in-Short-clause-cells
returns-in-Short-clause-cells c =
    let a : BandStack = short_stack c.in-Short.bands.now in
    let low : a.depth ≤ 4 = subst (λ (b : BandStack). b.depth ≤ 4) (sym c.in-Short.ensures.0) (subst (λ (d : ℕ). d ≤ 4) (sym c.requires.ready.depth) c.depth.ensures.allowed.depth) in
    let made = c.make_level-in-Short.new.cells in
    let kept_count : length made ≡ length c.args.room.now.cells.items = c.make_level-in-Short.ensures.count ∙ ap length c.as_mut_slice-cells.ensures.value in
    with_items_is c.args.room.now.cells made (kept_count ∙ sym c.args.room.now.cells.ok.0) ∙ c.make_level-in-Short.ensures.cells
    ∙ ap (λ (v : SamplesSeen). v.cells) (reduced_same a c.take.new.self.bands c.take.ensures.same c.args.params.now.wavelet c.args.level c.args.of.size c.args.of.bits low)
    ∙ ap (λ (a : BandStack). (reduced c.args.params.now.wavelet c.args.level c.args.of.size c.args.of.bits a).cells) c.in-Short.ensures.0
