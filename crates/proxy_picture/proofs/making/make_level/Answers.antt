use Rattle.std.proofs.Common.{◌∙◌, sym, subst, ℕ, ◌≤◌}
use Rattle.slice_geometry.specs.declared.Size.{Size}
use Rattle.transform_params.specs.Views.{params_of}
use Rattle.proxy_picture.proofs.Made.{shown, made_is, has_room, across_is, down_is}
use Rattle.proxy_picture.proofs.making.make_level.Goals as goal

pub synth_lower-requires-clause-few : goal.synth_lower-requires-clause-few
synth_lower-requires-clause-few g c =
    let part = c.lower_part-part.result in
    let deep = c.requires.sized.same_depth in
    subst (λ (d : ℕ). part.lower.levels ≤ d) (sym deep) c.lower_part-part.ensures.few

pub synth_lower-requires-clause-room : goal.synth_lower-requires-clause-room
synth_lower-requires-clause-room g c =
    let p = params_of c.args.params.now in
    let size : Size = c.args.of.size in
    let part = c.lower_part-part.result in
    let b = c.args.bands.now in
    let deep = c.requires.sized.same_depth in
    let is = c.lower_part-part.ensures.part in
    let low = c.lower_part-part.ensures.deep in
    has_room g.T.Number.value g.T.Number.none p c.args.level size c.args.of.bits part is b deep low c.args.planes.now.plane c.args.planes.now.scratch c.lower_part-part.ensures.w_whole c.lower_part-part.ensures.h_whole c.requires.sized.sizes c.requires.room

pub synth_lower-requires-clause-columns : goal.synth_lower-requires-clause-columns
synth_lower-requires-clause-columns g c =
    let p = params_of c.args.params.now in
    let size : Size = c.args.of.size in
    let part = c.lower_part-part.result in
    let b = c.args.bands.now in
    let deep = c.requires.sized.same_depth in
    let is = c.lower_part-part.ensures.part in
    let low = c.lower_part-part.ensures.deep in
    c.requires.room.columns ∙ sym (across_is g.T.Number.value g.T.Number.none p c.args.level size c.args.of.bits part is b deep low)

pub synth_lower-requires-clause-rows : goal.synth_lower-requires-clause-rows
synth_lower-requires-clause-rows g c =
    let p = params_of c.args.params.now in
    let size : Size = c.args.of.size in
    let part = c.lower_part-part.result in
    let b = c.args.bands.now in
    let deep = c.requires.sized.same_depth in
    let is = c.lower_part-part.ensures.part in
    let low = c.lower_part-part.ensures.deep in
    c.requires.room.rows ∙ sym (down_is g.T.Number.value g.T.Number.none p c.args.level size c.args.of.bits part is b deep low)

pub synth_lower-requires-clause-serve : goal.synth_lower-requires-clause-serve
synth_lower-requires-clause-serve g c =
    let is = c.lower_part-part.ensures.part in
    subst (λ (z : Size). g.T.Lowered.serve c.args.bands.now z.w z.h) (sym is.padded) c.requires.serve

pub synth_lower-requires-clause-shown : goal.synth_lower-requires-clause-shown
synth_lower-requires-clause-shown g c =
    let p = params_of c.args.params.now in
    let size : Size = c.args.of.size in
    let part = c.lower_part-part.result in
    let b = c.args.bands.now in
    let deep = c.requires.sized.same_depth in
    let is = c.lower_part-part.ensures.part in
    let low = c.lower_part-part.ensures.deep in
    shown g.T.Number.value g.T.Number.none p c.args.level size c.args.of.bits part is b deep low c.args.cells.now c.requires.bits c.lower_part-part.ensures.fits c.requires.count

pub returns-clause-room : goal.returns-clause-room
returns-clause-room g c =
    record {
      columns = c.synth_lower.ensures.same_width ∙ c.requires.room.columns;
      rows = c.synth_lower.ensures.same_height ∙ c.requires.room.rows;
      scratch_columns = c.synth_lower.ensures.same_width_scratch ∙ c.requires.room.scratch_columns;
      scratch_rows = c.synth_lower.ensures.same_height_scratch ∙ c.requires.room.scratch_rows;
    }

pub returns-clause-cells : goal.returns-clause-cells
returns-clause-cells g c =
    let p = params_of c.args.params.now in
    let size : Size = c.args.of.size in
    let part = c.lower_part-part.result in
    let b = c.args.bands.now in
    let deep = c.requires.sized.same_depth in
    let is = c.lower_part-part.ensures.part in
    let low = c.lower_part-part.ensures.deep in
    made_is g.T.Number.value g.T.Number.none p c.args.level size c.args.of.bits part is b deep low c.synth_lower.new.samples (c.synth_lower.ensures.count ∙ c.requires.count) c.synth_lower.ensures.samples
