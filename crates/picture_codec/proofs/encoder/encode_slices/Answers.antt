use Rattle.std.proofs.Common.{max, List, ℤ, ℕ, ◌*◌, subst, ◌≡◌, ◌≤◌, ◌<◌, ◌+◌, ◌-◌, ◌/◌, ◌%◌, refl, sym, ap, ◌∙◌, arith, length, rules}
use Rattle.std.proofs.lemmas.Slice.{overwrites}
use Rattle.std.proofs.lemmas.Grind.{common_steps}
use Rattle.planes.specs.declared.Trio.{Trio}
use Rattle.planes.specs.declared.ThreePlanes.{ThreePlanes}
use Rattle.quant_factors.specs.Weights.{Weights}
use Rattle.slice_geometry.specs.declared.PictureShape.{PictureShape}
use Rattle.slice_geometry.specs.Slicing.{Slicing, slice_count}
use Rattle.slice_geometry.proofs.Shares.{bytes_before-rises, bytes_before-zero, some_share, share_most}
use Rattle.slice_encoder.specs.Chosen.{chosen, written_slice}
use Rattle.slice_encoder.specs.Encoded.{SliceEncoderSeen}
use Rattle.slice_encoder.specs.SliceLists.{HoldsSlice}
use Rattle.slice_encoder.specs.TrialLaws.{IsSteepOk}
use Rattle.slice_encoder.specs.Ready.{coded_picture, AreReadyToWrite}
use Rattle.slice_encoder.specs.Trials.{CodedPicture}
use Rattle.picture_codec.proofs.ChosenSlices.{slice_ready, is_next, sizes_kept, kept_on, bytes_are, one_slice_more, part_fits, part_length, kept_none}
use Rattle.picture_codec.proofs.Tables.{row_below, column_below}
use Rattle.picture_codec.proofs.StoredBands.{slice_of_store}
use Rattle.picture_codec.proofs.encoder.encode_slices.Goals as goal

-- what the encoder of slices asks of the next slice
abbrev Asked : PictureShape → Weights → Trio → ThreePlanes → ℕ → ℕ → List ℤ → List ℤ → List ℤ → Slicing → Type 0
Asked shape m t kept sx sy luma c1 c2 s =
    HoldsSlice s shape.luma t.luma sx sy luma × (HoldsSlice s shape.colour t.c1 sx sy c1 × (HoldsSlice s shape.colour t.c2 sx sy c2
    × (AreReadyToWrite (coded_picture s shape m t) sx sy kept × IsSteepOk s.depth (max shape.luma_depth shape.colour_depth) m)))

pub loop-n-init : goal.loop-n-init
loop-n-init g c =
    let s = c.args.params.now.layout in
    let j : CodedPicture = coded_picture s c.args.slices.now.shape c.args.params.now.matrix g.coefficients in
    record {
      same = refl;
      place_is = sym (bytes_before-zero s.a s.b);
      room = c.requires.1.1.1.1.1.1;
      sizes = c.requires.1.1.1.1.1.0;
      kept = kept_none j c.args.kept.now;
      done = refl;
    }

pub overflow_add-end : goal.overflow_add-end
overflow_add-end g c =
    let s = c.args.params.now.layout in
    let lt : c.loop-n.n < slice_count s = omega (arith, c.loop-n-test.true, c.count-n-end.ensures.value) in
    let most = bytes_before-rises s.a s.b c.loop-n.n (slice_count s) c.count-n-end.ensures.allowed.share.some (omega arith) in
    let share = share_most s.a s.b c.loop-n.n (slice_count s) c.count-n-end.ensures.allowed.share.some lt in
    omega (arith, c.loop-n.invariant.place_is, c.share.ensures, most, share, c.count-n-end.ensures.allowed.share.total)

pub slice_bounds-slice-end : goal.slice_bounds-slice-end
slice_bounds-slice-end g c =
    let s = c.args.params.now.layout in
    let most = bytes_before-rises s.a s.b (c.loop-n.n + 1) (slice_count s) c.count-n-end.ensures.allowed.share.some (omega (arith, c.loop-n-test.true, c.count-n-end.ensures.value)) in
    let rises = bytes_before-rises s.a s.b c.loop-n.n (c.loop-n.n + 1) c.count-n-end.ensures.allowed.share.some (omega arith) in
    let last : c.loop-n.place + c.share.result ≤ length c.loop-n.bytes = omega (arith, c.loop-n.invariant.place_is, c.loop-n.invariant.room, c.share.ensures, most, rises) in
    search (rules, last)

pub run-luma-requires-clause-across : goal.run-luma-requires-clause-across
run-luma-requires-clause-across g c =
    let s = c.args.params.now.layout in
    let inside : c.loop-n.n < s.slices_y * s.slices_x = omega (arith, c.loop-n-test.true, c.count-n-end.ensures.value) in
    rw (c.requires.1.1.0.luma.same_slicing, c.slices_x-across.ensures.value) (column_below c.loop-n.n s.slices_x s.slices_y inside)

pub run-luma-requires-clause-down : goal.run-luma-requires-clause-down
run-luma-requires-clause-down g c =
    let s = c.args.params.now.layout in
    let inside : c.loop-n.n < s.slices_y * s.slices_x = omega (arith, c.loop-n-test.true, c.count-n-end.ensures.value) in
    rw (c.requires.1.1.0.luma.same_slicing, c.slices_x-across.ensures.value) (row_below c.loop-n.n s.slices_x s.slices_y inside)

pub run-c1-requires-clause-across : goal.run-c1-requires-clause-across
run-c1-requires-clause-across g c =
    let s = c.args.params.now.layout in
    let inside : c.loop-n.n < s.slices_y * s.slices_x = omega (arith, c.loop-n-test.true, c.count-n-end.ensures.value) in
    rw (c.requires.1.1.0.c1.same_slicing, c.slices_x-across.ensures.value) (column_below c.loop-n.n s.slices_x s.slices_y inside)

pub run-c1-requires-clause-down : goal.run-c1-requires-clause-down
run-c1-requires-clause-down g c =
    let s = c.args.params.now.layout in
    let inside : c.loop-n.n < s.slices_y * s.slices_x = omega (arith, c.loop-n-test.true, c.count-n-end.ensures.value) in
    rw (c.requires.1.1.0.c1.same_slicing, c.slices_x-across.ensures.value) (row_below c.loop-n.n s.slices_x s.slices_y inside)

pub run-c2-requires-clause-across : goal.run-c2-requires-clause-across
run-c2-requires-clause-across g c =
    let s = c.args.params.now.layout in
    let inside : c.loop-n.n < s.slices_y * s.slices_x = omega (arith, c.loop-n-test.true, c.count-n-end.ensures.value) in
    rw (c.requires.1.1.0.c2.same_slicing, c.slices_x-across.ensures.value) (column_below c.loop-n.n s.slices_x s.slices_y inside)

pub run-c2-requires-clause-down : goal.run-c2-requires-clause-down
run-c2-requires-clause-down g c =
    let s = c.args.params.now.layout in
    let inside : c.loop-n.n < s.slices_y * s.slices_x = omega (arith, c.loop-n-test.true, c.count-n-end.ensures.value) in
    rw (c.requires.1.1.0.c2.same_slicing, c.slices_x-across.ensures.value) (row_below c.loop-n.n s.slices_x s.slices_y inside)

pub loop-n-preserved : goal.loop-n-preserved
loop-n-preserved g c =
    let s = c.args.params.now.layout in
    let m = c.args.params.now.matrix in
    let n = c.loop-n.n in
    let j : CodedPicture = coded_picture s c.args.slices.now.shape m g.coefficients in
    let lt : n < slice_count s = omega (arith, c.loop-n-test.true, c.count-n-end.ensures.value) in
    let slicing : c.loop-n.slices.slicing ≡ s = ap (λ e. e.slicing) c.loop-n.invariant.same ∙ c.requires.0 in
    let shape : c.loop-n.slices.shape ≡ c.args.slices.now.shape = ap (λ e. e.shape) c.loop-n.invariant.same in
    let next = is_next j n lt c.count-n-end.ensures.allowed.slices in
    let across = c.slices_x-across.ensures.value in
    let rises = bytes_before-rises s.a s.b n (n + 1) c.count-n-end.ensures.allowed.share.some (omega arith) in
    let most = bytes_before-rises s.a s.b (n + 1) (slice_count s) c.count-n-end.ensures.allowed.share.some (omega arith) in
    let inside : c.loop-n.place ≤ length c.loop-n.bytes = omega (arith, c.loop-n.invariant.place_is, c.loop-n.invariant.room, most, rises) in
    let many : length c.encode_lists.new.bytes ≡ c.share.result = search rules in
    let after = rw (slicing, shape, across) at (c.encode_lists.ensures.after) in
    let tried = rw (slicing, shape, across) at (c.encode_lists.ensures.kept) in
    let encoded = after (chosen j n) next c.loop-n.invariant.kept in
    let fit = part_fits c.loop-n.place (c.loop-n.place + c.share.result - c.loop-n.place) c.loop-n.bytes c.encode_lists.new.bytes inside (λ i. omega (arith, c.type_inv.bytes i)) in
    let is = bytes_are j n lt c.count-n-end.ensures.allowed.slices c.encode_lists.new.bytes c.encode_lists.result c.encode_lists.new.kept (many ∙ c.share.ensures) fit encoded in
    let part : c.loop-n.place + c.share.result - c.loop-n.place ≡ length c.encode_lists.new.bytes = omega (arith, many) in
    let whole : c.loop-n.place + c.share.result ≡ c.loop-n.place + length c.encode_lists.new.bytes = omega (arith, many) in
    record {
      same = c.encode_lists.ensures.same ∙ c.loop-n.invariant.same;
      place_is = omega (arith, c.loop-n.invariant.place_is, c.share.ensures, rises);
      room = search (rules, overwrites);
      sizes = sizes_kept j (n % s.slices_x) (n / s.slices_x) c.encode_lists.result.qindex c.loop-n.kept c.encode_lists.new.kept c.loop-n.invariant.sizes tried;
      kept = kept_on j n lt c.count-n-end.ensures.allowed.slices c.encode_lists.new.bytes c.encode_lists.result c.encode_lists.new.kept (many ∙ c.share.ensures) fit encoded;
      done = rw (part, whole) (one_slice_more (written_slice j) n c.loop-n.place c.loop-n.bytes c.encode_lists.new.bytes inside c.loop-n.invariant.done is);
    }

pub encode_lists-requires : goal.encode_lists-requires
encode_lists-requires g c =
    let s : Slicing = c.args.params.now.layout in
    let f : SliceEncoderSeen = c.args.slices.now in
    let e : SliceEncoderSeen = c.loop-n.slices in
    let m = c.args.params.now.matrix in
    let n = c.loop-n.n in
    let kept = c.loop-n.kept in
    let lines = c.args.lines.now in
    let own = c.requires.1.1.0 in
    let sx = n % c.slices_x-across.result in
    let sy = n / c.slices_x-across.result in
    let j : CodedPicture = coded_picture s f.shape m g.coefficients in
    let lt : n < slice_count s = omega (arith, c.loop-n-test.true, c.count-n-end.ensures.value) in
    let ready = slice_ready j n lt c.count-n-end.ensures.allowed.slices kept c.requires.1.1.1.1.0 c.loop-n.invariant.sizes c.loop-n.invariant.kept in
    let here : AreReadyToWrite j sx sy kept = subst (λ (a : ℕ). AreReadyToWrite j (n % a) (n / a) kept) (sym c.slices_x-across.ensures.value) ready in
    let luma : HoldsSlice s f.shape.luma g.coefficients.luma sx sy c.run-luma.result.now =
    subst (λ (t : Trio). HoldsSlice s f.shape.luma t.luma sx sy c.run-luma.result.now) (sym c.requires.1.1.1.0) (slice_of_store lines.luma.bands.store s f.shape.luma sx sy c.run-luma.result.now own.luma.same_slicing own.luma.same_size c.run-luma.ensures.holds) in
    let c1 : HoldsSlice s f.shape.colour g.coefficients.c1 sx sy c.run-c1.result.now =
    subst (λ (t : Trio). HoldsSlice s f.shape.colour t.c1 sx sy c.run-c1.result.now) (sym c.requires.1.1.1.0) (slice_of_store lines.c1.bands.store s f.shape.colour sx sy c.run-c1.result.now own.c1.same_slicing own.c1.same_size c.run-c1.ensures.holds) in
    let c2 : HoldsSlice s f.shape.colour g.coefficients.c2 sx sy c.run-c2.result.now =
    subst (λ (t : Trio). HoldsSlice s f.shape.colour t.c2 sx sy c.run-c2.result.now) (sym c.requires.1.1.1.0) (slice_of_store lines.c2.bands.store s f.shape.colour sx sy c.run-c2.result.now own.c2.same_slicing own.c2.same_size c.run-c2.ensures.holds) in
    let all : Asked f.shape m g.coefficients kept sx sy c.run-luma.result.now c.run-c1.result.now c.run-c2.result.now s =
    (luma, (c1, (c2, (here, c.requires.1.0)))) in
    let back : Asked e.shape m g.coefficients kept sx sy c.run-luma.result.now c.run-c1.result.now c.run-c2.result.now e.slicing =
    subst (λ (v : SliceEncoderSeen). Asked v.shape m g.coefficients kept sx sy c.run-luma.result.now c.run-c1.result.now c.run-c2.result.now v.slicing) (sym c.loop-n.invariant.same)
    (subst (Asked f.shape m g.coefficients kept sx sy c.run-luma.result.now c.run-c1.result.now c.run-c2.result.now) (sym c.requires.0) all) in
    let all_bytes = bytes_before-rises s.a s.b (n + 1) (slice_count s) c.count-n-end.ensures.allowed.share.some (omega (arith, lt)) in
    let rises = bytes_before-rises s.a s.b n (n + 1) c.count-n-end.ensures.allowed.share.some (omega arith) in
    let fits : c.loop-n.place + c.share.result ≤ length c.loop-n.bytes = omega (arith, c.loop-n.invariant.place_is, c.loop-n.invariant.room, c.share.ensures, all_bytes, rises) in
    let many = part_length c.loop-n.place c.share.result c.loop-n.bytes fits in
    let some = some_share s.a s.b n c.count-n-end.ensures.allowed.share.some c.count-n-end.ensures.allowed.share.byte in
    let most = share_most s.a s.b n (slice_count s) c.count-n-end.ensures.allowed.share.some lt in
    (omega (arith, many, some, c.share.ensures), (omega (arith, many, most, c.share.ensures, c.count-n-end.ensures.allowed.share.total), back))

pub returns-clause-slices : goal.returns-clause-slices
returns-clause-slices g c = grind (arith, common_steps)
