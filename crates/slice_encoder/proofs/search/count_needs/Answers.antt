-- `c.requires` is a tuple here, since the function has a ghost value: index, some, most, looks, restored, gathered, listed, room.
use Rattle.std.proofs.Common.{◌≡◌, ◌∙◌, ℕ, ◌*◌, ◌≤◌, ◌++◌, List, take, sym, ap, subst, arith, ℤ, to_z, of_z, w32}
use Rattle.std.proofs.lemmas.Int.{to_z-of_z}
use Rattle.std.proofs.lemmas.List.{length-take-le}
use Rattle.planes.specs.declared.Rect.{Rect}
use Rattle.slice_geometry.specs.SliceOrder.{area}
use Rattle.bounded_blocks.specs.Writing.{need}
use Rattle.slice_encoder.specs.Trials.{CodedPicture, luma_of, c1_of}
use Rattle.slice_encoder.specs.Tries.{tried_lists}
use Rattle.slice_encoder.specs.Choice.{needs_fit}
use Rattle.slice_encoder.specs.Looks.{IsLook}
use Rattle.slice_encoder.specs.TrialLaws.{AreSmallValues}
use Rattle.slice_encoder.specs.Jobs.{picture_of}
use Rattle.slice_encoder.proofs.GatheredLists.{ends_same, pieces_are, pairs_are_high}
use Rattle.slice_encoder.proofs.RestoredNeeds.{lowest_within}
use Rattle.slice_encoder.proofs.TrialLists.{lumas_small, luma_front_small, luma_need_most, luma_whole, colours_small, colour_front_small, colour_need_most, colour_whole}
use Rattle.slice_encoder.proofs.WholeTrial.{lowest_fits}
use Rattle.slice_encoder.proofs.search.count_needs.Goals as goal

pub count_places-lumas-requires-clause-across : goal.count_places-lumas-requires-clause-across
count_places-lumas-requires-clause-across g c =
    let ready = c.requires.1.1.1.1.0.1 in
    subst (λ (r : Rect). r.x0 ≤ r.x1) (sym c.requires.1.1.1.1.1.0.lowest.luma) (lowest_fits (luma_of (picture_of c.args.job g.coefficients)) _ c.args.job.sx c.args.job.sy _ ready.luma ready.across ready.down).across

pub count_places-lumas-requires-clause-down : goal.count_places-lumas-requires-clause-down
count_places-lumas-requires-clause-down g c =
    let ready = c.requires.1.1.1.1.0.1 in
    subst (λ (r : Rect). r.y0 ≤ r.y1) (sym c.requires.1.1.1.1.1.0.lowest.luma) (lowest_fits (luma_of (picture_of c.args.job g.coefficients)) _ c.args.job.sx c.args.job.sy _ ready.luma ready.across ready.down).down

pub count_places-lumas-requires-clause-few : goal.count_places-lumas-requires-clause-few
count_places-lumas-requires-clause-few g c =
    omega (arith, lowest_within (luma_of (picture_of c.args.job g.coefficients)) c.args.job.sx c.args.job.sy, ap area c.requires.1.1.1.1.1.0.lowest.luma, c.requires.1.1.1.1.1.1.1.luma, c.requires.1.1.1.1.1.1.1.few_luma)

pub count_places-colours-requires-clause-across : goal.count_places-colours-requires-clause-across
count_places-colours-requires-clause-across g c =
    let ready = c.requires.1.1.1.1.0.1 in
    subst (λ (r : Rect). r.x0 ≤ r.x1) (sym c.requires.1.1.1.1.1.0.lowest.colour) (lowest_fits (c1_of (picture_of c.args.job g.coefficients)) _ c.args.job.sx c.args.job.sy _ ready.c1 ready.across ready.down).across

pub count_places-colours-requires-clause-down : goal.count_places-colours-requires-clause-down
count_places-colours-requires-clause-down g c =
    let ready = c.requires.1.1.1.1.0.1 in
    subst (λ (r : Rect). r.y0 ≤ r.y1) (sym c.requires.1.1.1.1.1.0.lowest.colour) (lowest_fits (c1_of (picture_of c.args.job g.coefficients)) _ c.args.job.sx c.args.job.sy _ ready.c1 ready.across ready.down).down

pub count_places-colours-requires-clause-few : goal.count_places-colours-requires-clause-few
count_places-colours-requires-clause-few g c =
    omega (arith, lowest_within (c1_of (picture_of c.args.job g.coefficients)) c.args.job.sx c.args.job.sy, ap area c.requires.1.1.1.1.1.0.lowest.colour, c.requires.1.1.1.1.1.1.1.colour, c.requires.1.1.1.1.1.1.1.few_colour)

pub overflow_mul-colours : goal.overflow_mul-colours
overflow_mul-colours g c = omega (arith, c.count_places-colours.ensures, lowest_within (c1_of (picture_of c.args.job g.coefficients)) c.args.job.sx c.args.job.sy, ap area c.requires.1.1.1.1.1.0.lowest.colour, c.requires.1.1.1.1.1.1.1.colour, c.requires.1.1.1.1.1.1.1.few_colour)

pub slice_bounds-need_by_look-end : goal.slice_bounds-need_by_look-end
slice_bounds-need_by_look-end g c =
    sym (length-take-le c.count_places-lumas.result c.args.luma.now
    (omega (arith, c.count_places-lumas.ensures, lowest_within (luma_of (picture_of c.args.job g.coefficients)) c.args.job.sx c.args.job.sy, ap area c.requires.1.1.1.1.1.0.lowest.luma, c.requires.1.1.1.1.1.1.1.luma)))

pub slice_bounds-need_by_look-end-2 : goal.slice_bounds-need_by_look-end-2
slice_bounds-need_by_look-end-2 g c =
    sym (length-take-le (2 * c.count_places-colours.result) c.args.colour.now
    (omega (arith, c.count_places-colours.ensures, lowest_within (c1_of (picture_of c.args.job g.coefficients)) c.args.job.sx c.args.job.sy, ap area c.requires.1.1.1.1.1.0.lowest.colour, c.requires.1.1.1.1.1.1.1.colour)))

pub need_by_look-luma_need-requires-clause-small : goal.need_by_look-luma_need-requires-clause-small
need_by_look-luma_need-requires-clause-small g c =
    let a = c.args in
    let j : CodedPicture = picture_of a.job g.coefficients in
    let shape = a.job.shape.now in
    subst AreSmallValues (sym (ap (λ (n : ℕ). take n a.luma.now) c.count_places-lumas.ensures ∙ c.requires.1.1.1.1.1.1.0.luma))
    (luma_front_small (luma_of j) shape.luma_depth a.job.sx a.job.sy a.index c.requires.1.1.1.1.0.0.luma a.kept.now.luma c.requires.0 c.depth-depth.ensures.allowed.depth shape.luma_depth_fits.most c.requires.1.1.1.1.0.1.luma c.requires.1.1.1.1.0.2.luma)

pub need_by_look-colour_need-requires-clause-small : goal.need_by_look-colour_need-requires-clause-small
need_by_look-colour_need-requires-clause-small g c =
    let a = c.args in
    let j : CodedPicture = picture_of a.job g.coefficients in
    let shape = a.job.shape.now in
    let old = c.requires.1.1.1.1.0.0 in
    let ready = c.requires.1.1.1.1.0.1 in
    let was = c.requires.1.1.1.1.0.2 in
    subst AreSmallValues (sym (ap (λ (n : ℕ). take (2 * n) a.colour.now) c.count_places-colours.ensures ∙ c.requires.1.1.1.1.1.1.0.colour))
    (colour_front_small j shape.colour_depth a.job.sx a.job.sy a.index old.c1 a.kept.now.c1 old.c2 a.kept.now.c2 c.requires.0 c.depth-depth.ensures.allowed.depth shape.colour_depth_fits.most ready.c1 was.c1 ready.c2 was.c2)

pub pair_value_numbered-last_colour-requires-clause-ends : goal.pair_value_numbered-last_colour-requires-clause-ends
pair_value_numbered-last_colour-requires-clause-ends g c = λ k le.
    let a = c.args in
    ends_same (picture_of a.job g.coefficients) a.index a.job.sx a.job.sy a.gathered.now.c1 a.gathered.now.c2 c.requires.1.1.1.1.1.0.c1 c.requires.1.1.1.1.1.0.c2 k le

-- what luma needs
pub do_fit-requires-clause-luma_small : goal.do_fit-requires-clause-luma_small
do_fit-requires-clause-luma_small g c =
    let a = c.args in
    let j : CodedPicture = picture_of a.job g.coefficients in
    let shape = a.job.shape.now in
    let old = c.requires.1.1.1.1.0.0 in
    let ready = c.requires.1.1.1.1.0.1 in
    let was = c.requires.1.1.1.1.0.2 in
    let shallow = c.depth-depth.ensures.allowed.depth in
    let last = c.value_numbered-last_luma in
    let told : to_z w32 (of_z w32 last.result) ≡ last.result = to_z-of_z w32 last.result (record { sfits = last.type_inv }) in
    let whole = luma_whole (luma_of j) shape.luma_depth a.job.sx a.job.sy a.index old.luma a.kept.now.luma c.requires.0 shallow shape.luma_depth_fits.most ready.luma was.luma a.gathered.now.luma _ c.requires.1.1.1.1.1.0.luma (ap (λ (n : ℕ). take n a.luma.now) c.count_places-lumas.ensures ∙ c.requires.1.1.1.1.1.1.0.luma) in
    omega (
      arith,
      c.need_by_look-luma_need.ensures _ c.requires.1.1.1.0.luma (λ some. told ∙ last.ensures some),
      ap need whole,
      luma_need_most (luma_of j) shape.luma_depth a.job.sx a.job.sy a.index old.luma a.kept.now.luma c.requires.0 shallow shape.luma_depth_fits.most ready.luma was.luma,
      c.requires.1.1.1.1.1.1.1.luma,
      c.requires.1.1.1.1.1.1.1.few_luma,
    )

pub do_fit-requires-clause-colour_small : goal.do_fit-requires-clause-colour_small
do_fit-requires-clause-colour_small g c =
    let a = c.args in
    let j : CodedPicture = picture_of a.job g.coefficients in
    let shape = a.job.shape.now in
    let old = c.requires.1.1.1.1.0.0 in
    let ready = c.requires.1.1.1.1.0.1 in
    let was = c.requires.1.1.1.1.0.2 in
    let shallow = c.depth-depth.ensures.allowed.depth in
    let last = c.pair_value_numbered-last_colour in
    let told : to_z w32 (of_z w32 last.result) ≡ last.result = to_z-of_z w32 last.result (record { sfits = last.type_inv }) in
    let whole = colour_whole j shape.colour_depth a.job.sx a.job.sy a.index old.c1 a.kept.now.c1 old.c2 a.kept.now.c2 c.requires.0 shallow shape.colour_depth_fits.most ready.c1 was.c1 ready.c2 was.c2 a.gathered.now.c1 a.gathered.now.c2 _ c.requires.1.1.1.1.1.0.c1 c.requires.1.1.1.1.1.0.c2 (ap (λ (n : ℕ). take (2 * n) a.colour.now) c.count_places-colours.ensures ∙ c.requires.1.1.1.1.1.1.0.colour) in
    omega (
      arith,
      c.need_by_look-colour_need.ensures _ c.requires.1.1.1.0.colour (λ some. told ∙ last.ensures some),
      ap need whole,
      colour_need_most j shape.colour_depth a.job.sx a.job.sy a.index old.c1 a.kept.now.c1 old.c2 a.kept.now.c2 c.requires.0 shallow shape.colour_depth_fits.most ready.c1 was.c1 ready.c2 was.c2,
      c.requires.1.1.1.1.1.1.1.colour,
      c.requires.1.1.1.1.1.1.1.few_colour,
    )

pub returns : goal.returns
returns g c = λ old ready was.
    let a = c.args in
    let j : CodedPicture = picture_of a.job g.coefficients in
    let shape = a.job.shape.now in
    let shallow = c.depth-depth.ensures.allowed.depth in
    let l = tried_lists j old a.job.sx a.job.sy a.index in
    let last = c.value_numbered-last_luma in
    let told : to_z w32 (of_z w32 last.result) ≡ last.result = to_z-of_z w32 last.result (record { sfits = last.type_inv }) in
    let last_pair = c.pair_value_numbered-last_colour in
    let told_pair : to_z w32 (of_z w32 last_pair.result) ≡ last_pair.result = to_z-of_z w32 last_pair.result (record { sfits = last_pair.type_inv }) in
    let luma = luma_whole (luma_of j) shape.luma_depth a.job.sx a.job.sy a.index old.luma a.kept.now.luma c.requires.0 shallow shape.luma_depth_fits.most ready.luma was.luma a.gathered.now.luma _ c.requires.1.1.1.1.1.0.luma (ap (λ (n : ℕ). take n a.luma.now) c.count_places-lumas.ensures ∙ c.requires.1.1.1.1.1.1.0.luma) in
    let colour = colour_whole j shape.colour_depth a.job.sx a.job.sy a.index old.c1 a.kept.now.c1 old.c2 a.kept.now.c2 c.requires.0 shallow shape.colour_depth_fits.most ready.c1 was.c1 ready.c2 was.c2 a.gathered.now.c1 a.gathered.now.c2 _ c.requires.1.1.1.1.1.0.c1 c.requires.1.1.1.1.1.0.c2 (ap (λ (n : ℕ). take (2 * n) a.colour.now) c.count_places-colours.ensures ∙ c.requires.1.1.1.1.1.1.0.colour) in
    let high_luma = pieces_are (luma_of j) a.index a.job.sx a.job.sy a.gathered.now.luma c.requires.1.1.1.1.1.0.luma in
    let high_colour = pairs_are_high j a.index a.job.sx a.job.sy a.gathered.now.c1 a.gathered.now.c2 c.requires.1.1.1.1.1.0.c1 c.requires.1.1.1.1.1.0.c2 in
    let luma_need : c.need_by_look-luma_need.result ≡ need l.luma = c.need_by_look-luma_need.ensures _ c.requires.1.1.1.0.luma (λ some. told ∙ last.ensures some) ∙ ap need luma in
    let colour_need : c.need_by_look-colour_need.result ≡ need l.colour = c.need_by_look-colour_need.ensures _ c.requires.1.1.1.0.colour (λ some. told_pair ∙ last_pair.ensures some) ∙ ap need colour in
    record {
      luma_count = omega (arith, c.count_places-lumas.ensures, lowest_within (luma_of j) a.job.sx a.job.sy, ap area c.requires.1.1.1.1.1.0.lowest.luma, c.requires.1.1.1.1.1.1.1.luma);
      colour_count = omega (arith, c.count_places-colours.ensures, lowest_within (c1_of j) a.job.sx a.job.sy, ap area c.requires.1.1.1.1.1.0.lowest.colour, c.requires.1.1.1.1.1.1.1.colour);
      luma = sym (ap (λ (t : List ℤ). take c.count_places-lumas.result a.luma.now ++ t) high_luma) ∙ luma;
      colour = sym (ap (λ (t : List ℤ). take (2 * c.count_places-colours.result) a.colour.now ++ t) high_colour) ∙ colour;
      luma_look = subst (IsLook a.looks.luma) high_luma c.requires.1.1.1.0.luma;
      colour_look = subst (IsLook a.looks.colour) high_colour c.requires.1.1.1.0.colour;
      luma_small = lumas_small (luma_of j) shape.luma_depth a.job.sx a.job.sy a.index old.luma a.kept.now.luma c.requires.0 shallow shape.luma_depth_fits.most ready.luma was.luma;
      colour_small = colours_small j shape.colour_depth a.job.sx a.job.sy a.index old.c1 a.kept.now.c1 old.c2 a.kept.now.c2 c.requires.0 shallow shape.colour_depth_fits.most ready.c1 was.c1 ready.c2 was.c2;
      luma_need = luma_need;
      colour_need = colour_need;
      fit = c.do_fit.ensures ∙ ap (λ (n : ℕ). needs_fit a.job.bytes n c.need_by_look-colour_need.result) luma_need ∙ ap (λ (n : ℕ). needs_fit a.job.bytes (need l.luma) n) colour_need;
    }
