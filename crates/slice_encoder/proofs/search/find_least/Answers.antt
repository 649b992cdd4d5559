-- `c.requires` is a tuple here, since the function has a ghost value: some, most, ready, gathered, near, steep, room.
use Rattle.std.proofs.Common.{◌≡◌, ◌∙◌, ℕ, refl, sym, subst, true, arith}
use Rattle.slice_encoder.specs.GatheredSlices.{AreLooks}
use Rattle.slice_encoder.specs.Trials.{CodedPicture}
use Rattle.slice_encoder.specs.Tries.{tried_lists}
use Rattle.slice_encoder.specs.Choice.{fits}
use Rattle.slice_encoder.specs.Jobs.{picture_of}
use Rattle.slice_encoder.proofs.Again.{all_tried_again, all_tried_keep, all_keep_nothing, coarsest_tried}
use Rattle.slice_encoder.proofs.GatheredLists.{ends_same, fit_may, low_refutes}
use Rattle.slice_encoder.proofs.Searching.{ready_again, holds_again, fit_again, refused_again, refuted_more}
use Rattle.slice_encoder.proofs.search.find_least.Goals as goal

pub find_first-first-requires-clause-ends : goal.find_first-first-requires-clause-ends
find_first-first-requires-clause-ends g c = λ k le.
    let a = c.args in
    let j : CodedPicture = picture_of a.job g.coefficients in
    ends_same j 0 a.job.sx a.job.sy a.gathered.now.c1 a.gathered.now.c2 c.requires.1.1.1.0.c1 c.requires.1.1.1.0.c2 k le

pub looks_behind-looks-requires-clause-ends : goal.looks_behind-looks-requires-clause-ends
looks_behind-looks-requires-clause-ends g c = λ k le.
    let a = c.args in
    let j : CodedPicture = picture_of a.job g.coefficients in
    ends_same j 0 a.job.sx a.job.sy a.gathered.now.c1 a.gathered.now.c2 c.requires.1.1.1.0.c1 c.requires.1.1.1.0.c2 k le

pub find_first-first-requires-clause-last : goal.find_first-first-requires-clause-last
find_first-first-requires-clause-last g c =
    let a = c.args in
    let j : CodedPicture = picture_of a.job g.coefficients in
    fit_may j a.job.sx a.job.sy a.gathered.now c.requires.1.1.1.0 a.kept.now c.first_residuals-firsts.result c.first_residuals-firsts.ensures.first a.job.bytes 127
    (coarsest_tried j a.job.bytes a.job.sx a.job.sy a.kept.now a.job.shape.now.luma_depth_fits a.job.shape.now.colour_depth_fits c.requires.1.1.0 c.requires.1.1.1.1.1.0)

pub loop-index-init : goal.loop-index-init
loop-index-init g c =
    let a = c.args in
    let j : CodedPicture = picture_of a.job g.coefficients in
    record {
      luma_length = refl;
      colour_length = refl;
      looks = c.find_first-first.ensures.looks;
      keeps = all_keep_nothing j a.job.sx a.job.sy a.kept.now;
      refuted = λ i lt.
          low_refutes j a.job.sx a.job.sy a.gathered.now c.requires.1.1.1.0 a.kept.now c.first_residuals-firsts.result c.first_residuals-firsts.ensures.first a.job.bytes i (c.find_first-first.ensures.first.least i lt);
    }

pub returns-then-trying-clause-least : goal.returns-then-trying-clause-least
returns-then-trying-clause-least g c =
    let a = c.args in
    let j : CodedPicture = picture_of a.job g.coefficients in
    let l = c.loop-index in
    record {
      most = omega arith;
      fit = fit_again j a.job.bytes a.job.sx a.job.sy l.index a.kept.now l.kept c.try_at-trying.result c.try_at-trying.new.luma c.try_at-trying.new.colour l.invariant.keeps c.try_at-trying.ensures.holds true c.if-trying.true;
      least = l.invariant.refuted;
    }

pub returns-then-trying-clause-holds : goal.returns-then-trying-clause-holds
returns-then-trying-clause-holds g c =
    let a = c.args in
    let j : CodedPicture = picture_of a.job g.coefficients in
    let l = c.loop-index in
    holds_again j a.job.bytes a.job.sx a.job.sy l.index a.kept.now l.kept c.try_at-trying.result c.try_at-trying.new.luma c.try_at-trying.new.colour l.invariant.keeps c.try_at-trying.ensures.holds

pub returns-then-trying-clause-kept : goal.returns-then-trying-clause-kept
returns-then-trying-clause-kept g c =
    let a = c.args in
    let j : CodedPicture = picture_of a.job g.coefficients in
    let l = c.loop-index in
    all_tried_again j a.job.sx a.job.sy l.index a.kept.now l.kept c.try_at-trying.new.kept l.invariant.keeps c.try_at-trying.ensures.kept

pub loop-index-preserved : goal.loop-index-preserved
loop-index-preserved g c =
    let a = c.args in
    let j : CodedPicture = picture_of a.job g.coefficients in
    let l = c.loop-index in
    record {
      luma_length = c.try_at-trying.auto.luma ∙ l.invariant.luma_length;
      colour_length = c.try_at-trying.auto.colour ∙ l.invariant.colour_length;
      looks = c.looks_behind-looks.ensures;
      keeps = all_tried_keep j a.job.sx a.job.sy l.index a.kept.now c.try_at-trying.new.kept (all_tried_again j a.job.sx a.job.sy l.index a.kept.now l.kept c.try_at-trying.new.kept l.invariant.keeps c.try_at-trying.ensures.kept);
      refuted =
          refuted_more (λ i. fits a.job.bytes (tried_lists j a.kept.now a.job.sx a.job.sy i)) l.index l.invariant.refuted
          (refused_again j a.job.bytes a.job.sx a.job.sy l.index a.kept.now l.kept l.invariant.keeps (sym c.try_at-trying.ensures.holds.fit ∙ c.if-trying.false));
    }

pub returns-clause-least : goal.returns-clause-least
returns-clause-least g c =
    let a = c.args in
    let j : CodedPicture = picture_of a.job g.coefficients in
    let l = c.loop-index in
    record {
      most = omega arith;
      fit = coarsest_tried j a.job.bytes a.job.sx a.job.sy a.kept.now a.job.shape.now.luma_depth_fits a.job.shape.now.colour_depth_fits c.requires.1.1.0 c.requires.1.1.1.1.1.0;
      least = λ i lt. l.invariant.refuted i (omega arith);
    }

pub returns-clause-holds : goal.returns-clause-holds
returns-clause-holds g c =
    let a = c.args in
    let j : CodedPicture = picture_of a.job g.coefficients in
    let l = c.loop-index in
    holds_again j a.job.bytes a.job.sx a.job.sy 127 a.kept.now l.kept c.try_at-coarsest.result c.try_at-coarsest.new.luma c.try_at-coarsest.new.colour l.invariant.keeps c.try_at-coarsest.ensures.holds

pub returns-clause-kept : goal.returns-clause-kept
returns-clause-kept g c =
    let a = c.args in
    let j : CodedPicture = picture_of a.job g.coefficients in
    let l = c.loop-index in
    all_tried_again j a.job.sx a.job.sy 127 a.kept.now l.kept c.try_at-coarsest.new.kept l.invariant.keeps c.try_at-coarsest.ensures.kept

pub returns-then-trying-clause-near : goal.returns-then-trying-clause-near
returns-then-trying-clause-near g c = c.find_first-first.ensures.first.most

pub returns-clause-near : goal.returns-clause-near
returns-clause-near g c = c.find_first-first.ensures.first.most

pub try_at-trying-requires : goal.try_at-trying-requires
try_at-trying-requires g c =
    let a = c.args in
    let j : CodedPicture = picture_of a.job g.coefficients in
    let l = c.loop-index in
    let room = c.requires.1.1.1.1.1.1 in
    let ready = ready_again j a.job.sx a.job.sy a.kept.now l.kept c.requires.1.1.0 l.invariant.keeps in
    (omega (arith, c.loop-index-test.true), (c.requires.0, (c.requires.1.0, (ready, (c.requires.1.1.1.0, (l.invariant.looks, record { luma = omega (arith, room.luma, l.invariant.luma_length); colour = omega (arith, room.colour, l.invariant.colour_length); few_luma = omega (arith, room.few_luma, l.invariant.luma_length); few_colour = omega (arith, room.few_colour, l.invariant.colour_length) }))))))

pub try_at-coarsest-requires : goal.try_at-coarsest-requires
try_at-coarsest-requires g c =
    let a = c.args in
    let j : CodedPicture = picture_of a.job g.coefficients in
    let l = c.loop-index in
    let room = c.requires.1.1.1.1.1.1 in
    let ready = ready_again j a.job.sx a.job.sy a.kept.now l.kept c.requires.1.1.0 l.invariant.keeps in
    let end : l.index ≡ 127 = omega (arith, c.loop-index-test.false, l.auto.index-end, c.find_first-first.ensures.first.most) in
    let looks = subst (λ (i : ℕ). AreLooks l.looks a.gathered.now a.job.matrix.now i) end l.invariant.looks in
    (omega arith, (c.requires.0, (c.requires.1.0, (ready, (c.requires.1.1.1.0, (looks, record { luma = omega (arith, room.luma, l.invariant.luma_length); colour = omega (arith, room.colour, l.invariant.colour_length); few_luma = omega (arith, room.few_luma, l.invariant.luma_length); few_colour = omega (arith, room.few_colour, l.invariant.colour_length) }))))))
