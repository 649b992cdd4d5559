use Rattle.std.proofs.Common.{◌≡◌, ◌∙◌, ℕ, ◌+◌, ◌-◌, [], length, take, sym, ap, subst, arith}
use Rattle.std.specs.Prelude.{slice_index}
use Rattle.slice_geometry.specs.SliceOrder.{level_of, orient_of}
use Rattle.quant_factors.specs.Weights.{band_quantiser}
use Rattle.slice_encoder.specs.Gathering.{GatheredSeen, IsGatheredSound, quantised, quantised_piece}
use Rattle.slice_encoder.proofs.Gathers.{band_listed}
use Rattle.slice_encoder.proofs.SmallValues.{values_small}
use Rattle.slice_encoder.proofs.PairPlaces.{places_joined}
use Rattle.slice_encoder.proofs.gathered.Gathered.list.Goals as goal

pub loop-k-preserved : goal.loop-k-preserved
loop-k-preserved c =
    let a = c.args in
    let g : GatheredSeen = a.self.now in
    let l = c.loop-k in
    let k = l.k in
    let same_depth : c.self.inside.depth ≡ g.depth = ap (λ (v : GatheredSeen). v.depth) c.self.view_is in
    let sound : IsGatheredSound g = subst IsGatheredSound c.self.view_is c.self.invariant in
    let rise = sound.rise k l.invariant.some (omega (arith, same_depth, c.loop-k-test.true)) in
    let back : k + 1 - 1 ≡ k = omega arith in
    let place : l.place + length c.band-band.result.now + slice_index g.ends 0 ≡ slice_index g.ends k = omega (arith, l.invariant.place, c.band-band.ensures.count, rise) in
    let index_is : c.quantiser_at-quantiser.result ≡ band_quantiser a.matrix.now a.index (level_of k) (orient_of k) = c.quantiser_at-quantiser.ensures.value in
    let new_is : quantised c.quantiser_at-quantiser.result c.band-band.result.now ≡ quantised_piece g a.matrix.now a.index k =
    ap (λ (q : ℕ). quantised q c.band-band.result.now) index_is ∙ ap (quantised (band_quantiser a.matrix.now a.index (level_of k) (orient_of k))) c.band-band.ensures.value
    in
    record {
      same_length = c.quantise_at.auto.out ∙ l.invariant.same_length;
      same_places = c.quantise_at.auto.places ∙ l.invariant.same_places;
      some = omega arith;
      place = place ∙ sym (ap (λ (j : ℕ). slice_index g.ends j) back);
      so_far = band_listed (quantised_piece g a.matrix.now a.index) k [] (take l.place l.out) _ (quantised c.quantiser_at-quantiser.result c.band-band.result.now) l.invariant.some l.invariant.so_far new_is c.quantise_at.ensures.values;
      places = places_joined (take l.place l.out) _ _ (take l.place l.places) _ l.invariant.places c.quantise_at.ensures.values c.quantise_at.ensures.places;
    }

pub returns-clause-small : goal.returns-clause-small
returns-clause-small c = values_small c.args.matrix.now c.args.index c.requires.index c.args.self.now (subst IsGatheredSound c.self.view_is c.self.invariant)
