use Rattle.std.proofs.Common.{◌≡◌, ◌∙◌, ℕ, ◌+◌, ◌-◌, ◌*◌, List, [], length, take, sym, ap, subst, arith, ℤ}
use Rattle.std.specs.Prelude.{slice_index}
use Rattle.slice_geometry.specs.SliceOrder.{level_of, orient_of}
use Rattle.quant_factors.specs.Weights.{band_quantiser}
use Rattle.slice_encoder.specs.Gathering.{GatheredSeen, IsGatheredSound, quantised, quantised_piece, quantised_pair, in_turn}
use Rattle.slice_encoder.proofs.Gathers.{band_listed}
use Rattle.slice_encoder.proofs.SmallValues.{pairs_small}
use Rattle.slice_encoder.proofs.PairPlaces.{places_joined}
use Rattle.slice_encoder.proofs.gathered.Gathered.list_pair.Goals as goal

pub loop-k-preserved : goal.loop-k-preserved
loop-k-preserved c =
    let a = c.args in
    let g : GatheredSeen = a.self.now in
    let h : GatheredSeen = a.second.now in
    let l = c.loop-k in
    let k = l.k in
    let same_depth : c.self.inside.depth ≡ g.depth = ap (λ (v : GatheredSeen). v.depth) c.self.view_is in
    let sound : IsGatheredSound g = subst IsGatheredSound c.self.view_is c.self.invariant in
    let rise = sound.rise k l.invariant.some (omega (arith, same_depth, c.loop-k-test.true)) in
    let back : k + 1 - 1 ≡ k = omega arith in
    let place : l.place + 2 * length c.band-band.result.now + 2 * slice_index g.ends 0 ≡ 2 * slice_index g.ends k = omega (arith, l.invariant.place, c.band-band.ensures.count, rise) in
    let q : ℕ = band_quantiser a.matrix.now a.index (level_of k) (orient_of k) in
    let index_is : c.quantiser_at-quantiser.result ≡ q = c.quantiser_at-quantiser.ensures.value in
    let new : List ℤ = in_turn (quantised c.quantiser_at-quantiser.result c.band-band.result.now) (quantised c.quantiser_at-quantiser.result c.band.result.now) in
    let new_is : new ≡ in_turn (quantised_piece g a.matrix.now a.index k) (quantised_piece h a.matrix.now a.index k) =
    ap (λ (i : ℕ). in_turn (quantised i c.band-band.result.now) (quantised i c.band.result.now)) index_is
    ∙ ap (λ (vs : List ℤ). in_turn (quantised q vs) (quantised q c.band.result.now)) c.band-band.ensures.value
    ∙ ap (λ (vs : List ℤ). in_turn (quantised_piece g a.matrix.now a.index k) (quantised q vs)) c.band.ensures.value
    in
    record {
      same_length = c.quantise_pair_at.auto.out ∙ l.invariant.same_length;
      same_places = c.quantise_pair_at.auto.places ∙ l.invariant.same_places;
      some = omega arith;
      place = place ∙ sym (ap (λ (j : ℕ). 2 * slice_index g.ends j) back);
      so_far = band_listed (quantised_pair g h a.matrix.now a.index) k [] (take l.place l.out) _ new l.invariant.some l.invariant.so_far new_is c.quantise_pair_at.ensures.values;
      places = places_joined (take l.place l.out) _ _ (take l.place l.places) _ l.invariant.places c.quantise_pair_at.ensures.values c.quantise_pair_at.ensures.places;
    }

pub returns-clause-small : goal.returns-clause-small
returns-clause-small c = pairs_small c.args.matrix.now c.args.index c.requires.index c.args.self.now c.args.second.now (subst IsGatheredSound c.self.view_is c.self.invariant) (subst IsGatheredSound c.second.view_is c.second.invariant)
