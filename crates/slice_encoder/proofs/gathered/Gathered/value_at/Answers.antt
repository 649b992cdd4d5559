use Rattle.std.proofs.Common.{◌≡◌, ◌∙◌, sym, ap, ℕ, ◌+◌, ◌-◌, ◌*◌, ◌^◌, ◌<◌, List, length, get_or, arith, ℤ, pos, of_z, to_z, w32}
use Rattle.std.proofs.lemmas.Int.{to_z-of_z}
use Rattle.std.proofs.lemmas.List.{get_or-map}
use Rattle.std.proofs.lemmas.List.Elements.{All-get_or}
use Rattle.std.specs.List.{flat_map, range_with_len}
use Rattle.planes.specs.Numbers.{Within}
use Rattle.quant_factors.specs.Factors.{forward_of}
use Rattle.quant_factors.specs.Weights.{band_quantiser}
use Rattle.slice_geometry.specs.SliceOrder.{level_of, orient_of}
use Rattle.slice_encoder.specs.Gathering.{GatheredSeen, quantised, quantised_piece}
use Rattle.slice_encoder.proofs.Gathers.{length_quantised}
use Rattle.slice_encoder.proofs.Near.{fits_narrow}
use Rattle.slice_encoder.proofs.PieceByPiece.{in_first, behind_first}
use Rattle.slice_encoder.proofs.gathered.Gathered.value_at.Goals as goal

pub returns-then-left-band : goal.returns-then-left-band
returns-then-left-band c =
    let a = c.args in
    let g : GatheredSeen = a.self.now in
    let l = c.loop-k in
    let same_depth : c.self.inside.depth ≡ g.depth = ap (λ (v : GatheredSeen). v.depth) c.self.view_is in
    let band : List ℤ = c.band-band.result.now in
    let q : ℕ = c.quantiser_at-quantiser.result in
    let p = quantised_piece g a.matrix.now a.index in
    let piece : p l.k ≡ quantised q band = sym (ap (λ (i : ℕ). quantised i band) c.quantiser_at-quantiser.ensures.value ∙ ap (quantised (band_quantiser a.matrix.now a.index (level_of l.k) (orient_of l.k))) c.band-band.ensures.value) in
    let inside : l.left < length (p l.k) = omega (arith, c.if-left-band.true, ap (λ (t : List ℤ). length t) piece, length_quantised q band) in
    let v : ℤ = get_or band l.left (pos 0) in
    let told : to_z w32 (of_z w32 v) ≡ v = fits_narrow v (All-get_or (Within (2 ^ 27)) band l.left (pos 0) c.if-left-band.true c.band-band.ensures.small) in
    to_z-of_z w32 c.quantised_number.result (record { sfits = c.quantised_number.type_inv })
    ∙ c.quantised_number.ensures
    ∙ ap (λ (z : ℤ). forward_of z q) told
    ∙ sym (get_or-map (λ z. forward_of z q) band l.left (pos 0) (pos 0) c.if-left-band.true)
    ∙ sym (ap (λ (t : List ℤ). get_or t l.left (pos 0)) piece)
    ∙ sym (in_first p l.k (3 * g.depth + 1 - l.k) l.left (pos 0) (omega (arith, c.loop-k-test.true, same_depth)) inside)
    ∙ sym l.invariant.same

pub loop-k-preserved : goal.loop-k-preserved
loop-k-preserved c =
    let a = c.args in
    let g : GatheredSeen = a.self.now in
    let l = c.loop-k in
    let same_depth : c.self.inside.depth ≡ g.depth = ap (λ (v : GatheredSeen). v.depth) c.self.view_is in
    let band : List ℤ = c.band-band.result.now in
    let p = quantised_piece g a.matrix.now a.index in
    let size : length (p l.k) ≡ length band = sym (ap (λ (t : List ℤ). length t) c.band-band.ensures.value ∙ sym (length_quantised (band_quantiser a.matrix.now a.index (level_of l.k) (orient_of l.k)) _)) in
    let less : 3 * g.depth + 1 - l.k - 1 ≡ 3 * g.depth + 1 - (l.k + 1) = omega arith in
    record {
      some = omega arith;
      same =
          l.invariant.same
          ∙ behind_first p l.k (3 * g.depth + 1 - l.k) l.left (pos 0) (omega (arith, c.loop-k-test.true, same_depth)) (omega (arith, size, c.if-left-band.false))
          ∙ ap (λ (n : ℕ). get_or (flat_map p (range_with_len (l.k + 1) (3 * g.depth + 1 - l.k - 1))) (l.left - n) (pos 0)) size
          ∙ ap (λ (n : ℕ). get_or (flat_map p (range_with_len (l.k + 1) n)) (l.left - length band) (pos 0)) less;
    }
