-- Earlier places lie in earlier slices or in the same one.
use Rattle.std.proofs.Common.{◌≡◌, sym, ap, ℕ, ◌+◌, ◌-◌, ◌*◌, ◌<◌, ◌≤◌, List, take, get_or, arith}
use Rattle.std.proofs.Math.Nat.{mul-le-mul_right}
use Rattle.std.proofs.lemmas.List.{get_or-take}
use Rattle.slice_geometry.specs.declared.Size.{Size}
use Rattle.slice_geometry.specs.Slicing.{Slicing}
use Rattle.slice_geometry.specs.Geometry.{holding, band_size}
use Rattle.slice_geometry.proofs.Quotients.{div-rises}
use Rattle.quant_factors.specs.Weights.{band_quantiser}
use Rattle.slice_encoder.specs.Loop.{restored_value}
use Rattle.slice_encoder.specs.Trials.{CodedComponent, coefficient, slice_holding, restored_after}
use Rattle.slice_encoder.specs.TrialLaws.{EarlierIndicesAlone}
use Rattle.slice_encoder.proofs.Made.{made_same}

pub holding_rises : (count length i x : ℕ) → 1 ≤ length → i ≤ x → holding count length i ≤ holding count length x
holding_rises count length i x some le =
    let product : (i + 1) * count ≤ (x + 1) * count = mul-le-mul_right count (omega arith) in
    div-rises ((i + 1) * count - 1) ((x + 1) * count - 1) length some (omega (arith, product))

pub holder_rises : (s : Slicing) (size : Size) (j i y x : ℕ) → y < (band_size s.depth 0 size).h → x < (band_size s.depth 0 size).w → j ≤ y → i ≤ x → slice_holding s size j i ≤ slice_holding s size y x
holder_rises s size j i y x hy hx lj li =
    let band = band_size s.depth 0 size in
    let across = holding_rises s.slices_x band.w i x (omega arith) li in
    let down = holding_rises s.slices_y band.h j y (omega arith) lj in
    let rows : holding s.slices_y band.h j * s.slices_x ≤ holding s.slices_y band.h y * s.slices_x = mul-le-mul_right s.slices_x down in
    omega (arith, across, rows)

-- where two lists have the same first indices
pub rest_same : (c : CodedComponent) (a b : List ℕ) (y x : ℕ) → y < (band_size c.slicing.depth 0 c.size).h → x < (band_size c.slicing.depth 0 c.size).w
    → ((n : ℕ) → n ≤ slice_holding c.slicing c.size y x → get_or a n 0 ≡ get_or b n 0) → restored_after c a y x ≡ restored_after c b y x
unfolding restored_after
rest_same c a b y x hy hx same =
    made_same (λ j i p. restored_value (coefficient c 0 0 j i) (band_quantiser c.matrix (get_or a (slice_holding c.slicing c.size j i) 0) 0 0) p) (λ j i p. restored_value (coefficient c 0 0 j i) (band_quantiser c.matrix (get_or b (slice_holding c.slicing c.size j i) 0) 0 0) p) y x
    (λ j i p lj li. ap (λ (n : ℕ). restored_value (coefficient c 0 0 j i) (band_quantiser c.matrix n 0 0) p) (same (slice_holding c.slicing c.size j i) (holder_rises c.slicing c.size j i y x hy hx lj li)))

pub earlier_alone : EarlierIndicesAlone
earlier_alone c indices y x allowed hy hx =
    rest_same c indices (take (slice_holding c.slicing c.size y x + 1) indices) y x hy hx
    (λ n le. sym (get_or-take (slice_holding c.slicing c.size y x + 1) indices n 0 (omega arith)))
