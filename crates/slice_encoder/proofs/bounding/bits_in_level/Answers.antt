use Rattle.std.proofs.Common.{◌≡◌, ◌∙◌, arith}
use Rattle.slice_encoder.specs.Trials.{CodedComponent}
use Rattle.slice_encoder.specs.Counted.{component_of}
use Rattle.slice_encoder.specs.LowNeeds.{band_bits}
use Rattle.slice_encoder.proofs.Counting.{band_here, can_count}
use Rattle.slice_encoder.proofs.bounding.bits_in_level.Goals as goal

pub bits_in_rect-hl-requires-clause-can : goal.bits_in_rect-hl-requires-clause-can
bits_in_rect-hl-requires-clause-can c =
    let a = c.args in
    let coded : CodedComponent = component_of a.component in
    can_count coded a.sx a.sy a.level 1 c.band_rect-rect.result c.band-hl_band.result.now c.band_rect-rect.ensures c.band-hl_band.ensures a.component.sample_depth c.depth-depth.ensures.allowed.depth c.requires.size c.requires.bits.most c.requires.across c.requires.down c.requires.some c.requires.most (omega arith) (omega arith) c.requires.given

pub bits_in_rect-lh-requires-clause-can : goal.bits_in_rect-lh-requires-clause-can
bits_in_rect-lh-requires-clause-can c =
    let a = c.args in
    let coded : CodedComponent = component_of a.component in
    can_count coded a.sx a.sy a.level 2 c.band_rect-rect.result c.band-lh_band.result.now c.band_rect-rect.ensures c.band-lh_band.ensures a.component.sample_depth c.depth-depth.ensures.allowed.depth c.requires.size c.requires.bits.most c.requires.across c.requires.down c.requires.some c.requires.most (omega arith) (omega arith) c.requires.given

pub bits_in_rect-hh-requires-clause-can : goal.bits_in_rect-hh-requires-clause-can
bits_in_rect-hh-requires-clause-can c =
    let a = c.args in
    let coded : CodedComponent = component_of a.component in
    can_count coded a.sx a.sy a.level 3 c.band_rect-rect.result c.band-hh_band.result.now c.band_rect-rect.ensures c.band-hh_band.ensures a.component.sample_depth c.depth-depth.ensures.allowed.depth c.requires.size c.requires.bits.most c.requires.across c.requires.down c.requires.some c.requires.most (omega arith) (omega arith) c.requires.given

pub returns-clause-value : goal.returns-clause-value
returns-clause-value c =
    let a = c.args in
    let coded : CodedComponent = component_of a.component in
    let hl : c.bits_in_rect-hl.result ≡ band_bits coded a.index a.sx a.sy a.level 1 =
    c.bits_in_rect-hl.ensures.value
    ∙ band_here coded a.sx a.sy a.level 1 c.band_rect-rect.result c.band-hl_band.result.now c.band_rect-rect.ensures c.band-hl_band.ensures a.index c.quantiser-first.result c.quantiser-first.ensures
    in
    let lh : c.bits_in_rect-lh.result ≡ band_bits coded a.index a.sx a.sy a.level 2 =
    c.bits_in_rect-lh.ensures.value
    ∙ band_here coded a.sx a.sy a.level 2 c.band_rect-rect.result c.band-lh_band.result.now c.band_rect-rect.ensures c.band-lh_band.ensures a.index c.quantiser-second.result c.quantiser-second.ensures
    in
    let hh : c.bits_in_rect-hh.result ≡ band_bits coded a.index a.sx a.sy a.level 3 =
    c.bits_in_rect-hh.ensures.value
    ∙ band_here coded a.sx a.sy a.level 3 c.band_rect-rect.result c.band-hh_band.result.now c.band_rect-rect.ensures c.band-hh_band.ensures a.index c.quantiser-third.result c.quantiser-third.ensures
    in
    omega (arith, hl, lh, hh)
