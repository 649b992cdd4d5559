use Rattle.std.proofs.Common.{◌∙◌, ℕ, ◌*◌, ◌/◌, ◌^◌, ap}
use Rattle.slice_encoder.proofs.ScaleLaws.{scaled_is}
use Rattle.slice_encoder.proofs.scales.scaled.Goals as goal

pub returns : goal.returns
returns c =
    let a = c.args in
    ap (λ (k : ℕ). k * c.from-2.result / 2 ^ a.scale.shift) c.from.ensures
    ∙ ap (λ (k : ℕ). a.magnitude * k / 2 ^ a.scale.shift) c.from-2.ensures
    ∙ scaled_is a.magnitude a.index a.scale c.requires.index c.requires.small c.requires.scale
