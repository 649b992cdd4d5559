use Rattle.std.proofs.Common.{◌≡◌, ◌∙◌, sym, ap, length, List, Bool, ℤ, w64, to_z, of_z}
use Rattle.std.proofs.lemmas.Int.{to_z-of_z}
use Rattle.bit_codes.specs.Codes.{signed_code_of}
use Rattle.bit_codes.proofs.CodeOf.{length-digits_below}
use Rattle.slice_encoder.proofs.needs.length_of.Goals as goal

pub returns-then-v-lt32 : goal.returns-then-v-lt32
returns-then-v-lt32 c =
    let t = c.short_text.result in
    let told : to_z w64 (of_z w64 c.args.v) ≡ c.args.v = to_z-of_z w64 c.args.v c.ranges.v in
    sym (length-digits_below t.length t.number)
    ∙ ap (λ (bits : List Bool). length bits) c.short_text.ensures.text
    ∙ ap (λ (v : ℤ). length (signed_code_of v)) told
