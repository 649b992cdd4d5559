-- The codes of values as numbers.
use Rattle.std.specs.Prelude.{◌≡◌, ◌^◌, ◌<◌, Bool, List, ◌++◌, ℤ}
use Rattle.bit_codes.specs.Bits.{digits_below}
use Rattle.bit_codes.specs.Codes.{signed_code_of}
use Rattle.slice_encoder.specs.declared.code_texts.Text.{Text}
use Rattle.slice_encoder.specs.declared.code_texts.SplitText.{SplitText}

-- the binary digits of a text
abbrev pub text_bits : Text → List Bool
text_bits t = digits_below t.length t.number

-- the two texts are the code of a value, one behind the other
pub record IsSplitCode (t : SplitText) (v : ℤ) : Type 0 where
  pub text : text_bits t.front ++ text_bits t.back ≡ signed_code_of v
  pub front : t.front.number < 2 ^ t.front.length
  pub back : t.back.number < 2 ^ t.back.length
