-- The codes of the values from -32 to 31.
use Rattle.std.specs.Prelude.{◌≡◌, ◌^◌, ◌<◌, ◌≤◌, ℤ}
use Rattle.bit_codes.specs.Bits.{digits_below}
use Rattle.bit_codes.specs.Codes.{signed_code_of}
use Rattle.slice_encoder.specs.declared.code_texts.Text.{Text}

-- a short text is the code of a value
pub record IsTextOf (t : Text) (v : ℤ) : Type 0 where
  pub text : digits_below t.length t.number ≡ signed_code_of v
  pub few : t.length ≤ 12
  pub number : t.number < 2 ^ t.length
