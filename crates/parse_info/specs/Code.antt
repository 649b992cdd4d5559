-- Parse codes (SMPTE ST 2042-1:2017, 10.5.2), as far as the profile has them.
use Rattle.std.specs.Prelude.{ℕ, ◌==◌, if◌then◌else◌, Option, None, Some, is_some, unwrap_or, Bool}
use Rattle.parse_info.specs.declared.Code.{Code}
use Rattle.parse_info.specs.declared.Code.TheVariants.{SequenceHeader, EndOfSequence, Auxiliary, Padding, LowDelayPicture}

-- the code that a byte stands for
abbrev pub code_of : ℕ → Option Code
code_of byte =
    if byte == 0x00 then Some SequenceHeader
    else (if byte == 0x10 then Some EndOfSequence
    else (if byte == 0x20 then Some Auxiliary
    else (if byte == 0x30 then Some Padding
    else (if byte == 0xC8 then Some LowDelayPicture else None))))

-- a parse code of the profile
abbrev pub is_supported : ℕ → Bool
is_supported byte = is_some (code_of byte)

-- the code of a byte that is supported
abbrev pub code_in : ℕ → Code
code_in byte = unwrap_or (code_of byte) Padding

-- the byte of a code
abbrev pub code_byte : Code → ℕ
code_byte SequenceHeader = 0x00
code_byte EndOfSequence = 0x10
code_byte Auxiliary = 0x20
code_byte Padding = 0x30
code_byte LowDelayPicture = 0xC8
