-- A header as bytes: its fields, and zeros up to the byte's end.
use Rattle.std.specs.Prelude.{◌≡◌, ℕ, ◌+◌, ◌*◌, ◌/◌, Bool, List, ◌++◌, length, Ok}
use Rattle.bit_codes.specs.Bits.{bytes_of, cursor_at, zeros_to_byte_end}
use Rattle.field_rows.specs.Rows.{read}
use Rattle.field_rows.specs.Given.{value_bits}
use Rattle.sequence_header.specs.declared.parts.HeaderParts.{HeaderParts}
use Rattle.sequence_header.specs.Header.{reason_of, header_rows}
use Rattle.sequence_header.specs.HeaderFields.{fields_of}

-- the bits of a header's fields
unfoldable pub header_bits : HeaderParts → List Bool
header_bits p = value_bits (fields_of p)

-- how many bytes they fill
abbrev pub header_len : HeaderParts → ℕ
header_len p = (length (header_bits p) + 7) / 8

-- its bits, with zeros to the last byte's end, and the bytes that they make
abbrev pub header_text : HeaderParts → List Bool
header_text p = header_bits p ++ zeros_to_byte_end (length (header_bits p))

-- the bytes of a header
abbrev pub header_bytes : HeaderParts → List ℕ
header_bytes p = bytes_of (header_text p)

-- The bytes are read whole, as this header, whatever bytes follow.
abbrev pub IsHeaderReadBack : List ℕ → HeaderParts → Type 0
IsHeaderReadBack bytes p = (more : List ℕ) → read reason_of header_rows (cursor_at (bytes ++ more) 0)
    ≡ Ok (p, cursor_at (bytes ++ more) (8 * length bytes))
