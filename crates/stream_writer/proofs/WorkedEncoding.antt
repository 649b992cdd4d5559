-- Streams that are written, by evaluation.
use Rattle.std.proofs.Common.{◌≡◌, ℕ, List, [], ◌∷◌, Option, Some, None, refl}
use Rattle.bit_codes.specs.Codes.{code_of}
use Rattle.sequence_header.specs.declared.parts.RateField.TheVariants as rates
use Rattle.sequence_header.specs.declared.parts.AspectField.TheVariants as aspects
use Rattle.sequence_header.specs.declared.parts.SignalField.TheVariants as signals
use Rattle.sequence_header.specs.declared.parts.ColourField.TheVariants as colours
use Rattle.sequence_header.specs.HeaderFields.{fields_of}
use Rattle.sequence_header.specs.Bytes.{header_bits}
use Rattle.lifting.specs.declared.Wavelet.TheVariants.{HaarFlat}
use Rattle.stream_writer.specs.EncodedStream.{Settings, encoded}

-- pictures of one place each
abbrev one_place : ℕ → ℕ → ℕ → Option ℕ → Settings
one_place height coding first group = record {
  parts = record {
    major = 1;
    minor = 0;
    level = 0;
    width = 1;
    height = height;
    sampling = 0;
    scan = None;
    rate = rates.Index 3;
    aspect = aspects.Default;
    clean = None;
    signal = signals.Index 1;
    colour = colours.Default;
    coding = coding;
  };
  params = record { wavelet = HaarFlat; slicing = record { depth = 0; slices_x = 1; slices_y = 1; a = 1; b = 1 }; matrix = record { depth = 0; entries = 0 ∷ [] } };
  first = first;
  group = group;
}

-- a slice of index 0 whose values are all 0
abbrev zero : List (List ℕ)
zero = (0x01 ∷ []) ∷ []

smallest : encoded (one_place 1 0 0 None) (zero ∷ []) ≡
    0x42 ∷ 0x42 ∷ 0x43 ∷ 0x44 ∷ 0x00 ∷ 0 ∷ 0 ∷ 0 ∷ 0x11 ∷ 0 ∷ 0 ∷ 0 ∷ 0 ∷ 0x3F ∷ 0x27 ∷ 0x42 ∷ 0x4A
    ∷ 0x42 ∷ 0x42 ∷ 0x43 ∷ 0x44 ∷ 0xC8 ∷ 0 ∷ 0 ∷ 0 ∷ 0x15 ∷ 0 ∷ 0 ∷ 0 ∷ 0x11 ∷ 0 ∷ 0 ∷ 0 ∷ 0 ∷ 0x0C ∷ 0x92 ∷ 0x70 ∷ 0x01
    ∷ 0x42 ∷ 0x42 ∷ 0x43 ∷ 0x44 ∷ 0x10 ∷ 0 ∷ 0 ∷ 0 ∷ 0 ∷ 0 ∷ 0 ∷ 0 ∷ 0x15 ∷ []
unfolding header_bits fields_of code_of
smallest = refl

-- no picture at all
empty : encoded (one_place 1 0 0 None) [] ≡
    0x42 ∷ 0x42 ∷ 0x43 ∷ 0x44 ∷ 0x00 ∷ 0 ∷ 0 ∷ 0 ∷ 0x11 ∷ 0 ∷ 0 ∷ 0 ∷ 0 ∷ 0x3F ∷ 0x27 ∷ 0x42 ∷ 0x4A
    ∷ 0x42 ∷ 0x42 ∷ 0x43 ∷ 0x44 ∷ 0x10 ∷ 0 ∷ 0 ∷ 0 ∷ 0 ∷ 0 ∷ 0 ∷ 0 ∷ 0x11 ∷ []
unfolding header_bits fields_of code_of
empty = refl

-- two fields of a frame
two_fields : encoded (one_place 2 1 0 None) (zero ∷ zero ∷ []) ≡
    0x42 ∷ 0x42 ∷ 0x43 ∷ 0x44 ∷ 0x00 ∷ 0 ∷ 0 ∷ 0 ∷ 0x12 ∷ 0 ∷ 0 ∷ 0 ∷ 0 ∷ 0x3F ∷ 0x2F ∷ 0x42 ∷ 0x48 ∷ 0x80
    ∷ 0x42 ∷ 0x42 ∷ 0x43 ∷ 0x44 ∷ 0xC8 ∷ 0 ∷ 0 ∷ 0 ∷ 0x15 ∷ 0 ∷ 0 ∷ 0 ∷ 0x12 ∷ 0 ∷ 0 ∷ 0 ∷ 0 ∷ 0x0C ∷ 0x92 ∷ 0x70 ∷ 0x01
    ∷ 0x42 ∷ 0x42 ∷ 0x43 ∷ 0x44 ∷ 0xC8 ∷ 0 ∷ 0 ∷ 0 ∷ 0x15 ∷ 0 ∷ 0 ∷ 0 ∷ 0x15 ∷ 0 ∷ 0 ∷ 0 ∷ 1 ∷ 0x0C ∷ 0x92 ∷ 0x70 ∷ 0x01
    ∷ 0x42 ∷ 0x42 ∷ 0x43 ∷ 0x44 ∷ 0x10 ∷ 0 ∷ 0 ∷ 0 ∷ 0 ∷ 0 ∷ 0 ∷ 0 ∷ 0x15 ∷ []
unfolding header_bits fields_of code_of
two_fields = refl

-- behind 2 ^ 32 - 1 comes 0
numbers_go_round : encoded (one_place 1 0 4294967295 None) (zero ∷ zero ∷ []) ≡
    0x42 ∷ 0x42 ∷ 0x43 ∷ 0x44 ∷ 0x00 ∷ 0 ∷ 0 ∷ 0 ∷ 0x11 ∷ 0 ∷ 0 ∷ 0 ∷ 0 ∷ 0x3F ∷ 0x27 ∷ 0x42 ∷ 0x4A
    ∷ 0x42 ∷ 0x42 ∷ 0x43 ∷ 0x44 ∷ 0xC8 ∷ 0 ∷ 0 ∷ 0 ∷ 0x15 ∷ 0 ∷ 0 ∷ 0 ∷ 0x11 ∷ 0xFF ∷ 0xFF ∷ 0xFF ∷ 0xFF ∷ 0x0C ∷ 0x92 ∷ 0x70 ∷ 0x01
    ∷ 0x42 ∷ 0x42 ∷ 0x43 ∷ 0x44 ∷ 0xC8 ∷ 0 ∷ 0 ∷ 0 ∷ 0x15 ∷ 0 ∷ 0 ∷ 0 ∷ 0x15 ∷ 0 ∷ 0 ∷ 0 ∷ 0 ∷ 0x0C ∷ 0x92 ∷ 0x70 ∷ 0x01
    ∷ 0x42 ∷ 0x42 ∷ 0x43 ∷ 0x44 ∷ 0x10 ∷ 0 ∷ 0 ∷ 0 ∷ 0 ∷ 0 ∷ 0 ∷ 0 ∷ 0x15 ∷ []
unfolding header_bits fields_of code_of
numbers_go_round = refl

-- two sequences of a picture each: the second header's previous offset is 0, and the number rises on
two_sequences : encoded (one_place 1 0 0 (Some 1)) (zero ∷ zero ∷ []) ≡
    0x42 ∷ 0x42 ∷ 0x43 ∷ 0x44 ∷ 0x00 ∷ 0 ∷ 0 ∷ 0 ∷ 0x11 ∷ 0 ∷ 0 ∷ 0 ∷ 0 ∷ 0x3F ∷ 0x27 ∷ 0x42 ∷ 0x4A
    ∷ 0x42 ∷ 0x42 ∷ 0x43 ∷ 0x44 ∷ 0xC8 ∷ 0 ∷ 0 ∷ 0 ∷ 0x15 ∷ 0 ∷ 0 ∷ 0 ∷ 0x11 ∷ 0 ∷ 0 ∷ 0 ∷ 0 ∷ 0x0C ∷ 0x92 ∷ 0x70 ∷ 0x01
    ∷ 0x42 ∷ 0x42 ∷ 0x43 ∷ 0x44 ∷ 0x10 ∷ 0 ∷ 0 ∷ 0 ∷ 0 ∷ 0 ∷ 0 ∷ 0 ∷ 0x15
    ∷ 0x42 ∷ 0x42 ∷ 0x43 ∷ 0x44 ∷ 0x00 ∷ 0 ∷ 0 ∷ 0 ∷ 0x11 ∷ 0 ∷ 0 ∷ 0 ∷ 0 ∷ 0x3F ∷ 0x27 ∷ 0x42 ∷ 0x4A
    ∷ 0x42 ∷ 0x42 ∷ 0x43 ∷ 0x44 ∷ 0xC8 ∷ 0 ∷ 0 ∷ 0 ∷ 0x15 ∷ 0 ∷ 0 ∷ 0 ∷ 0x11 ∷ 0 ∷ 0 ∷ 0 ∷ 1 ∷ 0x0C ∷ 0x92 ∷ 0x70 ∷ 0x01
    ∷ 0x42 ∷ 0x42 ∷ 0x43 ∷ 0x44 ∷ 0x10 ∷ 0 ∷ 0 ∷ 0 ∷ 0 ∷ 0 ∷ 0 ∷ 0 ∷ 0x15 ∷ []
unfolding header_bits fields_of code_of
two_sequences = refl
