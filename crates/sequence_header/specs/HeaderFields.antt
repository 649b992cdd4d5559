-- The parts of a header as fields, in the order of the rows.
use Rattle.std.specs.Prelude.{ℕ, zero, suc, true, false, List, [], ◌∷◌, ◌++◌, Option, Some, None}
use Rattle.field_rows.specs.Rows.{Value, Number, Flag}
use Rattle.slice_geometry.specs.declared.Size.{Size}
use Rattle.sequence_header.specs.declared.parts.HeaderParts.{HeaderParts}
use Rattle.sequence_header.specs.declared.parts.Version.{Version}
use Rattle.sequence_header.specs.declared.parts.CleanArea.{CleanArea}
use Rattle.sequence_header.specs.declared.parts.RateField.{RateField}
use Rattle.sequence_header.specs.declared.parts.RateField.TheVariants as rates
use Rattle.sequence_header.specs.declared.parts.AspectField.{AspectField}
use Rattle.sequence_header.specs.declared.parts.AspectField.TheVariants as aspects
use Rattle.sequence_header.specs.declared.parts.SignalField.{SignalField}
use Rattle.sequence_header.specs.declared.parts.SignalField.TheVariants as signals
use Rattle.sequence_header.specs.declared.parts.ColourField.{ColourField}
use Rattle.sequence_header.specs.declared.parts.ColourField.TheVariants as colours

-- profile and base video format are 0
abbrev pub version_fields : Version → List Value
version_fields v = Number v.major ∷ Number v.minor ∷ Number 0 ∷ Number v.level ∷ Number 0 ∷ []

-- frame_size (11.4.3)
abbrev pub size_fields : Size → List Value
size_fields size = Flag true ∷ Number size.w ∷ Number size.h ∷ []

-- color_diff_sampling_format (11.4.4)
abbrev pub sampling_fields : ℕ → List Value
sampling_fields index = Flag true ∷ Number index ∷ []

-- scan_format (11.4.5)
abbrev pub scan_fields : Option ℕ → List Value
scan_fields None = Flag false ∷ []
scan_fields (Some n) = Flag true ∷ Number n ∷ []

-- An index of 0 announces a pair; where none is given, it is a pair of zeros.
abbrev pub rate_fields : RateField → List Value
rate_fields (rates.Index zero) = Flag true ∷ Number 0 ∷ Number 0 ∷ Number 0 ∷ []
rate_fields (rates.Index (suc n)) = Flag true ∷ Number (suc n) ∷ []
rate_fields (rates.Pair n d) = Flag true ∷ Number 0 ∷ Number n ∷ Number d ∷ []

-- pixel_aspect_ratio (11.4.7)
abbrev pub aspect_fields : AspectField → List Value
aspect_fields aspects.Default = Flag false ∷ []
aspect_fields (aspects.Index n) = Flag true ∷ Number n ∷ []
aspect_fields (aspects.Pair n d) = Flag true ∷ Number 0 ∷ Number n ∷ Number d ∷ []

-- clean_area (11.4.8)
abbrev pub clean_fields : Option CleanArea → List Value
clean_fields None = Flag false ∷ []
clean_fields (Some a) = Flag true ∷ Number a.width ∷ Number a.height ∷ Number a.left ∷ Number a.top ∷ []

-- An index of 0 announces four numbers; where none are given, they are zeros.
abbrev pub signal_fields : SignalField → List Value
signal_fields (signals.Index zero) = Flag true ∷ Number 0 ∷ Number 0 ∷ Number 0 ∷ Number 0 ∷ Number 0 ∷ []
signal_fields (signals.Index (suc n)) = Flag true ∷ Number (suc n) ∷ []
signal_fields (signals.Custom s) = Flag true ∷ Number 0 ∷ Number s.luma_offset ∷ Number s.luma_excursion
    ∷ Number s.colour_offset ∷ Number s.colour_excursion ∷ []

-- an index behind its flag
abbrev pub index_fields : Option ℕ → List Value
index_fields None = Flag false ∷ []
index_fields (Some n) = Flag true ∷ Number n ∷ []

-- color_spec (11.4.10)
abbrev pub colour_fields : ColourField → List Value
colour_fields colours.Default = Flag false ∷ []
colour_fields (colours.Index n) = Flag true ∷ Number n ∷ []
colour_fields (colours.Custom primaries matrix transfer) =
    Flag true ∷ Number 0 ∷ (index_fields primaries ++ (index_fields matrix ++ index_fields transfer))

-- the picture coding mode (11.5)
abbrev pub coding_fields : ℕ → List Value
coding_fields coding = Number coding ∷ []

-- the first fields of parse_parameters (11.2)
abbrev pub version_of : HeaderParts → Version
version_of p = record { major = p.major; minor = p.minor; level = p.level }

-- the size of a frame
abbrev pub frame_size : HeaderParts → Size
frame_size p = record { w = p.width; h = p.height }

-- all fields of the header, in order
unfoldable pub fields_of : HeaderParts → List Value
fields_of p =
    version_fields (version_of p) ++ (size_fields (frame_size p)
    ++ (sampling_fields p.sampling ++ (scan_fields p.scan ++ (rate_fields p.rate
    ++ (aspect_fields p.aspect ++ (clean_fields p.clean
    ++ (signal_fields p.signal ++ (colour_fields p.colour ++ coding_fields p.coding))))))))
