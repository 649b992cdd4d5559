-- No picture of a stream has more than four levels, nor any before a fault.
use Rattle.std.proofs.Common.{◌≡◌, ◌⊎◌, ℕ, ◌≤◌, Option, Some, None, List, [], ◌∷◌, ◌++◌, length, arith, lit≤}
use Rattle.std.specs.Int.{is_in_range}
use Rattle.std.proofs.lemmas.Bool.Decides.{nat_tests}
use Rattle.field_rows.specs.Rows.{number_value, ◌or_else◌, first_broken, within, whole_bytes}
use Rattle.parse_info.specs.declared.Code.{Code}
use Rattle.parse_info.specs.declared.Code.TheVariants.{SequenceHeader, EndOfSequence, Auxiliary, Padding, LowDelayPicture}
use Rattle.parse_info.specs.declared.ParseInfo.{ParseInfo}
use Rattle.sequence_header.specs.declared.parts.HeaderParts.{HeaderParts}
use Rattle.transform_params.specs.declared.faults.TransformReason.TheVariants.{DepthRefused}
use Rattle.transform_params.specs.declared.faults.TransformReason.{TransformReason}
use Rattle.slice_geometry.specs.Slicing.{Slicing}
use Rattle.transform_params.specs.Params.{Params, slicing_rows, params_fields, params_rows}
use Rattle.run_theory.specs.Grammar.{Final}
use Rattle.run_theory.specs.Fronts.{Stands, front_within}
use Rattle.stream_rows.specs.Refusals.{Refusal}
use Rattle.stream_rows.specs.Units.{transform_reason, Past, DataUnit, First, after, unit_head, first_payload, repeated_payload, picture_payload, skipped_payload, payload_of, payload_rows, unit_behind, unit_rows, nothing_yet, units}
use Rattle.stream_rows.specs.Streams.{Entry, limit, past_limit, IsStream, IsRefusal}
use Rattle.stream_rows.proofs.Made.{Make, bind, skip, all_named, AreSuch, passed_such, stream_such, refusal_such}
use Rattle.vc2_cli.specs.Proxy.{levels_in}
use Rattle.vc2_cli.specs.ProxyReplies.{HaveAtMost}

-- ---- the rows of a unit

low_depth : (depth : ℕ) → first_broken ((is_in_range 0 4 depth or_else DepthRefused) ∷ []) ≡ None → depth ≤ 4
low_depth depth whole = grind (arith, nat_tests)

abbrev IsLow : Params → Type 0
IsLow p = p.slicing.depth ≤ 4

depth_low : Make {R = TransformReason} (λ n. n ≤ 4) (within 0 4 DepthRefused)
unfolding within
depth_low = record { all = λ v kept. low_depth (number_value v) kept }

slicing_low : Make (λ s. s.depth ≤ 4) slicing_rows
unfolding slicing_rows
slicing_low = bind (λ n. n ≤ 4) (λ (s : Slicing). s.depth ≤ 4) depth_low (λ depth low. skip _ _ (λ slices_x. skip _ _ (λ slices_y. skip _ _ (λ a. skip _ _ (λ b. record { all = low })))))

fields_low : Make IsLow params_fields
unfolding params_fields
fields_low = skip IsLow _ (λ wavelet. bind (λ (s : Slicing). s.depth ≤ 4) IsLow slicing_low (λ slicing low. skip IsLow _ (λ matrix. record { all = low })))

params_low : Make IsLow params_rows
unfolding params_rows whole_bytes
params_low = bind IsLow IsLow fields_low (λ p low. skip IsLow _ (λ skipped. record { all = low }))

abbrev IsLowUnit : DataUnit → Type 0
IsLowUnit unit = levels_in unit ≤ 4

first_low : (z : Past) (next : ℕ) → Make IsLowUnit (first_payload z next)
unfolding first_payload
first_low z next = skip IsLowUnit _ (λ parts. skip IsLowUnit _ (λ length. record { all = lit≤ tt }))

repeated_low : (z : Past) (next : ℕ) (first : First) → Make IsLowUnit (repeated_payload z next first)
unfolding repeated_payload
repeated_low z next first = skip IsLowUnit _ (λ payload. skip IsLowUnit _ (λ length. record { all = lit≤ tt }))

picture_low : (z : Past) (next : ℕ) (parts : HeaderParts) → Make IsLowUnit (picture_payload z next parts)
unfolding picture_payload
picture_low z next parts = skip IsLowUnit _ (λ number. bind IsLow IsLowUnit (record { all = all_named IsLow transform_reason params_rows params_low.all }) (λ p low. skip IsLowUnit _ (λ slices. skip IsLowUnit _ (λ length. record { all = low }))))

skipped_low : (next : ℕ) → Make IsLowUnit (skipped_payload next)
unfolding skipped_payload
skipped_low next = skip IsLowUnit _ (λ payload. record { all = lit≤ tt })

payload_of_low : (z : Past) (first : First) (next : ℕ) (code : Code) → Make IsLowUnit (payload_of z first next code)
unfolding payload_of
payload_of_low z first next SequenceHeader = repeated_low z next first
payload_of_low z first next EndOfSequence = record { all = lit≤ tt }
payload_of_low z first next LowDelayPicture = picture_low z next first.parts
payload_of_low z first next Auxiliary = skipped_low next
payload_of_low z first next Padding = skipped_low next

payload_low : (z : Past) (first : Option First) (head : ParseInfo) → Make IsLowUnit (payload_rows z first head)
unfolding payload_rows
payload_low z None head = first_low z head.next
payload_low z (Some first) head = payload_of_low z first head.next head.code

unit_low : (z : Past) → Make IsLowUnit (unit_rows z)
unfolding unit_rows
unit_low z = skip IsLowUnit (unit_head z) (payload_low z z.first)

-- ---- and the units of a stream, or before a fault

pub passed_low : (z : Past) (bytes : List ℕ) (unit : DataUnit) → (unit_behind unit ≡ Final) ⊎ ((still : List ℕ) × (front_within limit past_limit units z (bytes ++ still) ≡ Stands (length bytes) unit)) → levels_in unit ≤ 4
passed_low z bytes unit stands = passed_such (λ z. IsLowUnit) unit_low z bytes unit (lit≤ tt) stands

all_low : (es : List Entry) (z : Past) → AreSuch (λ z. IsLowUnit) z es → HaveAtMost 4 es
all_low [] z are = tt
all_low (e ∷ es) z are = (are.1, all_low es (after z e.unit are.0) are.2)

pub stream_low : (bytes : List ℕ) (es : List Entry) (last : Entry) → IsStream bytes es last → HaveAtMost 4 es
stream_low bytes es last s = all_low es nothing_yet (stream_such (λ z. IsLowUnit) unit_low bytes es last s)

pub refusal_low : (bytes : List ℕ) (refusal : Refusal) (r : IsRefusal bytes refusal) → HaveAtMost 4 r.units
refusal_low bytes refusal r = all_low r.units nothing_yet (refusal_such (λ z. IsLowUnit) unit_low bytes refusal r)
