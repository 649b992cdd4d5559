-- The rows of a unit that is skimmed are such as the laws of streams ask.
use Rattle.std.proofs.Common.{ℕ, zero, suc, List, [], ◌∷◌, ◌++◌, length, Option, Some, None}
use Rattle.field_rows.specs.Rows.{bytes_under}
use Rattle.sequence_header.specs.declared.parts.HeaderParts.{HeaderParts}
use Rattle.parse_info.specs.declared.Code.{Code}
use Rattle.parse_info.specs.declared.Code.TheVariants.{SequenceHeader, EndOfSequence, Auxiliary, Padding, LowDelayPicture}
use Rattle.parse_info.specs.declared.ParseInfo.{ParseInfo}
use Rattle.parse_info.specs.Head.{head_rows}
use Rattle.transform_params.specs.Params.{Params}
use Rattle.run_theory.proofs.Whole.{EndsWhole, ends_whole, EndsWhole-bind, EndsWhole-done, EndsWhole-bytes_under}
use Rattle.stream_rows.specs.Units.{Past, First, reason_of, unit_head, payload_of, payload_rows, next_checked, share}
use Rattle.stream_rows.proofs.Whole.{params_whole, payload_whole}
use Rattle.stream_rows.proofs.Tables.{IsTable}
use Rattle.stream_cut.specs.Skim.{skim_slices, skim_picture, skim_payload_of, skim_payload, skim_rows}
use Rattle.stream_cut.specs.SkimGrammar.{skimmed_laws}

slices_whole : (p : Params) (left : ℕ) (so_far : List (List ℕ)) → EndsWhole reason_of (skim_slices p left so_far)
unfolding skim_slices
slices_whole p zero so_far = EndsWhole-done reason_of so_far
slices_whole p (suc left) so_far =
    EndsWhole-bind reason_of (bytes_under (share p (length so_far)) (λ bytes. [])) (λ slice. skim_slices p left (so_far ++ slice ∷ [])) (EndsWhole-bytes_under reason_of (share p (length so_far)) (λ bytes. []))
    (λ slice. slices_whole p left (so_far ++ slice ∷ []))

next_whole : (z : Past) (next : ℕ) → EndsWhole reason_of (next_checked z next)
unfolding next_checked
next_whole z next = search ends_whole depth 20

head_whole : (z : Past) → EndsWhole reason_of (unit_head z)
unfolding unit_head head_rows
head_whole z = search ends_whole depth 20

picture_whole : (z : Past) (next : ℕ) (parts : HeaderParts) → EndsWhole reason_of (skim_picture z next parts)
unfolding skim_picture
picture_whole z next parts = search (ends_whole, params_whole, slices_whole, next_whole) depth 20

other_whole : (z : Past) (first : First) (next : ℕ) (code : Code) → EndsWhole reason_of (payload_of z first next code)
unfolding payload_rows
other_whole z first next code = payload_whole z (Some first) (record { code = code; next = next; previous = 0 })

payload_of_whole : (z : Past) (first : First) (next : ℕ) (code : Code) → EndsWhole reason_of (skim_payload_of z first next code)
unfolding skim_payload_of
payload_of_whole z first next SequenceHeader = other_whole z first next SequenceHeader
payload_of_whole z first next EndOfSequence = other_whole z first next EndOfSequence
payload_of_whole z first next Auxiliary = other_whole z first next Auxiliary
payload_of_whole z first next Padding = other_whole z first next Padding
payload_of_whole z first next LowDelayPicture = picture_whole z next first.parts

skim_payload_whole : (z : Past) (first : Option First) (head : ParseInfo) → EndsWhole reason_of (skim_payload z first head)
unfolding skim_payload
skim_payload_whole z None head = payload_whole z None head
skim_payload_whole z (Some first) head = payload_of_whole z first head.next head.code

skim_whole : (z : Past) → EndsWhole reason_of (skim_rows z)
unfolding skim_rows
skim_whole z = EndsWhole-bind reason_of (unit_head z) (skim_payload z z.first) (head_whole z) (skim_payload_whole z z.first)

pub skim_table : IsTable skim_rows
skim_table = record { grammar = skimmed_laws; whole = skim_whole }
