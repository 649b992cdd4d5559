-- What `header` replies to an input whose first unit stands, and to one where it is refused.
use Rattle.std.specs.Prelude.{◌≡◌, ◌⊎◌, ℕ, false, List, [], drop, Ok}
use Rattle.field_rows.specs.Rows.{Value, Fault}
use Rattle.field_rows.specs.Standing.{IsRefused}
use Rattle.run_theory.specs.Grammar.{bytes_at}
use Rattle.sequence_header.specs.declared.parts.HeaderParts.{HeaderParts}
use Rattle.stream_rows.specs.declared.reason.Reason.{Reason}
use Rattle.stream_rows.specs.Units.{nothing_yet, Sequence, reason_of, unit_rows}
use Rattle.stream_rows.specs.Streams.{refusal_of}
use Rattle.stream_rows.specs.Laws.{HasUnit}
use Rattle.vc2_words.specs.Commands.{header}
use Rattle.vc2_cli.specs.declared.status.Status.TheVariants as status
use Rattle.vc2_cli.specs.HeaderTexts.{header_lines}
use Rattle.vc2_cli.specs.Reply.{Reply, command_reply}
use Rattle.vc2_cli.specs.StreamReplies.{refused_reply}

-- a sequence header in so many bytes stands in front of a stream's
abbrev pub Begins : List ℕ → ℕ → HeaderParts → Type 0
Begins bytes size parts = HasUnit nothing_yet bytes size (Sequence parts) false

-- some fields of a first unit stand, and the next is refused
abbrev pub BeginsRefused : List ℕ → Fault Reason → Type 0
BeginsRefused bytes fault =
    (fields : List Value) × IsRefused reason_of (unit_rows nothing_yet) fields (bytes_at nothing_yet.place bytes) fault

-- the lines of the header; what is behind its unit is left
abbrev pub headed_reply : HeaderParts → List ℕ → Reply
headed_reply parts left = record { status = status.Done; rest = left; out = header_lines parts; note = [] }

-- The first unit of an input is a sequence header, or is refused.
pub record IsHeaded (bytes : List ℕ) : Type 0 where
  pub either : ((size : ℕ) × (parts : HeaderParts) × Begins bytes size parts)
      ⊎ ((fault : Fault Reason) × BeginsRefused bytes fault)
  pub stands : (size : ℕ) (parts : HeaderParts) → Begins bytes size parts
      → command_reply (Ok header) bytes ≡ headed_reply parts (drop size bytes)
  pub refused : (fault : Fault Reason) → BeginsRefused bytes fault
      → command_reply (Ok header) bytes ≡ refused_reply [] (refusal_of fault)
