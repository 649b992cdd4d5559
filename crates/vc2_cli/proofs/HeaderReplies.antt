-- The replies of `header`.
use Rattle.std.proofs.Common.{◌≡◌, ◌⊎◌, inl, inr, ℕ, true, false, None, List, drop, refl, sym, ap, subst, ◌∙◌}
use Rattle.bit_codes.specs.Bits.{Cursor}
use Rattle.field_rows.specs.Rows.{Fault}
use Rattle.run_theory.specs.Grammar.{bytes_at}
use Rattle.run_theory.specs.Fronts.{Front, Stands, Finishes, Rests, Refuses}
use Rattle.run_theory.specs.Walk.{Answer, answer_from, answer_to, after_step}
use Rattle.run_theory.proofs.Walks.{answer_step}
use Rattle.sequence_header.specs.declared.parts.HeaderParts.{HeaderParts}
use Rattle.parse_info.specs.declared.ParseInfo.{ParseInfo}
use Rattle.stream_rows.specs.declared.reason.Reason.{Reason}
use Rattle.stream_rows.specs.Units.{DataUnit, Sequence, nothing_yet, unit_head, unit_rows, first_payload, payload_rows}
use Rattle.stream_rows.specs.Streams.{ends}
use Rattle.stream_rows.specs.Laws.{HasUnit, IsFront}
use Rattle.stream_rows.proofs.FrontIs.{front_is}
use Rattle.stream_rows.proofs.Made.{Make, skip, stood}
use Rattle.vc2_cli.specs.declared.status.Ending.{Ending}
use Rattle.vc2_cli.specs.First.{first_at, first_step, header_machine, left_behind}
use Rattle.vc2_cli.specs.Reply.{Reply, reply_of}
use Rattle.vc2_cli.specs.HeaderReplies.{Begins, BeginsRefused, IsHeaded}
use Rattle.vc2_cli.proofs.HeaderRuns.{header_laws}

-- ---- the first unit that stands is a sequence header

abbrev IsSequence : DataUnit → Type 0
IsSequence unit = (parts : HeaderParts) × (unit ≡ Sequence parts)

first_made : (next : ℕ) → Make IsSequence (first_payload nothing_yet next)
unfolding first_payload
first_made next = skip IsSequence _ (λ parts. skip IsSequence _ (λ length. record { all = (parts, refl) }))

payload_made : (head : ParseInfo) → Make IsSequence (payload_rows nothing_yet None head)
unfolding payload_rows
payload_made head = first_made head.next

unit_made : Make IsSequence (unit_rows nothing_yet)
unfolding unit_rows
unit_made = skip IsSequence (unit_head nothing_yet) payload_made

is_sequence : (bytes : List ℕ) (size : ℕ) (unit : DataUnit) {last : _} → HasUnit nothing_yet bytes size unit last → IsSequence unit
is_sequence bytes size unit u = stood IsSequence (unit_rows nothing_yet) u.fields (bytes_at nothing_yet.place bytes) unit u.behind unit_made.all u.stand

ends_not : (parts : HeaderParts) (behind : Cursor) → ends (Sequence parts) behind ≡ true → ⊥
ends_not parts behind e = cc

abbrev Either : List ℕ → Type 0
Either bytes = ((size : ℕ) × (parts : HeaderParts) × Begins bytes size parts) ⊎ ((fault : Fault Reason) × BeginsRefused bytes fault)

either_by : (bytes : List ℕ) (front : Front Reason DataUnit) → IsFront nothing_yet bytes front → Either bytes
either_by bytes (Stands size unit) u =
    let s = is_sequence bytes size unit u in
    inl (size, s.0, subst (λ (x : DataUnit). HasUnit nothing_yet bytes size x false) s.1 u)
either_by bytes (Finishes size unit) u =
    let s = is_sequence bytes size unit u in
    absurd (ends_not s.0 u.behind (ap (λ (x : DataUnit). ends x u.behind) (sym s.1) ∙ u.last))
either_by bytes Rests u = absurd u
either_by bytes (Refuses fault) f = inr (fault, f)

-- ---- the replies

-- by what stands in front
abbrev reply_at : List ℕ → Front Reason DataUnit → Reply
reply_at bytes front = let a : Answer Ending = after_step (first_step front) (λ size left. answer_from header_machine left (drop size bytes)) in reply_of (left_behind bytes front) a

replied : (bytes : List ℕ) (front : Front Reason DataUnit) → IsFront nothing_yet bytes front
    → reply_of (left_behind bytes (first_at bytes)) (answer_to header_machine bytes) ≡ reply_at bytes front
replied bytes front f =
    ap (reply_of (left_behind bytes (first_at bytes))) (answer_step header_machine header_laws tt bytes)
    ∙ ap (reply_at bytes) ((front_is nothing_yet bytes front).1 f)

pub is_headed : (bytes : List ℕ) → IsHeaded bytes
is_headed bytes = record {
  either = either_by bytes (first_at bytes) ((front_is nothing_yet bytes (first_at bytes)).0 refl);
  stands = λ size parts u. replied bytes (Stands size (Sequence parts)) u;
  refused = λ fault f. replied bytes (Refuses fault) f;
}
