-- A skimmed unit is its beginning and what is behind it.
use Rattle.std.proofs.Common.{◌≡◌, ℕ, length, Option, Some, None, Result, Ok, Err, refl, sym, ap, ◌∙◌}
use mathlib.Core.Path.{fun_ext}
use Rattle.bit_codes.specs.Bits.{Cursor}
use Rattle.field_rows.specs.Rows.{Rows, done, row, ◌>>=◌, bytes_under, word_under, renamed, read, Fault}
use Rattle.field_rows.proofs.Reading.{then_ok, then_err}
use Rattle.parse_info.specs.declared.Code.{Code}
use Rattle.parse_info.specs.declared.Code.TheVariants.{SequenceHeader, EndOfSequence, Auxiliary, Padding, LowDelayPicture}
use Rattle.parse_info.specs.declared.ParseInfo.{ParseInfo}
use Rattle.sequence_header.specs.Header.{header_rows}
use Rattle.transform_params.specs.Params.{params_rows}
use Rattle.stream_rows.specs.declared.reason.Reason.{Reason}
use Rattle.stream_rows.specs.Units.{Past, First, DataUnit, reason_of, header_reason, transform_reason, number_rules, next_checked, unit_head, first_payload, repeated_payload, skipped_payload, payload_of, payload_rows}
use Rattle.stream_cut.specs.Skim.{skim_picture, skim_payload_of, skim_payload, skim_rows}
use Rattle.stream_cut.specs.Opening.{Opened, OpensSequence, OpensRepeated, OpensPicture, open_first, open_repeated, open_picture, open_payload_of, open_payload, open_rows}
use Rattle.stream_cut.proofs.RestRows.{rest_rows}

bind_assoc : {R A B C : Type 0} (rows : Rows R A) (f : A → Rows R B) (g : B → Rows R C) → (rows >>= f) >>= g ≡ rows >>= (λ a. f a >>= g)
unfolding ◌>>=◌
bind_assoc (done a) f g = refl
bind_assoc (row s at rules next) f g = ap (λ n. row s at rules n) (fun_ext (λ v. bind_assoc (next v) f g))

-- rows behind which a check of no bits makes a beginning
checked : {A : Type 0} (rows : Rows Reason A) (z : Past) (next : ℕ) (opened : A → Opened) (unit : A → DataUnit) → ((a : A) → done (opened a) >>= rest_rows z ≡ done (unit a))
    → (rows >>= λ a. next_checked z next >>= λ length. done (opened a)) >>= rest_rows z ≡ rows >>= λ a. next_checked z next >>= λ length. done (unit a)
checked rows z next opened unit same =
    bind_assoc rows (λ a. next_checked z next >>= λ length. done (opened a)) (rest_rows z)
    ∙ ap (λ f. rows >>= f) (fun_ext (λ a. bind_assoc (next_checked z next) (λ length. done (opened a)) (rest_rows z) ∙ ap (λ f. next_checked z next >>= f) (fun_ext (λ length. same a))))

of_code : (z : Past) (first : First) (next : ℕ) (code : Code) → open_payload_of z first next code >>= rest_rows z ≡ skim_payload_of z first next code
unfolding open_payload_of skim_payload_of payload_of open_repeated repeated_payload skipped_payload open_picture skim_picture rest_rows ◌>>=◌
of_code z first next SequenceHeader = checked (bytes_under (length first.payload) _) z next (λ payload. OpensRepeated) _ (λ payload. refl)
of_code z first next EndOfSequence = refl
of_code z first next Auxiliary = refl
of_code z first next Padding = refl
of_code z first next LowDelayPicture =
    bind_assoc (word_under (number_rules z)) (λ number. renamed transform_reason params_rows >>= λ p. done (OpensPicture first.parts number p next)) (rest_rows z)
    ∙ ap (λ f. word_under (number_rules z) >>= f) (fun_ext (λ number. bind_assoc (renamed transform_reason params_rows) (λ p. done (OpensPicture first.parts number p next)) (rest_rows z)))

of_payload : (z : Past) (first : Option First) (head : ParseInfo) → open_payload z first head >>= rest_rows z ≡ skim_payload z first head
unfolding open_payload skim_payload payload_rows open_first first_payload rest_rows ◌>>=◌
of_payload z None head = checked (renamed header_reason header_rows) z head.next (λ parts. OpensSequence parts) _ (λ parts. refl)
of_payload z (Some first) head = of_code z first head.next head.code

pub same_rows : (z : Past) → open_rows z >>= rest_rows z ≡ skim_rows z
unfolding open_rows skim_rows
same_rows z = bind_assoc (unit_head z) (open_payload z z.first) (rest_rows z) ∙ ap (λ f. unit_head z >>= f) (fun_ext (of_payload z z.first))

-- what a beginning is refused for the unit is refused for
pub refused_with : (z : Past) (c : Cursor) (fault : Fault Reason) → read reason_of (open_rows z) c ≡ Err fault → read reason_of (skim_rows z) c ≡ Err fault
refused_with z c fault e = ap (λ q. read reason_of q c) (sym (same_rows z)) ∙ then_err reason_of (open_rows z) (rest_rows z) c fault e

-- and behind one that stands what is left of the unit is read
pub behind_opening : (z : Past) (c mid : Cursor) (opened : Opened) (total : Result (DataUnit × Cursor) (Fault Reason)) → read reason_of (open_rows z) c ≡ Ok (opened, mid) → read reason_of (rest_rows z opened) mid ≡ total → read reason_of (skim_rows z) c ≡ total
behind_opening z c mid opened total e k = ap (λ q. read reason_of q c) (sym (same_rows z)) ∙ then_ok reason_of (open_rows z) (rest_rows z) c mid opened total e k
