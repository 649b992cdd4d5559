-- How a unit comes out, by its head and its payload.
use Rattle.std.proofs.Common.{◌≡◌, ℕ, ◌⊎◌, List, Option, Some, None, inl, inr, refl, ap, subst, ◌∙◌}
use Rattle.field_rows.specs.Rows.{Rows, done, ◌>>=◌}
use Rattle.run_theory.specs.Begun.{Begun}
use Rattle.parse_info.specs.declared.ParseInfo.{ParseInfo}
use Rattle.parse_info.specs.declared.Code.TheVariants.{SequenceHeader, EndOfSequence, Auxiliary, Padding, LowDelayPicture}
use Rattle.stream_rows.specs.declared.reason.Reason.{Reason}
use Rattle.stream_rows.specs.Units.{Past, First, DataUnit, End, unit_head, first_payload, repeated_payload, picture_payload, skipped_payload, payload_rows, payload_of, unit_rows, units}
use Rattle.stream_reader.specs.Turns.{Takes}

-- ---- the rows behind a head

pub rows_first : (z : Past) (first : Option First) (info : ParseInfo) → first ≡ None → payload_rows z first info ≡ first_payload z info.next
unfolding payload_rows
rows_first z None info e = refl
rows_first z (Some first) info e = absurd cc

rows_behind : (z : Past) (found : Option First) (first : First) (info : ParseInfo) → found ≡ Some first → payload_rows z found info ≡ payload_of z first info.next info.code
unfolding payload_rows
rows_behind z found first info e = ap (λ f. payload_rows z f info) e

pub rows_repeated : (z : Past) (found : Option First) (first : First) (info : ParseInfo) → found ≡ Some first → info.code ≡ SequenceHeader → payload_rows z found info ≡ repeated_payload z info.next first
unfolding payload_of
rows_repeated z found first info e k = rows_behind z found first info e ∙ ap (payload_of z first info.next) k

pub rows_picture : (z : Past) (found : Option First) (first : First) (info : ParseInfo) → found ≡ Some first → info.code ≡ LowDelayPicture → payload_rows z found info ≡ picture_payload z info.next first.parts
unfolding payload_of
rows_picture z found first info e k = rows_behind z found first info e ∙ ap (payload_of z first info.next) k

rows_auxiliary : (z : Past) (found : Option First) (first : First) (info : ParseInfo) → found ≡ Some first → info.code ≡ Auxiliary → payload_rows z found info ≡ skipped_payload info.next
unfolding payload_of
rows_auxiliary z found first info e k = rows_behind z found first info e ∙ ap (payload_of z first info.next) k

rows_padding : (z : Past) (found : Option First) (first : First) (info : ParseInfo) → found ≡ Some first → info.code ≡ Padding → payload_rows z found info ≡ skipped_payload info.next
unfolding payload_of
rows_padding z found first info e k = rows_behind z found first info e ∙ ap (payload_of z first info.next) k

pub rows_skipped : (z : Past) (found : Option First) (first : First) (info : ParseInfo) → found ≡ Some first → (info.code ≡ Auxiliary) ⊎ (info.code ≡ Padding) → payload_rows z found info ≡ skipped_payload info.next
rows_skipped z found first info e (inl k) = rows_auxiliary z found first info e k
rows_skipped z found first info e (inr k) = rows_padding z found first info e k

pub rows_end : (z : Past) (found : Option First) (first : First) (info : ParseInfo) → found ≡ Some first → info.code ≡ EndOfSequence → payload_rows z found info ≡ done End
unfolding payload_of
rows_end z found first info e k = rows_behind z found first info e ∙ ap (payload_of z first info.next) k

pub along : {z : Past} {held0 held1 : List ℕ} {rest0 rest1 : Option (List ℕ)} {at : ℕ} (rows others : Rows Reason DataUnit) → rows ≡ others → Begun units z held0 rest0 rest1 at held1 rows → Begun units z held0 rest0 rest1 at held1 others
along {z} {held0} {held1} {rest0} {rest1} {at} rows others e b = subst (λ r. Begun units z held0 rest0 rest1 at held1 r) e b

-- ---- the head

pub unit_begun : {z : Past} {held0 held1 : List ℕ} {rest0 rest1 : Option (List ℕ)} {at : ℕ} → Begun units z held0 rest0 rest1 at held1 ((units).rows z) → Begun units z held0 rest0 rest1 at held1 (unit_head z >>= payload_rows z z.first)
unfolding unit_rows
unit_begun b = b

-- what was taken, by another word
pub takes_such : {z : Past} {held0 held1 : List ℕ} {rest0 rest1 : Option (List ℕ)} {room : ℕ} (A B : DataUnit → List ℕ → Type 0) → ((unit : DataUnit) (bytes : List ℕ) → A unit bytes → B unit bytes) → Takes z held0 rest0 rest1 room held1 A → Takes z held0 rest0 rest1 room held1 B
takes_such A B f t = record { unit = t.unit; at = t.at; begun = t.begun; such = (f t.unit t.begun.gone t.such.0, t.such.1); total = t.total }
