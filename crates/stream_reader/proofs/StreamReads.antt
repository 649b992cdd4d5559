-- What a call of the reader over the table of a stream says, as the reader of a stream tells it.
use Rattle.std.proofs.Common.{◌≡◌, ℕ, ◌≤◌, Bool, true, false, List, [], ◌∷◌, ◌++◌, length, Option, Some, None, Result, Ok, Err, ◌⊎◌, inl, inr, refl, sym, ap, subst, ◌∙◌, arith}
use Rattle.std.specs.Prelude.{IfSome}
use Rattle.std.specs.Option.{option_map}
use Rattle.transform_params.specs.Params.{Params}
use Rattle.picture_codec.specs.Samples.{PictureSeen, PictureSamples, picture_of}
use Rattle.picture_codec.specs.Decoding.{PictureDecoderSeen}
use Rattle.run_theory.specs.Grammar.{Final}
use Rattle.run_theory.specs.Fronts.{Finishes}
use Rattle.run_theory.specs.Turn.{MeetsFront}
use Rattle.stream_rows.specs.declared.reason.Reason.{Reason}
use Rattle.stream_rows.specs.declared.reason.Reason.TheVariants as reasons
use Rattle.stream_rows.specs.Units.{Past, DataUnit, Sequence, Repeated, Picture, Skipped, End, unit_behind, units}
use Rattle.stream_rows.specs.Streams.{limit, past_limit, frame_under}
use Rattle.unit_reader.specs.declared.reader.Turn.{Turn}
use Rattle.unit_reader.specs.declared.reader.Turn.TheVariants as turns
use Rattle.unit_reader.specs.Stops.{StopCause}
use Rattle.unit_reader.specs.Reading.{ReaderSeen, NextOver as TableNext}
use Rattle.stream_reader.specs.ReadStops.{ReadStop}
use Rattle.stream_reader.specs.declared.stop.Item.{Item}
use Rattle.stream_reader.specs.declared.stop.Item.TheVariants as items
use Rattle.stream_reader.specs.Held.{greatest_share, greatest_in}
use Rattle.stream_reader.specs.Turns.{shape_of}
use Rattle.stream_reader.specs.Reader.{StreamReaderSeen, item_of, is_end_item, IsPictureOf, IsTakerOf, TakesStreamItem, NextItemOver, NextUnshown, GreatestOver}
use Rattle.stream_reader.specs.StreamTable.{StreamTableSeen, DecoderBehind, TellsUnit, StopsTable}
use Rattle.stream_reader.specs.ReaderInside.{picture_in, taker_in, ShowsOne, ShowsWhole, stream_seen, unshown_by, answer_of, is_shown, HoldsFew, IsReaderSound, IsShowing}
use Rattle.stream_reader.proofs.HeldTurns.{few_most, stops_greatest, stops_most}

abbrev Seen : Type 0
Seen = ReaderSeen StreamTableSeen Reason

abbrev TurnResult : Type 0
TurnResult = Result (Turn Item) ReadStop

abbrev past_of : StreamTableSeen → Past
past_of table = table.past

abbrev pub TurnOver : Seen → Seen → Option (List ℕ) → Option (List ℕ) → TurnResult → Type 0
TurnOver old new rest0 rest1 result = TableNext units reasons.StreamTooLong past_of TellsUnit StopsTable old new rest0 rest1 result

-- ---- the item of a unit

not_end : (unit : DataUnit) → is_end_item (item_of unit) ≡ false
not_end (Sequence parts) = refl
not_end Repeated = refl
not_end (Picture parts number params slices) = refl
not_end Skipped = refl
not_end End = refl

is_end : (unit : DataUnit) → unit_behind unit ≡ Final → unit ≡ End
is_end (Sequence parts) e = absurd cc
is_end Repeated e = absurd cc
is_end (Picture parts number params slices) e = absurd cc
is_end Skipped e = absurd cc
is_end End e = refl

by_item : (old new : StreamReaderSeen) (rest0 rest1 : Option (List ℕ)) (item : Item) → is_end_item item ≡ false → TakesStreamItem old new rest0 rest1 item → NextItemOver old new rest0 rest1 (Ok item)
by_item old new rest0 rest1 items.Sequence e t = t
by_item old new rest0 rest1 items.Repeated e t = t
by_item old new rest0 rest1 (items.Picture number) e t = t
by_item old new rest0 rest1 items.Skipped e t = t
by_item old new rest0 rest1 items.SequenceEnd e t = t
by_item old new rest0 rest1 items.End e t = absurd cc

-- whether a picture is shown behind a unit
abbrev shows_unit : DataUnit → Bool
shows_unit unit = is_shown (Ok (item_of unit))

picture_behind : (makes : Bool) (unit : DataUnit) (old new : Option PictureDecoderSeen) → makes ≡ true → DecoderBehind makes unit old new → IsPictureOf unit (picture_in (shows_unit unit) new)
picture_behind makes (Picture parts number params slices) old new asked d =
    let seen : PictureSeen = record { shape = d.0.shape; samples = _ } in
    (seen, ap (picture_in true) d.1 ∙ ap (option_map (λ (samples : PictureSamples). record { shape = d.0.shape; samples = samples })) (d.2.picture asked), d.2.taker.frame, refl)
picture_behind makes (Sequence parts) old new asked d = refl
picture_behind makes Repeated old new asked d = refl
picture_behind makes Skipped old new asked d = refl
picture_behind makes End old new asked d = refl

-- a unit's picture, if it has one, whether it was made or not
picture_for : (makes : Bool) (unit : DataUnit) (old new : Option PictureDecoderSeen) → DecoderBehind makes unit old new → (picture : Option PictureSeen) × IsPictureOf unit picture
picture_for makes (Picture parts number params slices) old new d =
    let seen : PictureSeen = record { shape = d.0.shape; samples = picture_of (frame_under parts) params slices } in
    (Some seen, (seen, refl, d.2.taker.frame, refl))
picture_for makes (Sequence parts) old new d = (None, refl)
picture_for makes Repeated old new d = (None, refl)
picture_for makes Skipped old new d = (None, refl)
picture_for makes End old new d = (None, refl)

-- the decoder that took the unit's picture, if it has one
taker_behind : (makes : Bool) (unit : DataUnit) (old new : Option PictureDecoderSeen) → DecoderBehind makes unit old new → IsTakerOf unit (taker_in (shows_unit unit) new)
taker_behind makes (Picture parts number params slices) old new d = (d.0, d.1, d.2.taker)
taker_behind makes (Sequence parts) old new d = refl
taker_behind makes Repeated old new d = refl
taker_behind makes Skipped old new d = refl
taker_behind makes End old new d = refl

whole_behind : (makes : Bool) (unit : DataUnit) (old new : Option PictureDecoderSeen) → DecoderBehind makes unit old new → ShowsWhole (shows_unit unit) new
whole_behind makes (Picture parts number params slices) old new d = subst (ShowsWhole true) (sym d.1) d.2.taker.whole
whole_behind makes (Sequence parts) old new d = tt
whole_behind makes Repeated old new d = tt
whole_behind makes Skipped old new d = tt
whole_behind makes End old new d = tt

shown_behind : (makes : Bool) (unit : DataUnit) (old new : Option PictureDecoderSeen) → makes ≡ true → DecoderBehind makes unit old new → ShowsOne (shows_unit unit) new
shown_behind makes (Picture parts number params slices) old new asked d = subst (ShowsOne true) (sym d.1) (λ none. let clash = sym (d.2.picture asked) ∙ none in absurd cc)
shown_behind makes (Sequence parts) old new asked d = tt
shown_behind makes Repeated old new asked d = tt
shown_behind makes Skipped old new asked d = tt
shown_behind makes End old new asked d = tt

shows_is : (unit : DataUnit) (item : Item) → item ≡ item_of unit → is_shown (Ok item) ≡ shows_unit unit
shows_is unit item e = ap (λ (x : Item). is_shown (Ok x)) e

-- ---- a call

-- the picture that is shown behind a call
abbrev TurnShows : (old new : Seen) (rest0 rest1 : Option (List ℕ)) (result : TurnResult) → TurnOver old new rest0 rest1 result → Option PictureSeen → Type 0
TurnShows old new rest0 rest1 (Ok (turns.Unit item)) n picture = IsPictureOf n.unit picture
TurnShows old new rest0 rest1 (Ok (turns.Last item)) n picture = picture ≡ None
TurnShows old new rest0 rest1 (Ok turns.Rest) n picture = Unit {0}
TurnShows old new rest0 rest1 (Err stop) n picture = picture ≡ None

next_by : (old new : Seen) (was : Bool) (picture : Option PictureSeen) (rest0 rest1 : Option (List ℕ)) (result : TurnResult) (n : TurnOver old new rest0 rest1 result) → TurnShows old new rest0 rest1 result n picture
    → NextItemOver (stream_seen old was) (record (stream_seen new (is_shown (answer_of result))) { picture = picture }) rest0 rest1 (answer_of result)
next_by old new was picture rest0 rest1 (Ok (turns.Unit item)) n is =
    by_item (stream_seen old was) (record (stream_seen new (is_shown (Ok item))) { picture = picture }) rest0 rest1 item (ap is_end_item n.tells.is_item ∙ not_end n.unit) (record {
      unit = n.unit;
      bytes = n.bytes;
      is_item = n.tells.is_item;
      takes = n.takes;
      past = n.past;
      header = n.tells.header;
      shapes = n.tells.shapes;
      few = n.tells.few;
      picture = is;
      decoder = subst (λ (b : Bool). IsTakerOf n.unit (taker_in b new.table.decoder)) (sym (shows_is n.unit item n.tells.is_item)) (taker_behind old.table.makes_pictures n.unit old.table.decoder new.table.decoder n.tells.decoder);
      going = n.going;
    })
next_by old new was picture rest0 rest1 (Ok (turns.Last item)) n is =
    let e = is_end n.unit n.final in
    let t = subst (λ (u : DataUnit). TellsUnit old.table new.table u n.bytes item) e n.tells in
    let m = subst (λ (u : DataUnit). (m : MeetsFront limit past_limit units old.table.past old.held rest0 rest1 (Finishes (length n.bytes) u)) × ((more : List ℕ) → rest1 ≡ Some more → old.held ++ m.read ++ more ≡ n.bytes)) e (n.meets, n.whole) in
    record {
      bytes = n.bytes;
      meets = m.0;
      whole = m.1;
      last = n.last;
      past = subst (λ (u : DataUnit). new.table.past ≡ (units).after old.table.past u n.bytes) e n.past;
      header = t.header;
      shapes = t.shapes;
      none_taken = refl;
      over = (n.none, is, n.over.0, n.over.1);
    }
next_by old new was picture rest0 rest1 (Ok turns.Rest) n is = absurd (let clash : false ≡ true = n.rests.may in cc)
next_by old new was picture rest0 rest1 (Err stop) n is = (
  n.0,
  record { past = n.1; header = n.2.header; shapes = n.2.shapes; picture = is; decoder = refl; kept = n.3; ended = n.4 },
)

-- where pictures are made, the one of the unit is shown
turn_shows : (old new : Seen) (rest0 rest1 : Option (List ℕ)) (result : TurnResult) (n : TurnOver old new rest0 rest1 result) → old.table.makes_pictures ≡ true → TurnShows old new rest0 rest1 result n (picture_in (is_shown (answer_of result)) new.table.decoder)
turn_shows old new rest0 rest1 (Ok (turns.Unit item)) n asked =
    subst (λ (b : Bool). IsPictureOf n.unit (picture_in b new.table.decoder)) (sym (shows_is n.unit item n.tells.is_item)) (picture_behind old.table.makes_pictures n.unit old.table.decoder new.table.decoder asked n.tells.decoder)
turn_shows old new rest0 rest1 (Ok (turns.Last item)) n asked = refl
turn_shows old new rest0 rest1 (Ok turns.Rest) n asked = tt
turn_shows old new rest0 rest1 (Err stop) n asked = refl

pub next_told : (old new : Seen) (was : Bool) (rest0 rest1 : Option (List ℕ)) (result : TurnResult) → old.table.makes_pictures ≡ true → TurnOver old new rest0 rest1 result → NextItemOver (stream_seen old was) (stream_seen new (is_shown (answer_of result))) rest0 rest1 (answer_of result)
next_told old new was rest0 rest1 result asked n = next_by old new was (picture_in (is_shown (answer_of result)) new.table.decoder) rest0 rest1 result n (turn_shows old new rest0 rest1 result n asked)

from_item : (old new : StreamReaderSeen) (rest0 rest1 : Option (List ℕ)) (item : Item) → TakesStreamItem old new rest0 rest1 item → TakesStreamItem (record old { picture = None }) new rest0 rest1 item
from_item old new rest0 rest1 item n = record {
  unit = n.unit;
  bytes = n.bytes;
  is_item = n.is_item;
  takes = n.takes;
  past = n.past;
  header = n.header;
  shapes = n.shapes;
  few = n.few;
  picture = n.picture;
  decoder = n.decoder;
  going = n.going;
}

-- which picture was shown before doesn't matter
from_unshown : (old new : StreamReaderSeen) (rest0 rest1 : Option (List ℕ)) (result : Result Item ReadStop) → NextItemOver old new rest0 rest1 result → NextItemOver (record old { picture = None }) new rest0 rest1 result
from_unshown old new rest0 rest1 (Ok items.End) n = record { bytes = n.bytes; meets = n.meets; whole = n.whole; last = n.last; past = n.past; header = n.header; shapes = n.shapes; none_taken = n.none_taken; over = n.over }
from_unshown old new rest0 rest1 (Ok items.Sequence) n = from_item old new rest0 rest1 items.Sequence n
from_unshown old new rest0 rest1 (Ok items.Repeated) n = from_item old new rest0 rest1 items.Repeated n
from_unshown old new rest0 rest1 (Ok (items.Picture number)) n = from_item old new rest0 rest1 (items.Picture number) n
from_unshown old new rest0 rest1 (Ok items.Skipped) n = from_item old new rest0 rest1 items.Skipped n
from_unshown old new rest0 rest1 (Ok items.SequenceEnd) n = from_item old new rest0 rest1 items.SequenceEnd n
from_unshown old new rest0 rest1 (Err stop) n = (n.0, record { past = n.1.past; header = n.1.header; shapes = n.1.shapes; picture = n.1.picture; decoder = n.1.decoder; kept = n.1.kept; ended = n.1.ended })

turn_might_show : (old new : Seen) (rest0 rest1 : Option (List ℕ)) (result : TurnResult) (n : TurnOver old new rest0 rest1 result) → (picture : Option PictureSeen) × TurnShows old new rest0 rest1 result n picture
turn_might_show old new rest0 rest1 (Ok (turns.Unit item)) n = picture_for old.table.makes_pictures n.unit old.table.decoder new.table.decoder n.tells.decoder
turn_might_show old new rest0 rest1 (Ok (turns.Last item)) n = (None, refl)
turn_might_show old new rest0 rest1 (Ok turns.Rest) n = (None, tt)
turn_might_show old new rest0 rest1 (Err stop) n = (None, refl)

pub unshown_told : (old new : Seen) (was : Bool) (rest0 rest1 : Option (List ℕ)) (result : TurnResult) → TurnOver old new rest0 rest1 result → NextUnshown (unshown_by old was) (unshown_by new (is_shown (answer_of result))) rest0 rest1 (answer_of result)
unshown_told old new was rest0 rest1 result n =
    let p = turn_might_show old new rest0 rest1 result n in
    (refl, p.0, from_unshown (stream_seen old was) _ rest0 rest1 (answer_of result) (next_by old new was p.0 rest0 rest1 result n p.1))

greatest_unit : (makes : Bool) (unit : DataUnit) (old new : StreamReaderSeen) (rest0 : Option (List ℕ)) (bytes : List ℕ) (was is : Option PictureDecoderSeen) → DecoderBehind makes unit was is → old.greatest ≡ greatest_in was → new.greatest ≡ greatest_in is
    → new.shapes ≡ old.shapes ++ shape_of old.past unit bytes ∷ [] → GreatestOver old new rest0 (Ok (item_of unit))
greatest_unit makes (Picture parts number params slices) old new rest0 bytes was is d before now shapes =
    (shape_of old.past (Picture parts number params slices) bytes, shapes, now ∙ ap greatest_in d.1 ∙ ap (λ (q : Params). Some (greatest_share q.slicing)) d.2.taker.params_are)
greatest_unit makes (Sequence parts) old new rest0 bytes was is d before now shapes = now ∙ ap greatest_in d ∙ sym before
greatest_unit makes Repeated old new rest0 bytes was is d before now shapes = now ∙ ap greatest_in d ∙ sym before
greatest_unit makes Skipped old new rest0 bytes was is d before now shapes = now ∙ ap greatest_in d ∙ sym before
greatest_unit makes End old new rest0 bytes was is d before now shapes = now ∙ ap greatest_in d ∙ sym before

greatest_item : (old new : Seen) (was is : Bool) (rest0 : Option (List ℕ)) (unit : DataUnit) (bytes : List ℕ) (item : Item) → TellsUnit old.table new.table unit bytes item → GreatestOver (stream_seen old was) (stream_seen new is) rest0 (Ok item)
greatest_item old new was is rest0 unit bytes item t =
    subst (λ (x : Item). GreatestOver (stream_seen old was) (stream_seen new is) rest0 (Ok x)) (sym t.is_item)
    (greatest_unit old.table.makes_pictures unit (stream_seen old was) (stream_seen new is) rest0 bytes old.table.decoder new.table.decoder t.decoder refl refl t.shapes)

pub greatest_told : (old new : Seen) (was is : Bool) (rest0 rest1 : Option (List ℕ)) (result : TurnResult) → TurnOver old new rest0 rest1 result → GreatestOver (stream_seen old was) (stream_seen new is) rest0 (answer_of result)
greatest_told old new was is rest0 rest1 (Ok (turns.Unit item)) n = greatest_item old new was is rest0 n.unit n.bytes item n.tells
greatest_told old new was is rest0 rest1 (Ok (turns.Last item)) n =
    ap greatest_in (subst (λ (u : DataUnit). TellsUnit old.table new.table u n.bytes item) (is_end n.unit n.final) n.tells).decoder
greatest_told old new was is rest0 rest1 (Ok turns.Rest) n = absurd (let clash : false ≡ true = n.rests.may in cc)
greatest_told old new was is rest0 rest1 (Err stop) n = stops_greatest old.table.past old.held rest0 old.table.decoder new.table.decoder new.held stop n.2.held

pub cause_told : (before now : ℕ) (result : TurnResult) → StopCause before now result → StopCause before now (answer_of result)
cause_told before now (Ok (turns.Unit item)) h = h
cause_told before now (Ok (turns.Last item)) h = h
cause_told before now (Ok turns.Rest) h = h
cause_told before now (Err stop) h = h

-- nothing was read, and the stop is answered again
pub kept_as : (old new : Seen) (was is : StreamReaderSeen) (rest0 rest1 : Option (List ℕ)) (before now : ℕ) (result : TurnResult) → ((stop : ReadStop) → old.stop ≡ Some stop → result ≡ Err stop → new ≡ old → is ≡ was)
    → IfSome old.stop (λ stop. (result ≡ Err stop) × (new ≡ old) × (rest1 ≡ rest0) × (now ≡ before))
    → IfSome old.stop (λ stop. (answer_of result ≡ Err stop) × (is ≡ was) × (rest1 ≡ rest0) × (now ≡ before))
kept_as old new was is rest0 rest1 before now result same h = by old.stop refl h
  where
    by : (stop : Option ReadStop) → old.stop ≡ stop → IfSome stop (λ stop. (result ≡ Err stop) × (new ≡ old) × (rest1 ≡ rest0) × (now ≡ before))
        → IfSome stop (λ stop. (answer_of result ≡ Err stop) × (is ≡ was) × (rest1 ≡ rest0) × (now ≡ before))
    by None e h = tt
    by (Some stop) e h = (ap answer_of h.0, same stop e h.0 h.1, h.2, h.3)

pub kept_told : (old new : Seen) (was : Bool) (rest0 rest1 : Option (List ℕ)) (before now : ℕ) (result : TurnResult) → IsReaderSound old was
    → IfSome old.stop (λ stop. (result ≡ Err stop) × (new ≡ old) × (rest1 ≡ rest0) × (now ≡ before))
    → IfSome old.stop (λ stop. (answer_of result ≡ Err stop) × (stream_seen new (is_shown (answer_of result)) ≡ stream_seen old was) × (rest1 ≡ rest0) × (now ≡ before))
kept_told old new was rest0 rest1 before now result sound h =
    kept_as old new (stream_seen old was) (stream_seen new (is_shown (answer_of result))) rest0 rest1 before now result
    (λ stop e told same. ap (λ (r : Seen). stream_seen r (is_shown (answer_of result))) same ∙ ap (λ (b : Bool). stream_seen old b) (ap (λ (r : TurnResult). is_shown (answer_of r)) told ∙ sym (sound.stopped stop e))) h

pub ended_told : (old new : Seen) (was : Bool) (rest0 rest1 : Option (List ℕ)) (before now : ℕ) (result : TurnResult) → IsReaderSound old was → old.ended ≡ true → (result ≡ Ok turns.Rest) × (new ≡ old) × (rest1 ≡ rest0) × (now ≡ before)
    → (answer_of result ≡ Ok items.End) × (stream_seen new (is_shown (answer_of result)) ≡ stream_seen old was) × (rest1 ≡ rest0) × (now ≡ before)
ended_told old new was rest0 rest1 before now result sound e h =
    let told = ap answer_of h.0 in
    (told, ap (λ (r : Seen). stream_seen r (is_shown (answer_of result))) h.1 ∙ ap (λ (b : Bool). stream_seen old b) (ap is_shown told ∙ sym (sound.over e)), h.2, h.3)

-- ---- what is true of the fields behind it

few_next : (old new : Seen) (rest0 rest1 : Option (List ℕ)) (result : TurnResult) → TurnOver old new rest0 rest1 result → (new.stop ≡ None → length new.held ≤ 4096) → HoldsFew new
few_next old new rest0 rest1 (Ok (turns.Unit item)) n few = few_most new.held (greatest_in new.table.decoder) (omega (arith, few n.going.0))
few_next old new rest0 rest1 (Ok (turns.Last item)) n few = few_most new.held (greatest_in new.table.decoder) (omega (arith, few n.over.0))
few_next old new rest0 rest1 (Ok turns.Rest) n few = absurd (let clash : false ≡ true = n.rests.may in cc)
few_next old new rest0 rest1 (Err stop) n few = stops_most old.table.past old.held rest0 old.table.decoder new.table.decoder new.held stop n.2.held

sound_unit : (old new : Seen) (unit : DataUnit) (bytes : List ℕ) (item : Item) → old.table.makes_pictures ≡ true → TellsUnit old.table new.table unit bytes item → new.stop ≡ None → new.ended ≡ false → HoldsFew new → IsReaderSound new (is_shown (Ok item))
sound_unit old new unit bytes item asked t none going few =
    let s = shows_is unit item t.is_item in
    record {
      makes = t.makes ∙ asked;
      shown = subst (λ (b : Bool). ShowsOne b new.table.decoder) (sym s) (shown_behind old.table.makes_pictures unit old.table.decoder new.table.decoder asked t.decoder);
      whole = subst (λ (b : Bool). ShowsWhole b new.table.decoder) (sym s) (whole_behind old.table.makes_pictures unit old.table.decoder new.table.decoder t.decoder);
      stopped = λ stop e. absurd (let clash : None ≡ Some stop = sym none ∙ e in cc);
      over = λ e. absurd (let clash : false ≡ true = sym going ∙ e in cc);
      held = few;
    }

sound_next : (old new : Seen) (rest0 rest1 : Option (List ℕ)) (result : TurnResult) → old.table.makes_pictures ≡ true → TurnOver old new rest0 rest1 result → HoldsFew new → IsReaderSound new (is_shown (answer_of result))
sound_next old new rest0 rest1 (Ok (turns.Unit item)) asked n few = sound_unit old new n.unit n.bytes item asked n.tells n.going.0 n.going.1 few
sound_next old new rest0 rest1 (Ok (turns.Last item)) asked n few = record { makes = n.tells.makes ∙ asked; shown = tt; whole = tt; stopped = λ s e. refl; over = λ e. refl; held = few }
sound_next old new rest0 rest1 (Ok turns.Rest) asked n few = absurd (let clash : false ≡ true = n.rests.may in cc)
sound_next old new rest0 rest1 (Err stop) asked n few = record { makes = n.2.makes ∙ asked; shown = tt; whole = tt; stopped = λ s e. refl; over = λ e. refl; held = few }

sound_still : (old new : Seen) (was : Bool) → IsReaderSound old was → new ≡ old → IsReaderSound new false
sound_still old new was sound same = subst (λ (r : Seen). IsReaderSound r false) (sym same) (record { makes = sound.makes; shown = tt; whole = tt; stopped = λ s e. refl; over = λ e. refl; held = sound.held })

-- a call reads nothing and leaves the reader as it was, or it comes out as the table says
abbrev Called : Seen → Seen → Option (List ℕ) → Option (List ℕ) → TurnResult → Type 0
Called old new rest0 rest1 result = ((new ≡ old) × (is_shown (answer_of result) ≡ false)) ⊎ TurnOver old new rest0 rest1 result

called : (old new : Seen) (rest0 rest1 : Option (List ℕ)) (before now : ℕ) (result : TurnResult) → (old.stop ≡ None → old.ended ≡ false → TurnOver old new rest0 rest1 result)
    → IfSome old.stop (λ stop. (result ≡ Err stop) × (new ≡ old) × (rest1 ≡ rest0) × (now ≡ before))
    → (old.stop ≡ None → old.ended ≡ true → (result ≡ Ok turns.Rest) × (new ≡ old) × (rest1 ≡ rest0) × (now ≡ before)) → Called old new rest0 rest1 result
called old new rest0 rest1 before now result next kept ended = by old.stop refl kept old.ended refl
  where
    by : (stop : Option ReadStop) → old.stop ≡ stop → IfSome stop (λ stop. (result ≡ Err stop) × (new ≡ old) × (rest1 ≡ rest0) × (now ≡ before)) → (over : Bool) → old.ended ≡ over → Called old new rest0 rest1 result
    by (Some stop) e h over o = inl (h.1, ap (λ (r : TurnResult). is_shown (answer_of r)) h.0)
    by None e h true o = let k = ended e o in inl (k.1, ap (λ (r : TurnResult). is_shown (answer_of r)) k.0)
    by None e h false o = inr (next e o)

pub few_behind : (old new : Seen) (rest0 rest1 : Option (List ℕ)) (before now : ℕ) (result : TurnResult) → HoldsFew old → (old.stop ≡ None → old.ended ≡ false → TurnOver old new rest0 rest1 result) → (new.stop ≡ None → length new.held ≤ 4096)
    → IfSome old.stop (λ stop. (result ≡ Err stop) × (new ≡ old) × (rest1 ≡ rest0) × (now ≡ before))
    → (old.stop ≡ None → old.ended ≡ true → (result ≡ Ok turns.Rest) × (new ≡ old) × (rest1 ≡ rest0) × (now ≡ before)) → HoldsFew new
few_behind old new rest0 rest1 before now result held next few kept ended = elim (called old new rest0 rest1 before now result next kept ended) [
  | inl still ↦ subst HoldsFew (sym still.0) held
  | inr n ↦ few_next old new rest0 rest1 result n few
]

pub sound_behind : (old new : Seen) (was : Bool) (rest0 rest1 : Option (List ℕ)) (before now : ℕ) (result : TurnResult) → IsReaderSound old was → (old.stop ≡ None → old.ended ≡ false → TurnOver old new rest0 rest1 result) → (new.stop ≡ None → length new.held ≤ 4096)
    → IfSome old.stop (λ stop. (result ≡ Err stop) × (new ≡ old) × (rest1 ≡ rest0) × (now ≡ before))
    → (old.stop ≡ None → old.ended ≡ true → (result ≡ Ok turns.Rest) × (new ≡ old) × (rest1 ≡ rest0) × (now ≡ before)) → IsReaderSound new (is_shown (answer_of result))
sound_behind old new was rest0 rest1 before now result sound next few kept ended = elim (called old new rest0 rest1 before now result next kept ended) [
  | inl still ↦ subst (λ (b : Bool). IsReaderSound new b) (sym still.1) (sound_still old new was sound still.0)
  | inr n ↦ sound_next old new rest0 rest1 result sound.makes n (few_next old new rest0 rest1 result n few)
]

-- ---- of a reader that makes no pictures

showing_next : (old new : Seen) (rest0 rest1 : Option (List ℕ)) (result : TurnResult) → TurnOver old new rest0 rest1 result → HoldsFew new → IsShowing new (is_shown (answer_of result))
showing_next old new rest0 rest1 (Ok (turns.Unit item)) n few = record {
  whole = subst (λ (b : Bool). ShowsWhole b new.table.decoder) (sym (shows_is n.unit item n.tells.is_item)) (whole_behind old.table.makes_pictures n.unit old.table.decoder new.table.decoder n.tells.decoder);
  stopped = λ stop e. absurd (let clash : None ≡ Some stop = sym n.going.0 ∙ e in cc);
  over = λ e. absurd (let clash : false ≡ true = sym n.going.1 ∙ e in cc);
  held = few;
}
showing_next old new rest0 rest1 (Ok (turns.Last item)) n few = record { whole = tt; stopped = λ s e. refl; over = λ e. refl; held = few }
showing_next old new rest0 rest1 (Ok turns.Rest) n few = absurd (let clash : false ≡ true = n.rests.may in cc)
showing_next old new rest0 rest1 (Err stop) n few = record { whole = tt; stopped = λ s e. refl; over = λ e. refl; held = few }

pub showing_behind : (old new : Seen) (was : Bool) (rest0 rest1 : Option (List ℕ)) (before now : ℕ) (result : TurnResult) → IsShowing old was → (old.stop ≡ None → old.ended ≡ false → TurnOver old new rest0 rest1 result) → (new.stop ≡ None → length new.held ≤ 4096)
    → IfSome old.stop (λ stop. (result ≡ Err stop) × (new ≡ old) × (rest1 ≡ rest0) × (now ≡ before))
    → (old.stop ≡ None → old.ended ≡ true → (result ≡ Ok turns.Rest) × (new ≡ old) × (rest1 ≡ rest0) × (now ≡ before)) → IsShowing new (is_shown (answer_of result))
showing_behind old new was rest0 rest1 before now result showing next few kept ended = elim (called old new rest0 rest1 before now result next kept ended) [
  | inl still ↦ subst (λ (b : Bool). IsShowing new b) (sym still.1) (subst (λ (r : Seen). IsShowing r false) (sym still.0) (record { whole = tt; stopped = λ s e. refl; over = λ e. refl; held = showing.held }))
  | inr n ↦ showing_next old new rest0 rest1 result n (few_next old new rest0 rest1 result n few)
]

-- the stop that is kept is answered again
pub kept_unshown : (old new : Seen) (was : Bool) (rest0 rest1 : Option (List ℕ)) (before now : ℕ) (result : TurnResult) → IsShowing old was
    → IfSome old.stop (λ stop. (result ≡ Err stop) × (new ≡ old) × (rest1 ≡ rest0) × (now ≡ before))
    → IfSome old.stop (λ stop. (answer_of result ≡ Err stop) × (unshown_by new (is_shown (answer_of result)) ≡ unshown_by old was) × (rest1 ≡ rest0) × (now ≡ before))
kept_unshown old new was rest0 rest1 before now result showing h =
    kept_as old new (unshown_by old was) (unshown_by new (is_shown (answer_of result))) rest0 rest1 before now result
    (λ stop e told same. ap (λ (r : Seen). unshown_by r (is_shown (answer_of result))) same ∙ ap (λ (b : Bool). unshown_by old b) (ap (λ (r : TurnResult). is_shown (answer_of r)) told ∙ sym (showing.stopped stop e))) h

pub ended_unshown : (old new : Seen) (was : Bool) (rest0 rest1 : Option (List ℕ)) (before now : ℕ) (result : TurnResult) → IsShowing old was → old.ended ≡ true → (result ≡ Ok turns.Rest) × (new ≡ old) × (rest1 ≡ rest0) × (now ≡ before)
    → (answer_of result ≡ Ok items.End) × (unshown_by new (is_shown (answer_of result)) ≡ unshown_by old was) × (rest1 ≡ rest0) × (now ≡ before)
ended_unshown old new was rest0 rest1 before now result showing e h =
    let told = ap answer_of h.0 in
    (told, ap (λ (r : Seen). unshown_by r (is_shown (answer_of result))) h.1 ∙ ap (λ (b : Bool). unshown_by old b) (ap is_shown told ∙ sym (showing.over e)), h.2, h.3)

pub greatest_unshown : (old new : Seen) (was is : Bool) (rest0 rest1 : Option (List ℕ)) (result : TurnResult) → TurnOver old new rest0 rest1 result → GreatestOver (unshown_by old was) (unshown_by new is) rest0 (answer_of result)
greatest_unshown old new was is rest0 rest1 result n = by (answer_of result) (greatest_told old new was is rest0 rest1 result n)
  where
    by : (answer : Result Item ReadStop) → GreatestOver (stream_seen old was) (stream_seen new is) rest0 answer → GreatestOver (unshown_by old was) (unshown_by new is) rest0 answer
    by (Ok items.Sequence) h = h
    by (Ok items.Repeated) h = h
    by (Ok (items.Picture number)) h = h
    by (Ok items.Skipped) h = h
    by (Ok items.SequenceEnd) h = h
    by (Ok items.End) h = h
    by (Err stop) h = h
