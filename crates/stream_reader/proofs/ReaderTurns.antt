-- What a unit that was found leaves.
use Rattle.std.proofs.Common.{◌≡◌, ℕ, ◌+◌, ◌*◌, ◌≤◌, Bool, true, false, List, length, Option, Some, Result, Ok, Err, refl, sym, ap, subst, ◌∙◌, arith}
use Rattle.stream_rows.specs.declared.reason.Reason.{Reason}
use Rattle.sequence_header.specs.declared.parts.HeaderParts.{HeaderParts}
use Rattle.transform_params.specs.Params.{Params}
use Rattle.std.proofs.Math.Nat.{mul-le-mul_left}
use Rattle.slice_geometry.proofs.Quotients.{le-div_of_le}
use Rattle.slice_geometry.specs.Frames.{frame_of}
use Rattle.slice_geometry.specs.Slicing.{bytes_before}
use Rattle.slice_geometry.specs.declared.unit_list.UnitShape.{UnitShape}
use Rattle.slice_geometry.specs.UnitLengths.{IsUnitAllowed, shape_length}
use Rattle.picture_codec.specs.Samples.{PictureSamples, picture_of}
use Rattle.picture_codec.specs.Decoding.{PictureDecoderSeen, HasTaken, synthesised_picture}
use Rattle.stream_rows.specs.Streams.{frame_under}
use Rattle.stream_rows.specs.Units.{Past, DataUnit, Sequence, Repeated, Picture, Skipped, End, unit_behind, units}
use Rattle.run_theory.specs.Grammar.{Inner, Final}
use Rattle.unit_reader.specs.declared.stop.ReadStop.{ReadStop}
use Rattle.unit_reader.specs.Asking.{WindowSeen}
use Rattle.unit_reader.specs.Reading.{UnitOver}
use Rattle.stream_reader.specs.declared.stop.Item.TheVariants as items
use Rattle.stream_reader.specs.declared.pictures.Shown.{Shown}
use Rattle.stream_reader.specs.declared.parts.Found.{Found}
use Rattle.stream_reader.specs.declared.parts.Found.TheVariants as founds
use Rattle.stream_reader.specs.Turns.{FoundOver as StreamUnitOver, IsFound, IsTaker, is_end_found}
use Rattle.stream_reader.specs.Held.{HeldOver, KeptBy}
use Rattle.stream_reader.specs.Reader.{Steps, IsTakerOf}
use Rattle.stream_reader.specs.StreamTable.{StreamTableSeen, IsFoundBy, StopsTable, IsMaker, DecoderBehind, Makes, KeepsDecoder}

-- ---- how its rows come out

pub unit_over : (before now : StreamTableSeen) (held0 : List ℕ) (rest0 rest1 : Option (List ℕ)) (window : WindowSeen) (result : Result Found (ReadStop Reason)) → now.makes_pictures ≡ before.makes_pictures → now.past ≡ before.past → now.header ≡ before.header → now.shapes.units ≡ before.shapes.units → 1 ≤ now.shapes.spare
    → StreamUnitOver before.past held0 rest0 rest1 window result → HeldOver before.past held0 rest0 before.decoder now.decoder window.held result → UnitOver units (IsFoundBy before now) (StopsTable before now) before.past held0 rest0 rest1 window result
unit_over before now held0 rest0 rest1 window (Ok found) makes past header shapes room t h = record {
  unit = t.unit;
  at = t.at;
  begun = t.begun;
  such = record { makes = makes; past = past; header = header; shapes = shapes; room = room; is_read = t.such; kept = h };
  total = t.total;
}
unit_over before now held0 rest0 rest1 window (Err stop) makes past header shapes room t h = (t, record { makes = makes; header = header; shapes = shapes; held = h })

-- ---- what may come behind it

pub behind_end : (z : Past) (found : Found) (unit : DataUnit) (bytes : List ℕ) → is_end_found found ≡ true → IsFound z found unit bytes → unit_behind unit ≡ Final
behind_end z (founds.Sequence first) unit bytes e h = absurd cc
behind_end z founds.Repeated unit bytes e h = absurd cc
behind_end z (founds.Picture shown) unit bytes e h = absurd cc
behind_end z founds.Skipped unit bytes e h = absurd cc
behind_end z founds.End unit bytes e h = ap unit_behind h

pub behind_other : (z : Past) (found : Found) (unit : DataUnit) (bytes : List ℕ) → is_end_found found ≡ false → IsFound z found unit bytes → unit_behind unit ≡ Inner
behind_other z (founds.Sequence first) unit bytes e h = ap unit_behind h.0
behind_other z founds.Repeated unit bytes e h = ap unit_behind h
behind_other z (founds.Picture shown) unit bytes e h = ap unit_behind h.2.is_picture
behind_other z founds.Skipped unit bytes e h = ap unit_behind h
behind_other z founds.End unit bytes e h = absurd cc

-- ---- the step behind a unit

pub picture_steps : (z new : Past) (shown : Shown) (found : Found) (size : ℕ) → found ≡ founds.Picture shown → new ≡ record z { place = z.place + size; previous = size; pictures = z.pictures + 1; last = shown.number }
    → (unit : DataUnit) (bytes : List ℕ) → length bytes ≡ size → IsFound z found unit bytes → Steps z new unit bytes (items.Picture shown.number) (Some shown.decoder)
picture_steps z new shown found size e is unit bytes long h =
    let p = subst (λ f. IsFound z f unit bytes) e h in
    let s = p.2 in
    subst (λ u. Steps z new u bytes (items.Picture shown.number) (Some shown.decoder)) (sym s.is_picture) (record {
      past = is ∙ ap (λ n. record z { place = z.place + n; previous = n; pictures = z.pictures + 1; last = shown.number }) (sym long);
      is_item = refl;
      decoder = (shown.decoder, refl, s.taker);
    })

pub finished_makes : (makes_pictures : Bool) (old new : PictureDecoderSeen) → new ≡ record old { picture = Some (synthesised_picture old) } → ((slices : List (List ℕ)) → HasTaken slices old → synthesised_picture old ≡ picture_of (frame_of old.shape) old.params slices) → Makes makes_pictures old new
finished_makes makes_pictures old new is made = record {
  same = is ∙ ap (λ (p : Option PictureSamples). record old { picture = p }) (sym (ap (λ (d : PictureDecoderSeen). d.picture) is));
  picture = λ asked slices taken. ap (λ (d : PictureDecoderSeen). d.picture) is ∙ ap Some (made slices taken);
}

pub unfinished_makes : (makes_pictures : Bool) (old new : PictureDecoderSeen) → makes_pictures ≡ false → new ≡ old → Makes makes_pictures old new
unfinished_makes makes_pictures old new none is = record {
  same = is ∙ ap (λ (p : Option PictureSamples). record old { picture = p }) (sym (ap (λ (d : PictureDecoderSeen). d.picture) is));
  picture = λ asked. absurd (let clash : false ≡ true = sym none ∙ asked in cc);
}

maker_is : (makes_pictures : Bool) (parts : HeaderParts) (p : Params) (slices : List (List ℕ)) (old new : PictureDecoderSeen) → IsTaker parts p slices old → Makes makes_pictures old new → IsMaker makes_pictures parts p slices new
maker_is makes_pictures parts p slices old new t m = record {
  taker = subst (IsTaker parts p slices) (sym m.same) (record {
    frame = t.frame;
    params_are = t.params_are;
    taken = record { number = t.taken.number; each = t.taken.each };
    whole = record { none_refused = t.whole.none_refused; none_wanted = t.whole.none_wanted };
  });
  picture = λ asked. m.picture asked slices t.taken ∙ ap (λ f. Some (picture_of f old.params slices)) t.frame ∙ ap (λ q. Some (picture_of (frame_under parts) q slices)) t.params_are;
}

-- the decoder behind a unit
pub decoder_behind : (makes_pictures : Bool) (unit : DataUnit) (took old new : Option PictureDecoderSeen) → IsTakerOf unit took → KeepsDecoder makes_pictures took old new → DecoderBehind makes_pictures unit old new
decoder_behind makes_pictures (Picture parts number params slices) took old new t k =
    let kept = subst (λ (d : Option PictureDecoderSeen). KeepsDecoder makes_pictures d old new) t.1 k in
    (kept.0, kept.1, maker_is makes_pictures parts params slices t.0 kept.0 t.2 kept.2)
decoder_behind makes_pictures (Sequence parts) took old new t k = subst (λ (d : Option PictureDecoderSeen). KeepsDecoder makes_pictures d old new) t k
decoder_behind makes_pictures Repeated took old new t k = subst (λ (d : Option PictureDecoderSeen). KeepsDecoder makes_pictures d old new) t k
decoder_behind makes_pictures Skipped took old new t k = subst (λ (d : Option PictureDecoderSeen). KeepsDecoder makes_pictures d old new) t k
decoder_behind makes_pictures End took old new t k = subst (λ (d : Option PictureDecoderSeen). KeepsDecoder makes_pictures d old new) t k

-- where there is no picture it is the one that was kept
pub kept_behind : (makes_pictures : Bool) (z : Past) (found : Found) (unit : DataUnit) (bytes : List ℕ) (old now new : Option PictureDecoderSeen) → IsFound z found unit bytes → KeptBy found old now → DecoderBehind makes_pictures unit now new → DecoderBehind makes_pictures unit old new
kept_behind makes_pictures z found unit bytes old now new h kept d = by found h kept
  where
    by : (found : Found) → IsFound z found unit bytes → KeptBy found old now → DecoderBehind makes_pictures unit old new
    by (founds.Sequence first) h kept = subst (λ (u : DataUnit). DecoderBehind makes_pictures u old new) (sym h.0) (subst (λ (u : DataUnit). DecoderBehind makes_pictures u now new) h.0 d ∙ kept)
    by founds.Repeated h kept = subst (λ (u : DataUnit). DecoderBehind makes_pictures u old new) (sym h) (subst (λ (u : DataUnit). DecoderBehind makes_pictures u now new) h d ∙ kept)
    by (founds.Picture shown) h kept = subst (λ (u : DataUnit). DecoderBehind makes_pictures u old new) (sym h.2.is_picture) (subst (λ (u : DataUnit). DecoderBehind makes_pictures u now new) h.2.is_picture d)
    by founds.Skipped h kept = subst (λ (u : DataUnit). DecoderBehind makes_pictures u old new) (sym h) (subst (λ (u : DataUnit). DecoderBehind makes_pictures u now new) h d ∙ kept)
    by founds.End h kept = subst (λ (u : DataUnit). DecoderBehind makes_pictures u old new) (sym h) (subst (λ (u : DataUnit). DecoderBehind makes_pictures u now new) h d ∙ kept)

-- each slice has a byte
pub slices_few : (shape : UnitShape) → IsUnitAllowed shape → shape.slices ≤ shape_length shape
slices_few shape allowed =
    let below : shape.slices ≤ bytes_before shape.a shape.b shape.slices = le-div_of_le (shape.slices * shape.a) shape.b shape.slices allowed.some (mul-le-mul_left shape.slices allowed.byte) in
    omega (arith, below)

-- ---- the table behind a unit

-- what was found, by what is left now
pub found_now : (before now : StreamTableSeen) (found : Found) (unit : DataUnit) (bytes : List ℕ) → IsFoundBy before now found unit bytes → IsFound now.past found unit bytes
found_now before now found unit bytes f = subst (λ (z : Past). IsFound z found unit bytes) (sym f.past) f.is_read.0
