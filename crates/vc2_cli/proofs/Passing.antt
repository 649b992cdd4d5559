-- What a command over a stream knows of a unit, by the item that tells it.
use Rattle.std.proofs.Common.{◌≡◌, ◌≤◌, ℕ, ◌+◌, Bool, true, false, List, length, Option, Some, refl, sym, ap, subst, ◌∙◌, arith}
use Rattle.std.specs.Option.{option_map}
use Rattle.slice_geometry.specs.declared.PictureShape.{PictureShape}
use Rattle.sequence_header.specs.declared.parts.HeaderParts.{HeaderParts}
use Rattle.transform_params.specs.Params.{Params}
use Rattle.picture_codec.specs.Samples.{PictureSamples, PictureSeen, picture_of}
use Rattle.picture_codec.specs.Decoding.{PictureDecoderSeen}
use Rattle.stream_rows.specs.declared.reason.Reason.TheVariants as reasons
use Rattle.stream_rows.specs.Units.{Past, units, DataUnit, Sequence, Repeated, Picture, Skipped, End}
use Rattle.stream_rows.specs.Streams.{frame_under}
use Rattle.stream_rows.proofs.Answering.{after-place}
use Rattle.unit_reader.specs.Running.{Passes}
use Rattle.stream_reader.specs.declared.stop.Item.{Item}
use Rattle.stream_reader.specs.Reader.{item_of, IsPictureOf, IsTakerOf}
use Rattle.stream_reader.specs.ReaderInside.{seen_of}
use Rattle.stream_reader.specs.StreamTable.{StreamTableSeen, TellsUnit, IsMaker, DecoderBehind}
use Rattle.vc2_words.proofs.Plainness.{some_same}
use Rattle.vc2_cli.specs.Decode.{unit_pictures}
use Rattle.vc2_cli.specs.Telling.{tells_picture}
use Rattle.vc2_cli.proofs.Decoding.{pictures_few}

-- a unit of a stream lies between two tables, and the item tells it
abbrev pub PassesUnit : StreamTableSeen → StreamTableSeen → Item → Type 0
PassesUnit before behind item = Passes units reasons.StreamTooLong (λ (table : StreamTableSeen). table.past) TellsUnit before behind item

-- a unit whose picture this decoder took
record Taken (makes : Bool) (unit : DataUnit) (decoder : Option PictureDecoderSeen) : Type 0 where
  parts : HeaderParts
  number : ℕ
  params : Params
  slices : List (List ℕ)
  d : PictureDecoderSeen
  is : unit ≡ Picture parts number params slices
  there : decoder ≡ Some d
  maker : IsMaker makes parts params slices d

taken_by : (makes : Bool) (unit : DataUnit) (item : Item) (old new : Option PictureDecoderSeen) → item ≡ item_of unit → DecoderBehind makes unit old new → tells_picture item ≡ true → Taken makes unit new
taken_by makes (Sequence parts) item old new e b told = absurd (let clash : false ≡ true = sym (ap tells_picture e) ∙ told in cc)
taken_by makes Repeated item old new e b told = absurd (let clash : false ≡ true = sym (ap tells_picture e) ∙ told in cc)
taken_by makes Skipped item old new e b told = absurd (let clash : false ≡ true = sym (ap tells_picture e) ∙ told in cc)
taken_by makes End item old new e b told = absurd (let clash : false ≡ true = sym (ap tells_picture e) ∙ told in cc)
taken_by makes (Picture parts number params slices) item old new e b told = record { parts = parts; number = number; params = params; slices = slices; d = b.0; is = refl; there = b.1; maker = b.2 }

module _ (before now : StreamTableSeen) (item : Item) (p : PassesUnit before now item) where
  pub place_is : now.past.place ≡ before.past.place + length p.bytes
  place_is = ap (λ (z : Past). z.place) p.past ∙ after-place before.past p.unit p.bytes

  -- a picture has a byte
  pub byte : unit_pictures p.unit ≤ length p.bytes
  byte = omega (arith, pictures_few p.unit, p.some)

  module _ (told : tells_picture item ≡ true) where
    taken : Taken before.makes_pictures p.unit now.decoder
    taken = taken_by before.makes_pictures p.unit item before.decoder now.decoder p.tells.is_item p.tells.decoder told

    pub one_is : unit_pictures p.unit ≡ 1
    one_is = ap unit_pictures taken.is

    module _ (d : PictureDecoderSeen) (there : now.decoder ≡ Some d) where
      same : taken.d ≡ d
      same = some_same (sym taken.there ∙ there)

      pub taker_is : IsTakerOf p.unit (Some d)
      taker_is = subst (λ (u : DataUnit). IsTakerOf u (Some d)) (sym taken.is) (taken.d, ap (λ (x : PictureDecoderSeen). Some x) (sym same), taken.maker.taker)

      pub picture_is : before.makes_pictures ≡ true → IsPictureOf p.unit (seen_of d)
      picture_is makes =
          let samples = picture_of (frame_under taken.parts) taken.params taken.slices in
          let shape = (taken.d).shape in
          subst (λ (x : PictureDecoderSeen). IsPictureOf p.unit (seen_of x)) same
          (subst (λ (u : DataUnit). IsPictureOf u (seen_of taken.d)) (sym taken.is)
          (record { shape = shape; samples = samples }, ap (option_map (λ (s : PictureSamples). seen shape s)) (taken.maker.picture makes), taken.maker.taker.frame, refl))
        where
          seen : PictureShape → PictureSamples → PictureSeen
          seen shape s = record { shape = shape; samples = s }

-- what the decoder shows, by the picture that it lends
pub shown_is : (d : PictureDecoderSeen) (picture : PictureSeen) → picture.shape ≡ d.shape → Some picture.samples ≡ d.picture → Some picture ≡ seen_of d
shown_is d picture shape samples =
    ap (λ (s : PictureShape). Some (seen s picture.samples)) shape ∙ ap (option_map (λ (s : PictureSamples). seen d.shape s)) samples
  where
    seen : PictureShape → PictureSamples → PictureSeen
    seen shape s = record { shape = shape; samples = s }
