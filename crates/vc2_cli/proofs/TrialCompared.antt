-- The comparison over the stream of a trial: each picture of the video is compared with what its slices make.
use Rattle.std.proofs.Common.{◌≡◌, ℕ, zero, suc, ◌+◌, ◌%◌, ◌^◌, ◌<◌, ◌≤◌, max, List, [], ◌∷◌, length, map, Bool, true, false, Option, None, Some, Result, Ok, Err, refl, sym, ap, subst, ◌∙◌, arith}
use Rattle.std.specs.List.{AllByRecursion}
use Rattle.std.proofs.lemmas.List.{length-map}
use Rattle.std.proofs.lemmas.List.FromFn.{length-map-range_with_len}
use Rattle.slice_geometry.specs.declared.PictureShape.{PictureShape}
use Rattle.slice_geometry.specs.Frames.{Frame, frame_of}
use Rattle.transform_params.specs.ParameterFields.{unit_length}
use Rattle.transform_params.proofs.Bounds.{unit_small}
use Rattle.picture_codec.specs.Samples.{PictureSamples, picture_of}
use Rattle.picture_codec.specs.Encoding.{slices_of}
use Rattle.trial_video.specs.Video.{TrialVideoSeen, video_picture}
use Rattle.trial_video.specs.Worst.{worst, worst_of}
use Rattle.run_theory.specs.Walk.{Machine, Answer, answer_from, answer_to}
use Rattle.run_theory.specs.Ran.{Ran, HaltHasCause}
use Rattle.run_theory.specs.declared.Halt.{Halt}
use Rattle.run_theory.specs.declared.Halt.TheVariants as halts
use Rattle.run_theory.specs.Fronts.{Between, Command}
use Rattle.stream_rows.specs.declared.reason.Reason.{Reason}
use Rattle.stream_rows.specs.Units.{Past, nothing_yet, DataUnit, Sequence, after}
use Rattle.stream_rows.specs.Streams.{limit, frame_under}
use Rattle.stream_writer.specs.EncodedStream.{begins_at, header_length, header_unit, number_after, units_behind, AreLawful, IsSliced}
use Rattle.stream_writer.specs.Writer.{head_bytes_before, IsSteepOkUnder}
use Rattle.stream_writer.proofs.EncodedUnits.{length-header_unit}
use Rattle.stream_writer.proofs.EncodedStreams.{Going, header_small, going_start}
use Rattle.stream_rows.proofs.Answering.{machine}
use Rattle.vc2_words.specs.declared.words.TrialPart.{TrialPart}
use Rattle.vc2_words.specs.Settings.{Asked}
use Rattle.vc2_words.specs.Lawful.{IsTrial}
use Rattle.vc2_cli.specs.declared.comparing.ComparisonEnd.{ComparisonEnd}
use Rattle.vc2_cli.specs.declared.comparing.ComparisonEnd.TheVariants.{Compared}
use Rattle.vc2_cli.specs.Encode.{written_under, stream_place}
use Rattle.vc2_cli.specs.WholePictures.{stream_of}
use Rattle.vc2_cli.specs.Trial.{Comparison, comparing, nothing_compared, trial_pictures, trial_worst}
use Rattle.vc2_cli.specs.TrialTurn.{pictures_from, comparison_of, IsCompared}
use Rattle.vc2_cli.proofs.Behind.{place_first, place_next, length_behind}
use Rattle.vc2_cli.proofs.EncodedWalk.{behind_due, front_first, front_due, front_last, going_due, due_place}
use Rattle.vc2_cli.proofs.Settling.{told}
use Rattle.vc2_cli.proofs.EncodeChecked.{units_length, sliced, length_is}
use Rattle.vc2_cli.proofs.TrialWritten.{trial_settings, trial_may}

module _ (s : Asked) (seed : ℕ) (f : AreLawful (written_under s)) (start : Comparison) where
  abbrev decoded : PictureSamples → PictureSamples
  decoded p = picture_of (frame_under s.parts) s.params (slices_of (frame_under s.parts) s.params p)

  -- the greatest difference so far, and then over these pictures
  abbrev worst_from : ℕ → List PictureSamples → ℕ
  worst_from most [] = most
  worst_from most (p ∷ pictures) = worst_from (max most (worst p (decoded p))) pictures

  abbrev slices : List PictureSamples → List (List (List ℕ))
  slices pictures = map (slices_of (frame_under s.parts) s.params) pictures

  abbrev left_of : ℕ → ℕ → List PictureSamples
  left_of n count = pictures_from (frame_under s.parts) seed n count

  abbrev own_at : ℕ → ℕ → ℕ → Comparison
  own_at n left most = record { frame = frame_under s.parts; seed = seed; pictures = n; left = left; worst = most }

  abbrev command : Command Past Reason DataUnit Comparison ComparisonEnd
  command = comparing start

  abbrev quiet : (z : Past) (own : Comparison) (unit : DataUnit) (bytes : List ℕ) → command.text z own unit bytes ≡ []
  quiet z own unit bytes = refl

  abbrev answer : ℕ → Answer ComparisonEnd
  answer most = record { ending = Compared most; text = []; last = [] }

  -- what stands before a picture is not compared
  compared_due : (begins : Bool) (n count most previous number : ℕ) (z : Past) → let p = video_picture (frame_under s.parts) seed n in
      (behind_due command quiet (written_under s) f begins (record { past = z; own = own_at n (suc count) most }) previous number (slices_of (frame_under s.parts) s.params p)).own ≡ own_at (n + 1) count (max most (worst p (decoded p)))
  compared_due true n count most previous number z = refl
  compared_due false n count most previous number z = refl

  walked : (count n m most previous number : ℕ) (z : Past) → previous < 2 ^ 32 → number < 2 ^ 32 → Going s.parts z previous number n → AllByRecursion (IsSliced s.parts s.params) (slices (left_of n count))
      → (s.parts.coding ≡ 1 → m % 2 ≡ 0) → m ≡ n + count → stream_place s m + 13 ≤ limit → z.place ≡ stream_place s n
      → answer_from (machine command) (record { past = z; own = own_at n count most }) (units_behind (written_under s) n previous number (slices (left_of n count))) ≡ answer (worst_from most (left_of n count))
  walked zero n m most previous number z short fits g all even e within at =
      let here : m ≡ n = omega (arith, e) in
      let room : stream_place s n + 13 ≤ limit = subst (λ (k : ℕ). stream_place s k + 13 ≤ limit) here within in
      front_last command quiet (written_under s) f (record { past = z; own = own_at n 0 most }) previous number n short g (λ c. subst (λ (k : ℕ). k % 2 ≡ 0) here (even c)) (omega (arith, at, room))
  walked (suc count) n m most previous number z short fits g all even e within at =
      let p = video_picture (frame_under s.parts) seed n in
      let coded = slices_of (frame_under s.parts) s.params p in
      let begins = begins_at s.group n in
      let few = unit_small s.params f.params in
      let others = slices (left_of (n + 1) count) in
      let rest = units_behind (written_under s) (n + 1) (unit_length s.params) (number_after number) others in
      let many : length others ≡ count = length-map (left_of (n + 1) count) (slices_of (frame_under s.parts) s.params) ∙ length-map-range_with_len (λ (k : ℕ). video_picture (frame_under s.parts) seed k) (n + 1) count in
      let whole = units_length s f.params (coded ∷ others) previous number n m (omega (arith, e, many)) all in
      let here : Between Past Comparison = record { past = z; own = own_at n (suc count) most } in
      let past = (behind_due command quiet (written_under s) f begins here previous number coded).past in
      let next : suc n ≡ n + 1 = omega arith in
      let place : past.place ≡ stream_place s (n + 1) = due_place command quiet (written_under s) f coded all.0 number n fits begins here previous ∙ ap (λ (k : ℕ). k + head_bytes_before s.parts begins + unit_length s.params) at ∙ sym (place_next s n) ∙ ap (stream_place s) next in
      front_due command quiet (written_under s) f coded all.0 number n fits begins here previous rest refl short g (omega (arith, at, whole, within))
      ∙ ap (λ (own : Comparison). answer_from (machine command) (record { past = past; own = own }) rest) (compared_due begins n count most previous number z)
      ∙ walked count (n + 1) m (max most (worst p (decoded p))) (unit_length s.params) (number_after number) past few (omega arith)
      (going_due command quiet (written_under s) f coded all.0 number n fits begins here previous refl g) all.1 even (omega (arith, e)) within place

  max_before : (a b c : ℕ) → max (max a b) c ≡ max a (max b c)
  max_before a b c = grind arith

  max_none : (a : ℕ) → a ≡ max a 0
  max_none a = grind arith

  worst_is : (most : ℕ) (pictures : List PictureSamples) → worst_from most pictures ≡ max most (worst_of pictures (map decoded pictures))
  worst_is most [] = max_none most
  worst_is most (p ∷ pictures) = worst_is (max most (worst p (decoded p))) pictures ∙ max_before most (worst p (decoded p)) (worst_of pictures (map decoded pictures))

from_none : (a : ℕ) → max 0 a ≡ a
from_none a = grind arith

-- what the comparison over the whole stream ends with
pub compared_whole : (s : Asked) (part : TrialPart) (t : IsTrial s part) → IsSteepOkUnder (written_under s) → (answer_to (machine (comparing (nothing_compared s part))) (stream_of s (trial_pictures s part))).ending ≡ Compared (trial_worst s part)
compared_whole s part t steep =
    let start = nothing_compared s part in
    let pictures = trial_pictures s part in
    let settings = trial_settings s t.settings steep in
    let may = trial_may s part t in
    let unit = header_unit s.parts in
    let rest = units_behind (written_under s) 0 (header_length s.parts) s.first (map (slices_of (frame_under s.parts) s.params) pictures) in
    let f = settings.lawful in
    let z : Past = after nothing_yet (Sequence s.parts) unit in
    let all = sliced s pictures settings may in
    let at_start : z.place ≡ stream_place s 0 = omega (arith, length-header_unit s.parts, place_first s) in
    let fits : stream_place s part.pictures + 13 ≤ limit = omega (arith, t.short, length_behind s part.pictures) in
    let walk = walked s part.seed f start part.pictures 0 part.pictures 0 (header_length s.parts) s.first z (header_small (written_under s) f) f.first (going_start (written_under s) f) all t.even (omega arith) fits at_start in
    ap (λ (a : Answer ComparisonEnd). a.ending)
    (front_first (comparing start) (λ z own unit bytes. refl) (written_under s) f start rest (omega (arith, length_is s pictures settings may, may.stream)) ∙ walk)
    ∙ ap Compared (worst_is s part.seed f start 0 pictures ∙ from_none (trial_worst s part))

-- what a run over it comes to, from memory to memory
pub is_compared : {Z : Type 0} (m : Machine Z ComparisonEnd) (rest : Option (List ℕ)) (stream : List ℕ) (most : ℕ) (result : Result ComparisonEnd Halt) → Ran m (Some stream) rest None None result → HaltHasCause 0 0 0 0 result → (answer_to m stream).ending ≡ Compared most → IsCompared most result
is_compared m rest stream most (Ok ending) ran why e =
    let t = told (Some stream) rest stream ran.0 refl ran.1 in
    let got = ran.2.2 t.0 t.1 in
    let same : ending ≡ Compared most = sym got.1 ∙ ap (λ (l : List ℕ). (answer_to m l).ending) (sym t.2) ∙ e in
    subst (λ (x : ComparisonEnd). IsCompared most (Ok x)) (sym same) refl
is_compared m rest stream most (Err halts.ReadFault) ran why e = absurd (omega (arith, why.1))
is_compared m rest stream most (Err halts.OutFault) ran why e = absurd (omega (arith, why.2))
is_compared m rest stream most (Err halts.NoMemory) ran why e = tt

-- where the comparison begins
pub begins_as : (s : Asked) (part : TrialPart) (video : TrialVideoSeen) (shape : PictureShape) → video ≡ record { shape = shape; seed = part.seed; pictures = 0 } → frame_of shape ≡ frame_under s.parts → comparison_of video part.pictures 0 ≡ nothing_compared s part
begins_as s part video shape new frame =
    ap (λ (v : TrialVideoSeen). comparison_of v part.pictures 0) new ∙ ap (λ (f : Frame). record { frame = f; seed = part.seed; pictures = 0; left = part.pictures; worst = 0 }) frame

pub compared_here : (s : Asked) (part : TrialPart) (t : IsTrial s part) → IsSteepOkUnder (written_under s) → (start : Comparison) (stream : List ℕ) → start ≡ nothing_compared s part → stream ≡ stream_of s (trial_pictures s part)
    → (answer_to (machine (comparing start)) stream).ending ≡ Compared (trial_worst s part)
compared_here s part t steep start stream start_is stream_is =
    ap (λ (x : Comparison). (answer_to (machine (comparing x)) stream).ending) start_is ∙ ap (λ (l : List ℕ). (answer_to (machine (comparing (nothing_compared s part))) l).ending) stream_is ∙ compared_whole s part t steep
