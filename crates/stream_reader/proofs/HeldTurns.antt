-- How many bytes are held.
use Rattle.std.proofs.Common.{inl, inr, ◌≡◌, ℕ, zero, suc, ◌<◌, ◌≤◌, List, length, drop, Option, Some, None, Result, Ok, Err, refl, sym, ap, subst, ◌∙◌, arith}
use Rattle.std.specs.Prelude.{max, ◌+◌, IfErr}
use Rattle.std.proofs.Math.Nat.{le-max_left, le-max_right}
use Rattle.std.proofs.lemmas.Bool.{cases_lt}
use Rattle.std.proofs.lemmas.List.{length-drop}
use Rattle.slice_geometry.specs.Slicing.{slice_bytes, slice_count}
use Rattle.transform_params.specs.Params.{Params}
use Rattle.picture_codec.specs.Decoding.{PictureDecoderSeen, wanted_of}
use Rattle.run_theory.specs.Begun.{Begun}
use Rattle.run_theory.proofs.Begins.{begun_same}
use Rattle.stream_reader.specs.ReadStops.{ReadStop}
use Rattle.stream_rows.specs.Units.{Past, units}
use Rattle.stream_reader.specs.Held.{slices_under, greatest_of, greatest_share, held_most, greatest_in, ReadsParams, IsGreatestHeld, AsBefore, OfStopped, OfNone, StopsHeld, BeforeSlices, InSlices, NoDecoder}
use Rattle.stream_reader.proofs.PictureTurns.{wanted_is, behind_params}
use Rattle.sequence_header.specs.declared.parts.HeaderParts.{HeaderParts}

-- ---- shares

-- no share is greater than the greatest
share_below : (a b n i : ℕ) → i < n → slice_bytes a b i ≤ greatest_of a b n
share_below a b zero i below = absurd (omega (arith, below))
share_below a b (suc n) i below = elim (cases_lt i n) [
  | inl lt ↦ omega (arith, share_below a b n i lt, le-max_left (greatest_of a b n) (slice_bytes a b n))
  | inr le ↦ let last : n ≡ i = omega (arith, below, le) in subst (λ (k : ℕ). slice_bytes a b k ≤ max (greatest_of a b n) (slice_bytes a b n)) last (le-max_right (greatest_of a b n) (slice_bytes a b n))
]

pub share_most : (p : Params) (d : PictureDecoderSeen) (n : ℕ) → d.params ≡ p → Some n ≡ wanted_of d → n ≤ greatest_share p.slicing
share_most p d n same wants =
    let w = wanted_is d n (sym wants) in
    subst (λ (q : Params). n ≤ greatest_share q.slicing) same
    (subst (λ (k : ℕ). k ≤ greatest_share d.params.slicing) (sym w.1) (share_below d.params.slicing.a d.params.slicing.b (slice_count d.params.slicing) d.next w.0))

-- ---- bounds

pub if_err : {X E : Type 0} (r : Result X E) (P : E → Type 0) → ((e : E) → P e) → IfErr r P
if_err (Ok x) P p = tt
if_err (Err e) P p = p e

pub drop_most : (n most : ℕ) (held behind : List ℕ) → behind ≡ drop n held → length held ≤ most → length behind ≤ most
drop_most n most held behind is few = omega (arith, few, ap (λ (l : List ℕ). length l) is, length-drop n held)

pub few_most : (held : List ℕ) (greatest : Option ℕ) → length held ≤ 8192 → length held ≤ held_most greatest
few_most held None few = few
few_most held (Some greatest) few = omega (arith, few)

-- ---- a unit that stops

slices_are : (z : Past) (next : ℕ) (parts : HeaderParts) (number : ℕ) (p : Params) → behind_params z next parts number p ≡ slices_under z next parts number p
unfolding slices_under
slices_are z next parts number p = refl

-- the parameters were read
pub reads_params : {z : Past} {held0 held1 : List ℕ} {rest0 rest1 : Option (List ℕ)} {at : ℕ} (next : ℕ) (parts : HeaderParts) (number : ℕ) (p : Params) → Begun units z held0 rest0 rest1 at held1 (behind_params z next parts number p) → ReadsParams z held0 rest0 p
reads_params {z} {held0} {held1} {rest0} {rest1} {at} next parts number p b = record { next = next; parts = parts; number = number; at = at; held1 = held1; rest1 = rest1; begun = begun_same (slices_under z next parts number p) b (slices_are z next parts number p) }

pub stops_greatest : (z : Past) (held0 : List ℕ) (rest0 : Option (List ℕ)) (old new : Option PictureDecoderSeen) (held : List ℕ) (stop : ReadStop) → StopsHeld z held0 rest0 old new held stop → IsGreatestHeld z held0 rest0 (greatest_in old) (greatest_in new) held stop
stops_greatest z held0 rest0 old new held stop (BeforeSlices same few) = AsBefore (ap greatest_in same) few
stops_greatest z held0 rest0 old new held stop (InSlices p reads d is same few) = OfStopped p reads (ap greatest_in is ∙ ap (λ (q : Params). Some (greatest_share q.slicing)) same)
stops_greatest z held0 rest0 old new held stop (NoDecoder want none few) = OfNone want (ap greatest_in none)

-- where it stops, no more is held than beside the share
pub stops_most : (z : Past) (held0 : List ℕ) (rest0 : Option (List ℕ)) (old new : Option PictureDecoderSeen) (held : List ℕ) (stop : ReadStop) → StopsHeld z held0 rest0 old new held stop → length held ≤ held_most (greatest_in new)
stops_most z held0 rest0 old new held stop (BeforeSlices same few) = few_most held (greatest_in new) few
stops_most z held0 rest0 old new held stop (InSlices p reads d is same few) =
    subst (λ (n : Option PictureDecoderSeen). length held ≤ held_most (greatest_in n)) (sym is) (subst (λ (q : Params). length held ≤ 8192 + greatest_share q.slicing) (sym same) few)
stops_most z held0 rest0 old new held stop (NoDecoder want none few) = few_most held (greatest_in new) few
