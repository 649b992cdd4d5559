-- Bands of numbers of 32 bits: they stay narrow, and what stays where restoring stops.
use Rattle.std.proofs.Common.{◌≡◌, ℕ, zero, suc, ◌+◌, ◌*◌, ◌^◌, ◌<◌, ◌≤◌, List, [], ◌∷◌, Bool, true, false, length, get_or, drop, ℤ, pos, ◌+ℤ◌, unsigned_abs, to_z, of_z, w32, refl, sym, ap, subst, ◌∙◌, inl, inr, arith}
use Rattle.std.specs.Prelude.{◌&&◌}
use Rattle.std.proofs.lemmas.Int.{ints}
use Rattle.std.proofs.lemmas.Bool.{cases_lt, cases_eq}
use Rattle.std.proofs.lemmas.List.{get_or-drop, get_or_past}
use Rattle.planes.specs.declared.Rect.{Rect}
use Rattle.planes.specs.declared.Trio.{Trio}
use Rattle.planes.specs.Raster.{Raster, at}
use Rattle.planes.specs.Rect.{IsInRect}
use Rattle.planes.specs.Bounded.{IsPlaneWithin, AreBandsWithin}
use Rattle.planes.specs.Subbands.{BandStack, BandExists, band_index, with_band, AreZeroBands}
use Rattle.dc_prediction.specs.Prediction.{prediction}
use Rattle.dc_prediction.specs.Restoring.{RestoresRect, IsNarrow, IsStopped}
use Rattle.dc_prediction.proofs.Rectangles.{in_rect_or_not}
use Rattle.slice_geometry.specs.declared.Size.{Size}
use Rattle.slice_geometry.specs.Slicing.{Slicing}
use Rattle.slice_geometry.specs.SliceOrder.{level_rect, place_number, number_in, level_of, numbered}
use Rattle.slice_geometry.proofs.NumberedBands.{numbered-same, numbered-other}
use Rattle.slice_decoder.specs.Slice.{are_small}
use Rattle.slice_decoder.specs.Dealing.{dealt, HoldsRect, KeepsOutside}
use Rattle.slice_decoder.specs.Levels.{places_in, BandsTake}
use Rattle.slice_decoder.specs.Components.{Part, rect_of, quantisers_before, BandsHold, BandsKeep}
use Rattle.slice_decoder.specs.Narrow.{NeedMore, LowestKeeps, StopsSlice, Answers, BothAnswer, block_values}
use Rattle.slice_decoder.specs.Restored.{StayWithin}
use Rattle.slice_decoder.proofs.Dealt.{are_small-all}
use Rattle.slice_decoder.proofs.Whole.{place-holds}
use Rattle.slice_decoder.proofs.Ready.{at-zeros}

-- ---- values

pub zero_narrow : (v : ℤ) → v ≡ pos 0 → IsNarrow v
zero_narrow v is =
    let zero_is : IsNarrow (pos 0) = record { low = omega (arith, ints); high = omega (arith, ints) } in
    subst IsNarrow (sym is) zero_is

-- a narrow number in 32 bits
pub in-32-bits : (v : ℤ) → IsNarrow v → to_z w32 (of_z w32 v) ≡ v
in-32-bits v narrow = omega (arith, ints, narrow.low, narrow.high)

-- four numbers that are those of a function
pub four-at : (f : ℕ → ℤ) (a b d e : ℤ) (k : ℕ) → k < 4 → a ≡ f 0 → b ≡ f 1 → d ≡ f 2 → e ≡ f 3 → get_or (a ∷ b ∷ d ∷ e ∷ []) k (pos 0) ≡ f k
four-at f a b d e zero lt a_is b_is d_is e_is = a_is
four-at f a b d e (suc zero) lt a_is b_is d_is e_is = b_is
four-at f a b d e (suc (suc zero)) lt a_is b_is d_is e_is = d_is
four-at f a b d e (suc (suc (suc zero))) lt a_is b_is d_is e_is = e_is
four-at f a b d e (suc (suc (suc (suc k)))) lt a_is b_is d_is e_is = absurd (omega arith)

within-narrow : (v : ℤ) → unsigned_abs v ≤ 2 ^ 18 → IsNarrow v
within-narrow v le = record { low = omega (arith, ints, le); high = omega (arith, ints, le) }

narrow-within : (v : ℤ) → IsNarrow v → unsigned_abs v ≤ 2 ^ 18
narrow-within v narrow = omega (arith, ints, narrow.low, narrow.high)

-- past the last value stands 0
pub all-narrow : (values dealt_values : List ℤ) (n : ℕ) (answer : Bool) → answer ≡ true → length values ≡ n
    → ((k : ℕ) → k < n → get_or values k (pos 0) ≡ get_or dealt_values k (pos 0))
    → StayWithin (2 ^ 18) answer (λ k. get_or dealt_values k (pos 0)) 0 n → (k : ℕ) → IsNarrow (get_or values k (pos 0))
all-narrow values dealt_values n answer good long same stay k = elim (cases_lt k n) as (λ _. IsNarrow (get_or values k (pos 0))) [
  | inl lt ↦ subst IsNarrow (sym (same k lt)) (within-narrow (get_or dealt_values k (pos 0)) (stay.yes good k (omega arith) lt))
  | inr past ↦ zero_narrow (get_or values k (pos 0)) (get_or_past values k (pos 0) (omega (arith, past, long)))
]

pub all-small : (most : ℕ) (values : List ℤ) (n : ℕ) (answer : Bool) → most ≤ 2 ^ 36 → answer ≡ true → n ≡ length values
    → StayWithin most answer (λ k. get_or values k (pos 0)) 0 n → are_small values ≡ true
all-small most values n answer few good is stay = are_small-all values (λ k lt. omega (arith, few, stay.yes good k (omega arith) (omega (arith, lt, is))))

pub needs-more : (room n : ℕ) (values : List ℤ) (answer : Bool) → answer ≡ false → StayWithin (2 ^ 18) answer (λ k. get_or values k (pos 0)) 0 n
    → NeedMore (pos (2 ^ 18)) room values
needs-more room n values answer refused stay = inr (λ all. stay.no refused (λ k low lt. narrow-within (get_or values k (pos 0)) (all k)))

-- ---- two blocks

-- what an answer says of the colour block, behind a luma block whose values fit
pub both-answer : (most : ℤ) (room : ℕ) (luma colour : Part) (luma_block colour_block : List Bool) (old new : Trio) (fit : Bool)
    → are_small (block_values 1 luma luma_block) ≡ true → BandsHold 1 0 luma (3 * luma.slicing.depth + 1) luma_block old.luma new.luma
    → Answers most room (block_values 2 colour colour_block) (BandsHold 2 0 colour (3 * colour.slicing.depth + 1) colour_block old.c1 new.c1 × BandsHold 2 1 colour (3 * colour.slicing.depth + 1) colour_block old.c2 new.c2) fit
    → BothAnswer most room luma colour luma_block colour_block old new fit
both-answer most room luma colour luma_block colour_block old new true small held answer = (small, answer.0, held, answer.1.0, answer.1.1)
both-answer most room luma colour luma_block colour_block old new false small held answer = inr answer

pub both-true : (lumas colours : List ℤ) → are_small lumas ≡ true → are_small colours ≡ true → true ≡ (are_small lumas && are_small colours)
both-true lumas colours one two = sym (ap (λ b. b && are_small colours) one ∙ two)

-- ---- they are narrow at first

pub narrow-zero : (depth w h : ℕ) (b : BandStack) → AreZeroBands b depth w h → AreBandsWithin (pos (2 ^ 18)) b
narrow-zero depth w h b new level orient e y x down right =
    let E : ℕ → Type 0 = λ d. BandExists d level orient in
    zero_narrow _ (ap (λ p. at p y x) (new.each level orient (subst E new.same_depth e)) ∙ at-zeros _ _ y x)

-- ---- they stay narrow

-- narrow values at the places of a rectangle
pub rect_narrow : (each from : ℕ) (r : Rect) (values : List ℤ) (start : ℕ) (old new : Raster ℤ) → HoldsRect each from r (drop start values) old new
    → ((k : ℕ) → IsNarrow (get_or values k (pos 0))) → IsPlaneWithin (pos (2 ^ 18)) old → IsPlaneWithin (pos (2 ^ 18)) new
rect_narrow each from r values start old new holds narrow all y x ly lx = elim (in_rect_or_not r y x) as (λ _. IsNarrow (at new y x)) [
  | inl here ↦
      let place : ℕ = each * number_in r y x + from in
      subst IsNarrow (sym (holds.inside y x here ∙ get_or-drop start values place (pos 0))) (narrow (start + place))
  | inr out ↦ subst IsNarrow (sym (holds.outside y x out)) (all y x (omega (arith, ly, holds.same_height)) (omega (arith, lx, holds.same_width)))
]

pub takes-narrow : (each from : ℕ) (s : Slicing) (size : Size) (sx sy total : ℕ) (values : List ℤ) (old new : BandStack) → BandsTake each from s size sx sy total values old new
    → ((k : ℕ) → total ≤ k → numbered new k ≡ numbered old k) → ((k : ℕ) → IsNarrow (get_or values k (pos 0)))
    → AreBandsWithin (pos (2 ^ 18)) old → AreBandsWithin (pos (2 ^ 18)) new
takes-narrow each from s size sx sy total values old new takes rest narrow all level orient e =
    let k : ℕ = band_index level orient in
    let E : ℕ → Type 0 = λ d. BandExists d level orient in
    let before : IsPlaneWithin (pos (2 ^ 18)) (numbered old k) = all level orient (subst E takes.same_depth e) in
    elim (cases_lt k total) as (λ _. IsPlaneWithin (pos (2 ^ 18)) (numbered new k)) [
      | inl lt ↦ rect_narrow each from (level_rect s size sx sy (level_of k)) values (each * places_in s size sx sy k) (numbered old k) (numbered new k) (takes.bands k lt) narrow before
      | inr past ↦ subst (λ (p : Raster ℤ). IsPlaneWithin (pos (2 ^ 18)) p) (sym (rest k past)) before
    ]

-- where the lowest band is narrow, and all others stay
pub lowest-narrow : (rect : Rect) (old new : BandStack) → LowestKeeps rect old new → IsPlaneWithin (pos (2 ^ 18)) (numbered new 0) → AreBandsWithin (pos (2 ^ 18)) old → AreBandsWithin (pos (2 ^ 18)) new
lowest-narrow rect old new keeps lowest all level orient e =
    let k : ℕ = band_index level orient in
    let E : ℕ → Type 0 = λ d. BandExists d level orient in
    elim (cases_eq k 0) as (λ _. IsPlaneWithin (pos (2 ^ 18)) (numbered new k)) [
      | inl first ↦ subst (λ (i : ℕ). IsPlaneWithin (pos (2 ^ 18)) (numbered new i)) (sym first) lowest
      | inr some ↦ subst (λ (p : Raster ℤ). IsPlaneWithin (pos (2 ^ 18)) p) (sym (keeps.others k (omega arith))) (all level orient (subst E keeps.depth e))
    ]

-- ---- what stays

pub nothing-read : (p : Part) (b : BandStack) → BandsKeep p b b
nothing-read p b = record { same_depth = refl; bands = λ k. record { same_width = refl; same_height = refl; outside = λ y x out. refl } }

pub restored-outside : (r : Rect) (old new : Raster ℤ) → RestoresRect r old new → KeepsOutside r old new
restored-outside r old new done = record { same_width = done.same_width; same_height = done.same_height; outside = done.stays }

pub stopped-outside : (r : Rect) (old new : Raster ℤ) → IsStopped r old new → KeepsOutside r old new
stopped-outside r old new stop = let s = stop.2 in record {
  same_width = s.same_width;
  same_height = s.same_height;
  outside = λ y x out. s.stays y x (λ here before. out here);
}

-- restoring, whether it stops or not
pub either-outside : (r : Rect) (old new : Raster ℤ) (answer : Bool) → (answer ≡ true → RestoresRect r old new) → (answer ≡ false → IsStopped r old new) → KeepsOutside r old new
either-outside r old new true done stop = restored-outside r old new (done refl)
either-outside r old new false done stop = stopped-outside r old new (stop refl)

pub bands-lowest : (p : Part) (old b new : BandStack) (rect : Rect) → rect ≡ level_rect p.slicing p.size p.sx p.sy 0 → BandsKeep p old b → LowestKeeps rect b new → BandsKeep p old new
bands-lowest p old b new rect rect_is keeps lowest = record {
  same_depth = lowest.depth ∙ keeps.same_depth;
  bands = band;
}
  where
    band : (k : ℕ) → KeepsOutside (rect_of p k) (numbered old k) (numbered new k)
    band zero =
        let P : Rect → Type 0 = λ r. KeepsOutside r (numbered b 0) (numbered new 0) in
        let done : P (level_rect p.slicing p.size p.sx p.sy 0) = subst P rect_is lowest.keeps in
        let first = keeps.bands 0 in
        record {
          same_width = done.same_width ∙ first.same_width;
          same_height = done.same_height ∙ first.same_height;
          outside = λ y x out. done.outside y x out ∙ first.outside y x out;
        }
    band (suc k) =
        let P : Raster ℤ → Type 0 = λ r. KeepsOutside (rect_of p (suc k)) (numbered old (suc k)) r in
        subst P (sym (lowest.others (suc k) (omega arith))) (keeps.bands (suc k))

-- the lowest band replaced by what restoring leaves
pub lowest-is : (b : BandStack) (after : Raster ℤ) → 0 < length b.bands → numbered (with_band b 0 0 after) 0 ≡ after
lowest-is b after there = numbered-same b 0 0 0 after refl there

pub lowest-keeps : (rect : Rect) (b : BandStack) (before after : Raster ℤ) → before ≡ numbered b 0 → 0 < length b.bands → KeepsOutside rect before after → LowestKeeps rect b (with_band b 0 0 after)
lowest-keeps rect b before after is there keeps = record {
  depth = refl;
  keeps = subst (λ (n : Raster ℤ). KeepsOutside rect (numbered b 0) n) (sym (lowest-is b after there)) (subst (λ (o : Raster ℤ). KeepsOutside rect o after) is keeps);
  others = λ k some. numbered-other b 0 0 0 k after refl (omega arith);
}

-- ---- where restoring stops

pub slice-stops : (each from : ℕ) (p : Part) (block : List Bool) (old b new : BandStack) (rect : Rect) (values : List ℤ) → from < each → rect ≡ level_rect p.slicing p.size p.sx p.sy 0
    → values ≡ dealt block (quantisers_before each p (3 * p.slicing.depth + 1))
    → BandsHold each from p (3 * p.slicing.depth + 1) block old b
    → IsStopped rect (numbered b 0) (numbered new 0)
    → StopsSlice each from p.slicing p.size p.sx p.sy values new
slice-stops each from p block old b new rect values lt rect_is values_are held stops =
    let P : Rect → Type 0 = λ r. IsStopped r (numbered b 0) (numbered new 0) in
    let stop : P (level_rect p.slicing p.size p.sx p.sy 0) = subst P rect_is stops in
    let s = stop.2 in
    let value : (j i : ℕ) → IsInRect (level_rect p.slicing p.size p.sx p.sy 0) j i → at (numbered b 0) j i ≡ get_or values (each * place_number p.slicing p.size p.sx p.sy 0 0 j i + from) (pos 0) =
    λ j i here. place-holds each from p block old b 0 0 j i lt held (inl (refl, refl)) here
    ∙ ap (λ vs. get_or vs (each * place_number p.slicing p.size p.sx p.sy 0 0 j i + from) (pos 0)) (sym values_are)
    in (
      stop.0,
      stop.1,
      record {
        here = s.here;
        before = λ j i here before. s.restored j i here before ∙ ap (λ v. v +ℤ prediction (at (numbered new 0)) j i) (value j i here);
        passes = λ narrow. s.passes (subst (λ (v : ℤ). IsNarrow (v +ℤ prediction (at (numbered new 0)) stop.0 stop.1)) (sym (value stop.0 stop.1 s.here)) narrow);
      },
    )
