-- A slice of 16 bits that is put among its neighbours, as bands show it.
use Rattle.std.proofs.Common.{◌≡◌, ◌≢◌, refl, sym, ap, subst, ◌∙◌, ℕ, zero, suc, ◌+◌, ◌-◌, ◌*◌, ◌^◌, unsigned_abs, ◌<◌, ◌≤◌, arith, inl, inr, List, length, drop, get_or, ℤ, pos, Bool, true, false}
use Rattle.std.proofs.lemmas.Bool.{cases_lt, cases_eq}
use Rattle.std.proofs.lemmas.Int.{ints}
use Rattle.std.proofs.lemmas.Bool.Decides.{nat_tests}
use Rattle.std.proofs.lemmas.List.{get_or-drop, get_or_past, get_or-set_other}
use Rattle.planes.specs.declared.Rect.{Rect}
use Rattle.planes.specs.Raster.{Raster, height}
use Rattle.planes.specs.Bounded.{IsWithin, IsPlaneWithin}
use Rattle.planes.specs.Subbands.{BandExists, band_index, band_of, HaveSizes, subband_length, no_band}
use Rattle.slice_store.specs.declared.short_bands.ShortBands.{ShortBands}
use Rattle.slice_store.specs.declared.short_bands.TheConstants.{MAX_SHORT}
use Rattle.slice_store.specs.Places as places
use Rattle.slice_store.specs.Stack.{IsSlicePut}
use Rattle.slice_store.specs.Store.{Store}
use Rattle.slice_store.specs.ShortBands.{shorts_of, short_stack}
use Rattle.slice_store.specs.Writing.{with_numbers}
use Rattle.slice_geometry.specs.declared.Size.{Size}
use Rattle.slice_geometry.specs.Slicing.{Slicing}
use Rattle.slice_geometry.specs.Geometry.{padded_length}
use Rattle.slice_geometry.specs.SliceOrder.{level_rect, level_of, orient_of, number_in, place_number, places_before, numbered, area, places_to, place_count}
use Rattle.slice_geometry.proofs.RectsInBands.{FitsIn, fits}
use Rattle.slice_geometry.proofs.NumberedBands.{index-numbered, band-exists}
use Rattle.dc_prediction.specs.Restoring.{RestoresRect, IsStopped}
use Rattle.slice_decoder.specs.Dealing.{HoldsRect, KeepsOutside}
use Rattle.slice_decoder.specs.Levels.{places_in, BandsTake, IsLowRect}
use Rattle.slice_decoder.specs.Short.{IsCut}
use Rattle.slice_decoder.specs.StepRows.{AreFew}
use Rattle.slice_decoder.specs.Narrow.{NeedMore, LowestKeeps}
use Rattle.slice_decoder.specs.Restored.{StayWithin}
use Rattle.slice_decoder.proofs.NarrowBands.{zero_narrow, rect_narrow}
use Rattle.slice_decoder.proofs.LevelLemmas.{places_inside, places_to_band, rect_low}
use Rattle.slice_decoder.proofs.ShortLowest.{stack_count, short_lowest, short_upper, each_band, index_inside}

-- ---- what a slice that is put needs

short_is_narrow : (v : ℤ) → IsWithin MAX_SHORT v → IsWithin (pos (2 ^ 18)) v
short_is_narrow v within = record { low = omega (arith, ints, within.low, within.high); high = omega (arith, ints, within.low, within.high) }

pub short-narrow : (values : List ℤ) → ((k : ℕ) → k < length values → IsWithin MAX_SHORT (get_or values k (pos 0))) → (k : ℕ) → IsWithin (pos (2 ^ 18)) (get_or values k (pos 0))
short-narrow values short k = elim (cases_lt k (length values)) as (λ _. IsWithin (pos (2 ^ 18)) (get_or values k (pos 0))) [
  | inl lt ↦ short_is_narrow (get_or values k (pos 0)) (short k lt)
  | inr past ↦ zero_narrow (get_or values k (pos 0)) (get_or_past values k (pos 0) past)
]

pub lowest-room : (each : ℕ) (s : Slicing) (size : Size) (sx sy n : ℕ) (rect : Rect) → rect ≡ level_rect s size sx sy 0 → n ≡ each * place_count s size sx sy → 0 + each * area rect ≤ n
lowest-room each s size sx sy n rect is count =
    omega (arith, places_inside each s size sx sy 0 (omega arith), count, ap (λ (r : Rect). each * area r) is)

-- slices that are cut so have bands of the component's sizes
pub cut_sizes : (s : Slicing) (size : Size) (b : ShortBands) → IsCut s size b → HaveSizes (short_stack b) (padded_length s.depth size.w) (padded_length s.depth size.h)
cut_sizes s size b cut =
    let P : Slicing → Size → Type 0 = λ t z. HaveSizes (short_stack b) (padded_length t.depth z.w) (padded_length t.depth z.h) in
    subst (λ (t : Slicing). P t size) cut.slicing (subst (λ (z : Size). P b.slices.slicing z) cut.size cut.sound.sizes)

pub cut_depth : (s : Slicing) (size : Size) (b : ShortBands) → IsCut s size b → b.slices.slicing.depth ≡ s.depth
cut_depth s size b cut = ap (λ (t : Slicing). t.depth) cut.slicing

-- the rectangle lies in the lowest band
pub lowest-fits : (s : Slicing) (size : Size) (b : ShortBands) (sx sy : ℕ) (rect : Rect) → IsCut s size b → rect ≡ level_rect s size sx sy 0 → sx < s.slices_x → sy < s.slices_y → FitsIn rect b.lowest
lowest-fits s size b sx sy rect cut is across down =
    fits s size sx sy 0 rect (short_stack b) b.lowest is (sym (short_lowest b)) (omega arith) (cut_depth s size b cut) across down (cut_sizes s size b cut)

-- there is room for all rows of slices
pub all-rows : (s : Slicing) (size : Size) (b : ShortBands) → IsCut s size b → b.slices.slicing.slices_y ≤ b.slices.strips
all-rows s size b cut = cut.sound.whole

-- a number of the store is one of the component that it is cut for
pub column-inside : (s : Slicing) (size : Size) (b : ShortBands) (sx : ℕ) → IsCut s size b → sx < s.slices_x → sx < b.slices.slicing.slices_x
column-inside s size b sx cut lt = omega (arith, lt, ap (λ (t : Slicing). t.slices_x) cut.slicing)

pub row-inside : (s : Slicing) (size : Size) (b : ShortBands) (sy : ℕ) → IsCut s size b → sy < s.slices_y → sy < b.slices.slicing.slices_y
row-inside s size b sy cut lt = omega (arith, lt, ap (λ (t : Slicing). t.slices_y) cut.slicing)

pub cut-count : (s : Slicing) (size : Size) (b : ShortBands) (sx sy : ℕ) → IsCut s size b → place_count b.slices.slicing b.slices.size sx sy ≡ place_count s size sx sy
cut-count s size b sx sy cut =
    ap (λ (t : Slicing). place_count t b.slices.size sx sy) cut.slicing ∙ ap (λ (z : Size). place_count s z sx sy) cut.size

pub cut-rect : (s : Slicing) (size : Size) (b : ShortBands) (sx sy level : ℕ) → IsCut s size b → level_rect b.slices.slicing b.slices.size sx sy level ≡ level_rect s size sx sy level
cut-rect s size b sx sy level cut =
    ap (λ (t : Slicing). level_rect t b.slices.size sx sy level) cut.slicing ∙ ap (λ (z : Size). level_rect s z sx sy level) cut.size

-- the rectangle that the store says
pub cut-low : (s : Slicing) (size : Size) (b : ShortBands) (sx sy level : ℕ) (rect : Rect) → IsCut s size b → places.IsCut b.slices.slicing b.slices.size → rect ≡ level_rect b.slices.slicing b.slices.size sx sy level
    → sx < s.slices_x → sy < s.slices_y → IsLowRect rect
cut-low s size b sx sy level rect cut limits is across down =
    subst (λ (r : Rect). IsLowRect r) (sym is)
    (rect_low b.slices.slicing b.slices.size sx sy level limits.depth limits.size (column-inside s size b sx cut across) (row-inside s size b sy cut down))

-- a slice is small
module _ (s : Slicing) (size : Size) (sx sy : ℕ) (areas : List ℕ) (few : AreFew areas) (shallow : s.depth ≤ 4)
    (are : (level : ℕ) → level ≤ s.depth → get_or areas level 0 ≡ area (level_rect s size sx sy level)) where
  places_few : (level : ℕ) → level ≤ s.depth → places_to s size sx sy level ≤ 2 ^ 26 + level * (3 * 2 ^ 26)
  places_few zero le = omega (arith, few 0 (omega arith), are 0 le)
  places_few (suc level) le = omega (arith, places_few level (omega arith), few (suc level) (omega arith), are (suc level) le)

  pub all-few : place_count s size sx sy ≤ 2 ^ 30
  all-few = omega (arith, places_few s.depth (omega arith), shallow)

-- ---- the slice that is put, as all bands show it

some_orient : (k : ℕ) → k ≢ 0 → 1 ≤ orient_of k
some_orient k some = grind (arith, nat_tests)

-- the store has the slice's numbers now, which are every value of the list, or every other one
module _ (each from : ℕ) (s : Slicing) (size : Size) (old : ShortBands) (sx sy : ℕ) (values : List ℤ) (slices : Store ℤ) (cut : IsCut s size old) (number : ℕ → ℤ) (counted : (k : ℕ) → number k ≡ get_or values (each * k + from) (pos 0))
    (put : IsSlicePut old.slices.slicing old.slices.size sx sy number (shorts_of old.slices) (shorts_of slices)) where
  put_here : IsSlicePut s size sx sy number (shorts_of old.slices) (shorts_of slices)
  put_here =
      subst (λ (z : Size). IsSlicePut s z sx sy number (shorts_of old.slices) (shorts_of slices)) cut.size
      (subst (λ (t : Slicing). IsSlicePut t old.slices.size sx sy number (shorts_of old.slices) (shorts_of slices)) cut.slicing put)

  -- one upper band
  holds_band : (level orient : ℕ) → BandExists s.depth level orient → HoldsRect each from (level_rect s size sx sy level) (drop (each * places_in s size sx sy (band_index level orient)) values)
      (band_of (shorts_of old.slices) level orient) (band_of (shorts_of slices) level orient)
  holds_band level orient e =
      let stored : BandExists old.slices.slicing.depth level orient = subst (λ (d : ℕ). BandExists d level orient) (sym (cut_depth s size old cut)) e in
      let before : ℕ = places_before s size sx sy level orient in
      record {
        same_width = sym (put.sizes.widths level orient stored);
        same_height = sym (put.sizes.heights level orient stored);
        inside = λ y x inside.
            let n : ℕ = number_in (level_rect s size sx sy level) y x in
            let sum : each * (before + n) + from ≡ each * before + (each * n + from) = grind arith in
            put_here.here level orient y x e inside
            ∙ counted (place_number s size sx sy level orient y x)
            ∙ ap (λ (k : ℕ). get_or values k (pos 0)) sum
            ∙ ap (λ (k : ℕ). get_or values (each * k + (each * n + from)) (pos 0)) (sym (places_to_band s size sx sy level orient e))
            ∙ sym (get_or-drop (each * places_in s size sx sy (band_index level orient)) values (each * n + from) (pos 0));
        outside = λ y x out. put_here.others level orient y x e out;
      }

  -- and the lowest band takes its values
  module _ (rect : Rect) (lowest : Raster ℤ) (rect_is : rect ≡ level_rect s size sx sy 0) (low : HoldsRect each from rect (drop 0 values) old.lowest lowest) where
    abbrev new : ShortBands
    new = record { lowest = lowest; slices = slices }

    pub put-takes : BandsTake each from s size sx sy (3 * s.depth + 1) values (short_stack old) (short_stack (record { lowest = lowest; slices = slices }))
    unfolding places_in
    put-takes =
        let none : each * places_in s size sx sy 0 ≡ 0 = omega arith in
        record {
          same_depth = sym put.sizes.same_depth;
          bands = λ k lt. elim (cases_eq k 0) [
            | inl first ↦
                let P : ℕ → Type 0 = λ k. HoldsRect each from (level_rect s size sx sy (level_of k)) (drop (each * places_in s size sx sy k) values) (numbered (short_stack old) k) (numbered (short_stack new) k) in
                let Q : Rect → ℕ → Raster ℤ → Raster ℤ → Type 0 = λ r n p q. HoldsRect each from r (drop n values) p q in
                let r : Rect = level_rect s size sx sy 0 in
                subst P (sym first)
                (subst (λ (q : Raster ℤ). Q r (each * places_in s size sx sy 0) (numbered (short_stack old) 0) q) (sym (short_lowest new))
                (subst (λ (p : Raster ℤ). Q r (each * places_in s size sx sy 0) p lowest) (sym (short_lowest old))
                (subst (λ (n : ℕ). Q r n old.lowest lowest) (sym none) (subst (λ (r : Rect). Q r 0 old.lowest lowest) rect_is low))))
            | inr some ↦
                let level : ℕ = level_of k in
                let orient : ℕ = orient_of k in
                let e : BandExists s.depth level orient = band-exists s.depth k lt in
                let index : band_index level orient ≡ k = index-numbered k in
                let P : ℕ → Type 0 = λ j. HoldsRect each from (level_rect s size sx sy level) (drop (each * places_in s size sx sy j) values) (numbered (short_stack old) j) (numbered (short_stack new) j) in
                let Q : Raster ℤ → Raster ℤ → Type 0 = λ p q. HoldsRect each from (level_rect s size sx sy level) (drop (each * places_in s size sx sy (band_index level orient)) values) p q in
                let one : 1 ≤ level = omega (arith, some) in
                let low_orient : 1 ≤ orient = some_orient k some in
                subst P index
                (subst (λ (q : Raster ℤ). Q (band_of (short_stack old) level orient) q) (sym (short_upper new level orient one low_orient))
                (subst (λ (p : Raster ℤ). Q p (band_of (shorts_of new.slices) level orient)) (sym (short_upper old level orient one low_orient))
                (holds_band level orient e)))
          ];
        }

    -- bands past the last are none
    pub put-rest : (k : ℕ) → 3 * s.depth + 1 ≤ k → numbered (short_stack (record { lowest = lowest; slices = slices })) k ≡ numbered (short_stack old) k
    put-rest k past =
        let depth = cut_depth s size old cut in
        let same : slices.slicing.depth ≡ old.slices.slicing.depth = sym put.sizes.same_depth in
        get_or_past (short_stack new).bands k no_band (omega (arith, past, stack_count new, depth, same))
        ∙ sym (get_or_past (short_stack old).bands k no_band (omega (arith, past, stack_count old, depth)))

-- and the bands stay cut
pub cut-after : (each from : ℕ) (s : Slicing) (size : Size) (old : ShortBands) (sx sy : ℕ) (rect : Rect) (values : List ℤ) (lowest : Raster ℤ) (slices : Store ℤ) → IsCut s size old
    → BandsTake each from s size sx sy (3 * s.depth + 1) values (short_stack old) (short_stack (record { lowest = lowest; slices = slices }))
    → HoldsRect each from rect (drop 0 values) old.lowest lowest
    → ((k : ℕ) → k < length values → IsWithin MAX_SHORT (get_or values k (pos 0)))
    → slices ≡ with_numbers old.slices slices.numbers
    → IsCut s size (record { lowest = lowest; slices = slices })
cut-after each from s size old sx sy rect values lowest slices cut takes low short is =
    subst (λ (t : Store ℤ). BandsTake each from s size sx sy (3 * s.depth + 1) values (short_stack old) (short_stack (record { lowest = lowest; slices = t })) → IsCut s size (record { lowest = lowest; slices = t })) (sym is)
    (λ taken.
    let below : (level orient : ℕ) → BandExists old.slices.slicing.depth level orient → band_index level orient < 3 * s.depth + 1 =
    λ level orient e. subst (λ (d : ℕ). band_index level orient < 3 * d + 1) (cut_depth s size old cut) (index_inside old.slices.slicing.depth level orient e) in
    record {
      slicing = cut.slicing;
      size = cut.size;
      sound = record {
        sizes = record {
          widths = λ level orient e. (taken.bands (band_index level orient) (below level orient e)).same_width ∙ cut.sound.sizes.widths level orient e;
          heights = λ level orient e. (taken.bands (band_index level orient) (below level orient e)).same_height ∙ cut.sound.sizes.heights level orient e;
        };
        narrow = rect_narrow each from rect values 0 old.lowest lowest low (short-narrow values short) cut.sound.narrow;
        whole = cut.sound.whole;
      };
    }) takes

-- ---- what answers say

short-within : (v : ℤ) → IsWithin MAX_SHORT v → unsigned_abs v ≤ 2 ^ 14 - 1
short-within v within = omega (arith, ints, within.low, within.high)

pub short-needs-more : (room n : ℕ) (values : List ℤ) (answer : Bool) → answer ≡ false → StayWithin (2 ^ 14 - 1) answer (λ k. get_or values k (pos 0)) 0 n
    → NeedMore MAX_SHORT room values
short-needs-more room n values answer refused stay = inr (λ all. stay.no refused (λ k low lt. short-within (get_or values k (pos 0)) (all k)))

within-short : (v : ℤ) → unsigned_abs v ≤ 2 ^ 14 - 1 → IsWithin MAX_SHORT v
within-short v few = record { low = omega (arith, ints, few); high = omega (arith, ints, few) }

pub short-values : (n : ℕ) (values read : List ℤ) (answer : Bool) → answer ≡ true → StayWithin (2 ^ 14 - 1) answer (λ k. get_or values k (pos 0)) 0 n
    → length read ≡ n → ((k : ℕ) → k < n → get_or read k (pos 0) ≡ get_or values k (pos 0))
    → (k : ℕ) → k < length read → IsWithin MAX_SHORT (get_or read k (pos 0))
short-values n values read answer good stay long same k lt =
    let below : k < n = omega (arith, lt, long) in
    subst (IsWithin MAX_SHORT) (sym (same k below)) (within-short (get_or values k (pos 0)) (stay.yes good k (omega arith) below))

-- ---- the lowest band restored

module _ (rect : Rect) (b : ShortBands) (after : Raster ℤ) where
  pub lowest-restored : RestoresRect rect b.lowest after → RestoresRect rect (numbered (short_stack b) 0) (numbered (short_stack (record { lowest = after; slices = b.slices })) 0)
  lowest-restored done =
      subst (λ (p : Raster ℤ). RestoresRect rect p (numbered (short_stack (record { lowest = after; slices = b.slices })) 0)) (sym (short_lowest b))
      (subst (λ (p : Raster ℤ). RestoresRect rect b.lowest p) (sym (short_lowest (record { lowest = after; slices = b.slices }))) done)

  pub lowest-stopped : IsStopped rect b.lowest after → IsStopped rect (numbered (short_stack b) 0) (numbered (short_stack (record { lowest = after; slices = b.slices })) 0)
  lowest-stopped stop =
      subst (λ (p : Raster ℤ). IsStopped rect p (numbered (short_stack (record { lowest = after; slices = b.slices })) 0)) (sym (short_lowest b))
      (subst (λ (p : Raster ℤ). IsStopped rect b.lowest p) (sym (short_lowest (record { lowest = after; slices = b.slices }))) stop)

  pub short-keeps : KeepsOutside rect b.lowest after → LowestKeeps rect (short_stack b) (short_stack (record { lowest = after; slices = b.slices }))
  short-keeps keeps = record {
    depth = refl;
    keeps = subst (λ (p : Raster ℤ). KeepsOutside rect p (numbered (short_stack (record { lowest = after; slices = b.slices })) 0)) (sym (short_lowest b))
        (subst (λ (p : Raster ℤ). KeepsOutside rect b.lowest p) (sym (short_lowest (record { lowest = after; slices = b.slices }))) keeps);
    others = λ k some.
        get_or-set_other (shorts_of b.slices).bands 0 k after no_band (omega arith) ∙ sym (get_or-set_other (shorts_of b.slices).bands 0 k b.lowest no_band (omega arith));
  }

  pub restored-cut : (s : Slicing) (size : Size) → IsCut s size b → KeepsOutside rect b.lowest after → IsPlaneWithin (pos (2 ^ 18)) after → IsCut s size (record { lowest = after; slices = b.slices })
  restored-cut s size cut keeps narrow =
      let new : ShortBands = record { lowest = after; slices = b.slices } in
      let depth : ℕ = b.slices.slicing.depth in
      record {
        slicing = cut.slicing;
        size = cut.size;
        sound = record {
          sizes = record {
            widths = each_band depth (λ level orient. (band_of (short_stack new) level orient).w ≡ subband_length depth level (padded_length depth b.slices.size.w))
                (ap (λ (p : Raster ℤ). p.w) (short_lowest new) ∙ keeps.same_width ∙ sym (ap (λ (p : Raster ℤ). p.w) (short_lowest b)) ∙ cut.sound.sizes.widths 0 0 (inl (refl, refl)))
                (λ level orient e one some. ap (λ (p : Raster ℤ). p.w) (short_upper new level orient one some ∙ sym (short_upper b level orient one some)) ∙ cut.sound.sizes.widths level orient e);
            heights = each_band depth (λ level orient. height (band_of (short_stack new) level orient) ≡ subband_length depth level (padded_length depth b.slices.size.h))
                (ap (λ (p : Raster ℤ). height p) (short_lowest new) ∙ keeps.same_height ∙ sym (ap (λ (p : Raster ℤ). height p) (short_lowest b)) ∙ cut.sound.sizes.heights 0 0 (inl (refl, refl)))
                (λ level orient e one some. ap (λ (p : Raster ℤ). height p) (short_upper new level orient one some ∙ sym (short_upper b level orient one some)) ∙ cut.sound.sizes.heights level orient e);
          };
          narrow = narrow;
          whole = cut.sound.whole;
        };
      }
