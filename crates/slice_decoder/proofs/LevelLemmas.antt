-- The rectangles of a slice, and how many places they have.
use Rattle.std.proofs.Common.{◌≡◌, ℕ, zero, suc, ◌+◌, ◌-◌, ◌*◌, ◌/◌, ◌^◌, ◌<◌, ◌≤◌, Bool, true, false, cond, eqb, List, [], length, get_or, sym, ap, ◌∙◌, arith}
use Rattle.std.proofs.Math.Nat.{div-le_self, mul-le-mul_left, mul-le-mul_right}
use Rattle.std.proofs.lemmas.List.{length-append, length-replicate}
use Rattle.planes.specs.declared.Rect.{Rect}
use Rattle.planes.specs.Subbands.{BandExists, band_index}
use Rattle.slice_geometry.specs.declared.Size.{Size}
use Rattle.slice_geometry.specs.Shape.{IsSize}
use Rattle.slice_geometry.specs.Slicing.{Slicing}
use Rattle.slice_geometry.specs.Geometry.{padded_length, band_length, band_size}
use Rattle.slice_geometry.specs.SliceOrder.{level_rect, area, places_to, places_before, place_count, level_of}
use Rattle.slice_geometry.proofs.Lengths.{padded_most}
use Rattle.slice_geometry.proofs.RectsInBands.{start_before_end, end_inside}
use Rattle.slice_decoder.specs.Components.{Part, rect_of, index_of, quantisers_before, quantisers_of}
use Rattle.slice_decoder.specs.Levels.{IsLowRect, AreRects, no_rect, places_in}
use Rattle.slice_decoder.proofs.Whole.{length-to_level, length-before_band}

cond_le : (b : Bool) (x y n : ℕ) → x ≤ n → y ≤ n → cond b x y ≤ n
cond_le true x y n h k = h
cond_le false x y n h k = k

band_most : (depth level length : ℕ) → depth ≤ 4 → length ≤ 8192 → band_length depth level length ≤ 8192
band_most depth level length shallow small =
    let padded = padded_most depth length shallow small in
    let p : ℕ = padded_length depth length in
    cond_le (eqb level 0) (p / 2 ^ depth) (p / 2 ^ (depth - level + 1)) 8192 (omega (arith, padded, div-le_self p (2 ^ depth))) (omega (arith, padded, div-le_self p (2 ^ (depth - level + 1))))

pub rect_low : (s : Slicing) (size : Size) (sx sy level : ℕ) → s.depth ≤ 4 → IsSize size.w size.h → sx < s.slices_x → sy < s.slices_y → IsLowRect (level_rect s size sx sy level)
rect_low s size sx sy level shallow is across down =
    let band = band_size s.depth level size in
    record {
      across = start_before_end band.w s.slices_x sx across;
      down = start_before_end band.h s.slices_y sy down;
      narrow = omega (arith, end_inside band.w s.slices_x sx across, band_most s.depth level size.w shallow is.width);
      low = omega (arith, end_inside band.h s.slices_y sy down, band_most s.depth level size.h shallow is.height);
    }

pub area_most : (r : Rect) → IsLowRect r → area r ≤ 2 ^ 26
area_most r low =
    let w : ℕ = r.x1 - r.x0 in
    let h : ℕ = r.y1 - r.y0 in
    let wide : w ≤ 8192 = omega (arith, low.narrow) in
    let one : w * h ≤ 8192 * h = mul-le-mul_right h wide in
    let tall : h ≤ 8192 = omega (arith, low.low) in
    let two : 8192 * h ≤ 8192 * 8192 = mul-le-mul_left 8192 tall in
    omega (arith, one, two)

-- ---- how many places the bands have

pub places_more : (s : Slicing) (size : Size) (sx sy k : ℕ) → places_in s size sx sy (k + 1) ≡ places_in s size sx sy k + area (level_rect s size sx sy (level_of k))
unfolding places_in
places_more s size sx sy k = let one : k + 1 ≡ suc k = omega arith in ap (places_in s size sx sy) one

places_grow : (s : Slicing) (size : Size) (sx sy k m : ℕ) → places_in s size sx sy k ≤ places_in s size sx sy (k + m)
places_grow s size sx sy k zero = let none : k + 0 ≡ k = omega arith in omega (arith, ap (places_in s size sx sy) none)
places_grow s size sx sy k (suc m) =
    let next : k + suc m ≡ k + m + 1 = omega arith in
    omega (arith, places_grow s size sx sy k m, places_more s size sx sy (k + m), ap (places_in s size sx sy) next)

pub length-places : (each : ℕ) (p : Part) (k : ℕ) → length (quantisers_before each p k) ≡ each * places_in p.slicing p.size p.sx p.sy k
unfolding quantisers_before places_in
length-places each p zero = omega arith
length-places each p (suc k) =
    let more = length-append (quantisers_before each p k) (quantisers_of each p k) in
    let here = length-replicate (each * area (rect_of p k)) (index_of p k) in
    let sum : each * (places_in p.slicing p.size p.sx p.sy k + area (rect_of p k)) ≡ each * places_in p.slicing p.size p.sx p.sy k + each * area (rect_of p k) = grind arith in
    omega (arith, more, here, length-places each p k, sum)

any_part : Slicing → Size → ℕ → ℕ → Part
any_part s size sx sy = record { slicing = s; size = size; sx = sx; sy = sy; matrix = record { depth = 0; entries = [] }; qindex = 0 }

pub places_all : (s : Slicing) (size : Size) (sx sy : ℕ) → places_in s size sx sy (3 * s.depth + 1) ≡ place_count s size sx sy
unfolding any_part
places_all s size sx sy =
    let p = any_part s size sx sy in
    omega (arith, length-places 1 (any_part s size sx sy) (3 * s.depth + 1), length-to_level 1 (any_part s size sx sy) s.depth)

pub places_to_band : (s : Slicing) (size : Size) (sx sy level orient : ℕ) → BandExists s.depth level orient → places_in s size sx sy (band_index level orient) ≡ places_before s size sx sy level orient
unfolding any_part
places_to_band s size sx sy level orient e =
    omega (arith, length-places 1 (any_part s size sx sy) (band_index level orient), length-before_band 1 (any_part s size sx sy) level orient e)

-- the values of a band are among those of the slice
pub places_inside : (each : ℕ) (s : Slicing) (size : Size) (sx sy k : ℕ) → k < 3 * s.depth + 1
    → each * places_in s size sx sy k + each * area (level_rect s size sx sy (level_of k)) ≤ each * place_count s size sx sy
places_inside each s size sx sy k lt =
    let rest : ℕ = 3 * s.depth + 1 - (k + 1) in
    let whole : k + 1 + rest ≡ 3 * s.depth + 1 = omega arith in
    let grown = places_grow s size sx sy (k + 1) rest in
    let most : places_in s size sx sy k + area (level_rect s size sx sy (level_of k)) ≤ place_count s size sx sy =
    omega (arith, grown, places_more s size sx sy k, ap (places_in s size sx sy) whole, places_all s size sx sy)
    in
    let all : each * (places_in s size sx sy k + area (level_rect s size sx sy (level_of k))) ≤ each * place_count s size sx sy = mul-le-mul_left each most in
    let sum : each * (places_in s size sx sy k + area (level_rect s size sx sy (level_of k))) ≡ each * places_in s size sx sy k + each * area (level_rect s size sx sy (level_of k)) = grind arith in
    omega (arith, all, sum)

-- and a value of a band is among all
pub in_total : (each : ℕ) (p : Part) (k total j : ℕ) → k < total → j < each * area (rect_of p k) → length (quantisers_before each p k) + j < length (quantisers_before each p total)
in_total each p k total j lt inside =
    let whole : k + 1 + (total - (k + 1)) ≡ total = omega arith in
    let s = p.slicing in
    let grown = places_grow p.slicing p.size p.sx p.sy (k + 1) (total - (k + 1)) in
    let most : places_in p.slicing p.size p.sx p.sy k + area (rect_of p k) ≤ places_in p.slicing p.size p.sx p.sy total =
    omega (arith, grown, places_more p.slicing p.size p.sx p.sy k, ap (places_in p.slicing p.size p.sx p.sy) whole)
    in
    let all : each * (places_in p.slicing p.size p.sx p.sy k + area (rect_of p k)) ≤ each * places_in p.slicing p.size p.sx p.sy total = mul-le-mul_left each most in
    let sum : each * (places_in p.slicing p.size p.sx p.sy k + area (rect_of p k)) ≡ each * places_in p.slicing p.size p.sx p.sy k + each * area (rect_of p k) = grind arith in
    omega (arith, all, sum, inside, length-places each p k, length-places each p total)

-- ---- bands by their numbers

pub rect_of_level : (s : Slicing) (size : Size) (sx sy : ℕ) (rects : List Rect) (k level : ℕ) → AreRects s size sx sy rects → level ≡ level_of k → k < 3 * s.depth + 1
    → get_or rects level no_rect ≡ level_rect s size sx sy (level_of k)
rect_of_level s size sx sy rects k level are is lt = are.same level (omega (arith, is)) ∙ ap (level_rect s size sx sy) is

pub room_here : (each : ℕ) (s : Slicing) (size : Size) (sx sy k from n m : ℕ) → from ≡ each * places_in s size sx sy k → n ≡ area (level_rect s size sx sy (level_of k)) → m ≡ each * place_count s size sx sy → k < 3 * s.depth + 1
    → from + each * n ≤ m
room_here each s size sx sy k from n m from_is n_is m_is lt = rw (from_is, n_is, m_is) (places_inside each s size sx sy k lt)

pub next_from : (each : ℕ) (s : Slicing) (size : Size) (sx sy k from n : ℕ) → from ≡ each * places_in s size sx sy k → n ≡ area (level_rect s size sx sy (level_of k)) → from + each * n ≡ each * places_in s size sx sy (k + 1)
next_from each s size sx sy k from n from_is n_is =
    let sum : each * places_in s size sx sy k + each * area (level_rect s size sx sy (level_of k)) ≡ each * (places_in s size sx sy k + area (level_rect s size sx sy (level_of k))) = grind arith in
    rw (from_is, n_is) sum ∙ ap (λ m. each * m) (sym (places_more s size sx sy k))

places_few : (s : Slicing) (size : Size) (sx sy : ℕ) (rects : List Rect) (level : ℕ) → AreRects s size sx sy rects → level ≤ s.depth → places_to s size sx sy level ≤ 2 ^ 26 + level * (3 * 2 ^ 26)
places_few s size sx sy rects zero are le = omega (arith, area_most (get_or rects 0 no_rect) (are.all_low 0 le), ap area (are.same 0 le))
places_few s size sx sy rects (suc level) are le =
    omega (arith, places_few s size sx sy rects level are (omega arith), area_most (get_or rects (suc level) no_rect) (are.all_low (suc level) le), ap area (are.same (suc level) le))

pub count_few : (s : Slicing) (size : Size) (sx sy : ℕ) (rects : List Rect) → AreRects s size sx sy rects → place_count s size sx sy ≤ 2 ^ 30
count_few s size sx sy rects are = omega (arith, places_few s size sx sy rects s.depth are (omega arith), are.shallow)
