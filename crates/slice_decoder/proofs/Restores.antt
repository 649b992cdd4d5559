-- Values of a block, restored place by place.
use Rattle.std.proofs.Common.{◌≡◌, ℕ, zero, suc, ◌+◌, ◌-◌, ◌*◌, ◌^◌, ◌<◌, ◌≤◌, Bool, true, false, List, [], ◌∷◌, ◌++◌, length, map, replicate, get_or, take, drop, ℤ, pos, unsigned_abs, append_assoc, refl, sym, ap, subst, ◌∙◌, inl, inr, arith}
use Rattle.std.specs.List.{AllByRecursion}
use Rattle.std.proofs.Math.Nat.{mul-le-mul_left, mul-le-mul_right}
use Rattle.std.proofs.lemmas.List.{get_or-map, length-map, length-replicate, get_or_append_left, get_or-append-add, get_or-append_right, get_or-replicate, get_or-take, get_or-drop, get_or_past, length-take, length-take-le, length-drop}
use Rattle.bounded_blocks.specs.Reading.{value_at, values}
use Rattle.bounded_blocks.specs.Parts.{IsSmall, AreWithin, HasHuge}
use Rattle.quant_factors.specs.Factors.{factor_of, offset_of, restored_of, inverse_of}
use Rattle.quant_factors.proofs.Tables.{factors_rise, factor_least, offset_most}
use Rattle.quant_factors.proofs.QuantLemmas.{restored-zero, restored-some, abs-inverse, magnitude_kept}
use Rattle.planes.specs.declared.Rect.{Rect}
use Rattle.slice_geometry.specs.SliceOrder.{area, place_count, level_of}
use Rattle.slice_decoder.specs.Slice.{are_small}
use Rattle.slice_decoder.specs.Dealing.{dealt}
use Rattle.slice_decoder.specs.Components.{Part, rect_of, index_of, quantisers_of, quantisers_before}
use Rattle.slice_decoder.specs.Restored.{restored_at, AllWithin, StayWithin, AreLow}
use Rattle.slice_decoder.proofs.Dealt.{length-dealt, are_small-at, are_small-all}
use Rattle.std.proofs.lemmas.Bool.{cases_lt}
use Rattle.slice_decoder.specs.Levels.{AreRects, no_rect, places_in}
use Rattle.slice_decoder.proofs.LevelLemmas.{length-places, places_all, rect_of_level, room_here, next_from}
use Rattle.slice_decoder.proofs.Stacks.{quantisers-more, quantisers-split, quantisers_rest}

-- ---- one value

-- the factors rise
rise_by : (i m : ℕ) → i + m ≤ 127 → factor_of i ≤ factor_of (i + m)
rise_by i zero le = let none : i + 0 ≡ i = omega arith in omega (arith, ap factor_of none)
rise_by i (suc m) le =
    let next : i + suc m ≡ i + m + 1 = omega arith in
    omega (arith, rise_by i m (omega arith), factors_rise (i + m) (omega arith), ap factor_of next)

-- what is low at an index is low at those below it
pub low_below : (m all i q : ℕ) → m ≤ all → i ≤ q → q ≤ 127 → (all + 1) * factor_of q ≤ 2 ^ 20 → (m + 1) * factor_of i ≤ 2 ^ 20
low_below m all i q le down most low =
    let whole : i + (q - i) ≡ q = omega arith in
    let rises : factor_of i ≤ factor_of q = omega (arith, rise_by i (q - i) (omega arith), ap factor_of whole) in
    let one : (m + 1) * factor_of i ≤ (all + 1) * factor_of i = mul-le-mul_right (factor_of i) (omega arith) in
    let two : (all + 1) * factor_of i ≤ (all + 1) * factor_of q = mul-le-mul_left (all + 1) rises in
    omega (arith, one, two, low)

pub low_factor : (m i : ℕ) → (m + 1) * factor_of i ≤ 2 ^ 20 → factor_of i ≤ 2 ^ 20
low_factor m i low =
    let once : 1 * factor_of i ≤ (m + 1) * factor_of i = mul-le-mul_right (factor_of i) (omega arith) in
    omega (arith, once, low)

pub low_offset : (m i : ℕ) → i ≤ 127 → (m + 1) * factor_of i ≤ 2 ^ 20 → offset_of i ≤ 2 ^ 20
low_offset m i le low = omega (arith, low_factor m i low, offset_most i (omega arith))

pub low_product : (m i : ℕ) → (m + 1) * factor_of i ≤ 2 ^ 20 → m * factor_of i + factor_of i ≤ 2 ^ 20
low_product m i low = omega (arith, low)

low_narrow : (m i : ℕ) → i ≤ 127 → m * factor_of i + factor_of i ≤ 2 ^ 20 → restored_of m i ≤ 2 ^ 18
low_narrow zero i le low = omega (arith, restored-zero i)
low_narrow (suc m) i le low = omega (arith, restored-some (suc m) i (omega arith), low, offset_most i (omega arith), factor_least i (omega arith))

pub low_restored : (q : ℤ) (i : ℕ) → i ≤ 127 → (unsigned_abs q + 1) * factor_of i ≤ 2 ^ 20 → unsigned_abs (inverse_of q i) ≤ 2 ^ 18
low_restored q i le low = omega (arith, abs-inverse q i, low_narrow (unsigned_abs q) i le (low_product (unsigned_abs q) i low))

-- ---- a band

pub all-stay : (most : ℕ) (f : ℕ → ℤ) (from to : ℕ) → AllWithin most f from to → StayWithin most true f from to
all-stay most f from to all = record { yes = λ e. all; no = λ e. absurd cc }

pub map-stay : (vs : List ℤ) (q : ℕ) (answer : Bool) → answer ≡ are_small (map (λ v. inverse_of v q) vs)
    → StayWithin (2 ^ 36) answer (λ k. inverse_of (get_or vs k (pos 0)) q) 0 (length vs)
map-stay vs q answer is = record {
  yes = λ e k low lt. subst (λ (v : ℤ). unsigned_abs v ≤ 2 ^ 36) (get_or-map (λ v. inverse_of v q) vs k (pos 0) (pos 0) lt) (are_small-at (map (λ v. inverse_of v q) vs) k (sym is ∙ e));
  no = λ e all. absurd (let f : false ≡ true =
      sym e ∙ is
      ∙ are_small-all (map (λ v. inverse_of v q) vs)
      (λ k lt. let inside : k < length vs = omega (arith, lt, length-map vs (λ v. inverse_of v q)) in
      subst (λ (v : ℤ). unsigned_abs v ≤ 2 ^ 36) (sym (get_or-map (λ v. inverse_of v q) vs k (pos 0) (pos 0) inside)) (all k (omega arith) inside))
      in cc);
}

-- ---- a part of a list

pub mid_length : (vs : List ℤ) (from to : ℕ) → from ≤ to → to ≤ length vs → length (take (to - from) (drop from vs)) ≡ to - from
mid_length vs from to order inside = length-take-le (to - from) (drop from vs) (omega (arith, length-drop from vs))

mid_at : (vs : List ℤ) (from to k : ℕ) → from ≤ k → k < to → get_or (take (to - from) (drop from vs)) (k - from) (pos 0) ≡ get_or vs k (pos 0)
mid_at vs from to k low lt =
    let whole : from + (k - from) ≡ k = omega arith in
    get_or-take (to - from) (drop from vs) (k - from) (pos 0) (omega arith) ∙ get_or-drop from vs (k - from) (pos 0) ∙ ap (λ n. get_or vs n (pos 0)) whole

pub part-stay : (most : ℕ) (vs : List ℤ) (from to q : ℕ) (answer : Bool) → from ≤ to → to ≤ length vs
    → StayWithin most answer (λ k. inverse_of (get_or (take (to - from) (drop from vs)) k (pos 0)) q) 0 (length (take (to - from) (drop from vs)))
    → StayWithin most answer (λ k. inverse_of (get_or vs k (pos 0)) q) from to
part-stay most vs from to q answer order inside stay =
    let long = mid_length vs from to order inside in
    record {
      yes = λ e k low lt. subst (λ (v : ℤ). unsigned_abs (inverse_of v q) ≤ most) (mid_at vs from to k low lt)
          (stay.yes e (k - from) (omega arith) (omega (arith, long)));
      no = λ e all. stay.no e (λ k low lt.
          let below : k < to - from = omega (arith, lt, long) in
          let same : get_or (take (to - from) (drop from vs)) k (pos 0) ≡ get_or vs (from + k) (pos 0) = get_or-take (to - from) (drop from vs) k (pos 0) below ∙ get_or-drop from vs k (pos 0) in
          subst (λ (v : ℤ). unsigned_abs (inverse_of v q) ≤ most) (sym same) (all (from + k) (omega arith) (omega arith)));
    }

-- a place of a part that was written
written_at : (a k j : ℕ) (xs ys rest : List ℤ) → a ≤ length xs → a ≤ j → j - a < length ys → get_or (take a xs ++ (ys ++ rest)) j (pos 0) ≡ get_or ys (j - a) (pos 0)
written_at a k j xs ys rest le low lt =
    get_or-append_right (take a xs) (ys ++ rest) a j (pos 0) (length-take-le a xs le) low ∙ get_or_append_left ys rest (pos 0) (j - a) lt

pub part-restored : (vs new rest : List ℤ) (from to q k : ℕ) → from ≤ to → to ≤ length vs → length new ≡ to - from → from ≤ k → k < to
    → ((j : ℕ) → j < length (take (to - from) (drop from vs)) → get_or new j (pos 0) ≡ inverse_of (get_or (take (to - from) (drop from vs)) j (pos 0)) q)
    → get_or (take from vs ++ (new ++ rest)) k (pos 0) ≡ inverse_of (get_or vs k (pos 0)) q
part-restored vs new rest from to q k order inside long low lt done =
    written_at from (to - from) k vs new rest (omega arith) low (omega (arith, long))
    ∙ done (k - from) (omega (arith, mid_length vs from to order inside))
    ∙ ap (λ v. inverse_of v q) (mid_at vs from to k low lt)

-- ---- a block

-- the quantiser of a place of band k
pub quantiser_at : (each : ℕ) (p : Part) (k total j : ℕ) → k < total → j < each * area (rect_of p k) → get_or (quantisers_before each p total) (length (quantisers_before each p k) + j) 0 ≡ index_of p k
quantiser_at each p k total j lt inside =
    let whole : total ≡ k + 1 + (total - (k + 1)) = omega arith in
    let before = quantisers_before each p k in
    let here = quantisers_of each p k in
    let rest = quantisers_rest each p (k + 1) (total - (k + 1)) in
    let place : ℕ = length before + j in
    ap (λ n. get_or (quantisers_before each p n) place 0) whole
    ∙ ap (λ qs. get_or qs place 0) (quantisers-split each p (k + 1) (total - (k + 1)) ∙ ap (λ qs. qs ++ rest) (quantisers-more each p k) ∙ append_assoc before here rest)
    ∙ get_or-append-add before (here ++ rest) j 0
    ∙ get_or_append_left here rest 0 j (omega (arith, inside, length-replicate (each * area (rect_of p k)) (index_of p k)))
    ∙ get_or-replicate (each * area (rect_of p k)) j (index_of p k) 0 inside

-- what is restored at a place of band k, by the band's index
pub restored_here : (each : ℕ) (p : Part) (k total from n index j : ℕ) (vs now : List ℤ) → k < total → from ≡ each * places_in p.slicing p.size p.sx p.sy k → n ≡ area (rect_of p k) → index ≡ index_of p k
    → from ≤ j → j < from + each * n → get_or now j (pos 0) ≡ get_or vs j (pos 0) → inverse_of (get_or now j (pos 0)) index ≡ restored_at vs (quantisers_before each p total) j
restored_here each p k total from n index j vs now lt from_is n_is index_is low below same =
    let at : length (quantisers_before each p k) + (j - from) ≡ j = omega (arith, length-places each p k, from_is) in
    let few : j - from < each * n = omega arith in
    let inside : j - from < each * area (rect_of p k) = subst (λ (m : ℕ). j - from < each * m) n_is few in
    let its : get_or (quantisers_before each p total) j 0 ≡ index_of p k = ap (λ m. get_or (quantisers_before each p total) m 0) (sym at) ∙ quantiser_at each p k total (j - from) lt inside in
    ap (λ v. inverse_of v index) same ∙ ap (inverse_of (get_or vs j (pos 0))) (index_is ∙ sym its)

-- What a loop over a slice's bands meets at band k: its values are those from one place on, in a list of so many.
pub record BandMeets (each : ℕ) (p : Part) (k from n index count : ℕ) : Type 0 where
  pub room : from + each * n ≤ count
  pub next : from + each * n ≡ each * places_in p.slicing p.size p.sx p.sy (k + 1)
  pub same : (vs now : List ℤ) (j : ℕ) → from ≤ j → j < from + each * n → get_or now j (pos 0) ≡ get_or vs j (pos 0)
      → inverse_of (get_or now j (pos 0)) index ≡ restored_at vs (quantisers_before each p (3 * p.slicing.depth + 1)) j

pub band-meets : (each : ℕ) (p : Part) (rects : List Rect) (k level from n index count : ℕ) → AreRects p.slicing p.size p.sx p.sy rects
    → k < 3 * p.slicing.depth + 1 → level ≡ level_of k → n ≡ area (get_or rects level no_rect) → index ≡ index_of p k
    → from ≡ each * places_in p.slicing p.size p.sx p.sy k → count ≡ each * place_count p.slicing p.size p.sx p.sy
    → BandMeets each p k from n index count
band-meets each p rects k level from n index count are below level_is area_is index_is from_is count_is =
    let n_is : n ≡ area (rect_of p k) = area_is ∙ ap area (rect_of_level p.slicing p.size p.sx p.sy rects k level are level_is below) in
    record {
      room = room_here each p.slicing p.size p.sx p.sy k from n count from_is n_is count_is below;
      next = next_from each p.slicing p.size p.sx p.sy k from n from_is n_is;
      same = λ vs now j low lt here. restored_here each p k (3 * p.slicing.depth + 1) from n index j vs now below from_is n_is index_is low lt here;
    }

-- a band that does not stay small is one of the slice
pub part-not : (most : ℕ) (f g : ℕ → ℤ) (from to n : ℕ) (answer : Bool) → answer ≡ false → to ≤ n → ((j : ℕ) → from ≤ j → j < to → g j ≡ f j)
    → StayWithin most answer g from to → StayWithin most false f 0 n
part-not most f g from to n answer is le same stay = record {
  yes = λ e. absurd cc;
  no = λ e all. stay.no is (λ j low lt. subst (λ (v : ℤ). unsigned_abs v ≤ most) (sym (same j low lt)) (all j (omega arith) (omega arith)));
}

pub part-more : (most : ℕ) (f g : ℕ → ℤ) (from to : ℕ) (answer : Bool) → answer ≡ true → ((j : ℕ) → from ≤ j → j < to → g j ≡ f j) → AllWithin most f 0 from
    → StayWithin most answer g from to → AllWithin most f 0 to
part-more most f g from to answer is same before stay j low lt = elim (cases_lt j from) [
  | inl old ↦ before j low old
  | inr new ↦ subst (λ (v : ℤ). unsigned_abs v ≤ most) (same j new lt) (stay.yes is j new lt)
]

-- as many values as quantisers
pub count_is : (each : ℕ) (p : Part) (n : ℕ) → n ≡ each * place_count p.slicing p.size p.sx p.sy
    → n ≡ length (quantisers_before each p (3 * p.slicing.depth + 1))
count_is each p n is = is ∙ ap (λ m. each * m) (sym (places_all p.slicing p.size p.sx p.sy)) ∙ sym (length-places each p (3 * p.slicing.depth + 1))

-- what is dealt is restored
pub dealt-at : (block : List Bool) (qs : List ℕ) (n j : ℕ) → n ≡ length qs → j < n → restored_at (values n block) qs j ≡ get_or (dealt block qs) j (pos 0)
dealt-at block [] n j is lt = absurd (omega (arith, is, lt))
dealt-at block (q ∷ qs) zero j is lt = absurd (omega arith)
dealt-at block (q ∷ qs) (suc n) zero is lt = refl
dealt-at block (q ∷ qs) (suc n) (suc j) is lt = dealt-at (value_at block).1 qs n j (omega (arith, is)) (omega arith)

abbrev IsIndex : ℕ → Type 0
IsIndex q = q ≤ 127

append-low : (qs rs : List ℕ) → AllByRecursion IsIndex qs → AllByRecursion IsIndex rs → AllByRecursion IsIndex (qs ++ rs)
append-low [] rs a b = b
append-low (q ∷ qs) rs a b = (a.0, append-low qs rs a.1 b)

replicate-low : (n q : ℕ) → q ≤ 127 → AllByRecursion IsIndex (replicate n q)
replicate-low zero q le = tt
replicate-low (suc n) q le = (le, replicate-low n q le)

pub quantisers-low : (each : ℕ) (p : Part) (k : ℕ) → p.qindex ≤ 127 → AllByRecursion IsIndex (quantisers_before each p k)
unfolding quantisers_before
quantisers-low each p zero le = tt
quantisers-low each p (suc k) le = append-low (quantisers_before each p k) (quantisers_of each p k) (quantisers-low each p k le) (replicate-low (each * area (rect_of p k)) (index_of p k) (omega arith))

-- where all that is restored is within a bound, so is what was read
pub within-read : (most : ℕ) (block : List Bool) (qs : List ℕ) → AllByRecursion IsIndex qs
    → ((k : ℕ) → k < length qs → unsigned_abs (get_or (dealt block qs) k (pos 0)) ≤ most) → AreWithin most (values (length qs) block)
within-read most block [] low all = tt
within-read most block (q ∷ qs) low all = (
  omega (arith, magnitude_kept (value_at block).0 q low.0, all 0 (omega arith)),
  within-read most (value_at block).1 qs low.1 (λ k lt. all (suc k) (omega arith)),
)

small-read : (block : List Bool) (qs : List ℕ) → AllByRecursion IsIndex qs → are_small (dealt block qs) ≡ true → AllByRecursion IsSmall (values (length qs) block)
small-read block qs low small = within-read (2 ^ 36) block qs low (λ k lt. are_small-at (dealt block qs) k small)

bool_false : (b : Bool) → (b ≡ true → ⊥) → false ≡ b
bool_false true not = absurd (not refl)
bool_false false not = refl

pub huge-dealt : (each : ℕ) (p : Part) (n total : ℕ) (block : List Bool) → p.qindex ≤ 127 → n ≡ length (quantisers_before each p total) → HasHuge n block → false ≡ are_small (dealt block (quantisers_before each p total))
huge-dealt each p n total block le is huge =
    bool_false (are_small (dealt block (quantisers_before each p total)))
    (λ small. huge (subst (λ (k : ℕ). AllByRecursion IsSmall (values k block)) (sym is) (small-read block (quantisers_before each p total) (quantisers-low each p total le) small)))

-- the answer on values that were read is that on what the block deals
pub stay-dealt : (block : List Bool) (qs : List ℕ) (vs : List ℤ) (n : ℕ) (answer : Bool) → n ≡ length qs → values n block ≡ vs
    → StayWithin (2 ^ 36) answer (restored_at vs qs) 0 n → answer ≡ are_small (dealt block qs)
stay-dealt block qs vs n true is read stay =
    sym (are_small-all (dealt block qs)
    (λ k lt. let inside : k < n = omega (arith, lt, is, length-dealt block qs) in
    subst (λ (v : ℤ). unsigned_abs v ≤ 2 ^ 36) (ap (λ (xs : List ℤ). restored_at xs qs k) (sym read) ∙ dealt-at block qs n k is inside) (stay.yes refl k (omega arith) inside)))
stay-dealt block qs vs n false is read stay =
    bool_false (are_small (dealt block qs))
    (λ small. stay.no refl (λ k low inside. subst (λ (v : ℤ). unsigned_abs v ≤ 2 ^ 36) (sym (ap (λ (xs : List ℤ). restored_at xs qs k) (sym read) ∙ dealt-at block qs n k is inside)) (are_small-at (dealt block qs) k small)))

-- ---- in 32 bits

-- a number of those that are within a bound, and the 0 past the last
pub within-at : (most : ℕ) (vs : List ℤ) (k : ℕ) → AreWithin most vs → unsigned_abs (get_or vs k (pos 0)) ≤ most
within-at most [] k all = omega arith
within-at most (v ∷ vs) zero all = all.0
within-at most (v ∷ vs) (suc k) all = within-at most vs k all.1

pub stay-same : (most : ℕ) (answer : Bool) (f g : ℕ → ℤ) (n : ℕ) → ((k : ℕ) → k < n → f k ≡ g k) → StayWithin most answer f 0 n → StayWithin most answer g 0 n
stay-same most answer f g n same stay = record {
  yes = λ e k low lt. subst (λ (v : ℤ). unsigned_abs v ≤ most) (same k lt) (stay.yes e k low lt);
  no = λ e all. stay.no e (λ k low lt. subst (λ (v : ℤ). unsigned_abs v ≤ most) (sym (same k lt)) (all k low lt));
}

-- what is low from a place on is low in a part that begins there
pub low-part : (vs : List ℤ) (from to index : ℕ) → AreLow from vs index → AreLow 0 (take (to - from) (drop from vs)) index
low-part vs from to index low k le = elim (cases_lt k (to - from)) [
  | inl lt ↦ subst (λ (v : ℤ). (unsigned_abs v + 1) * factor_of index ≤ 2 ^ 20)
      (sym (get_or-take (to - from) (drop from vs) k (pos 0) lt ∙ get_or-drop from vs k (pos 0))) (low (from + k) (omega arith))
  | inr past ↦
      let none : get_or (take (to - from) (drop from vs)) k (pos 0) ≡ pos 0 =
      get_or_past (take (to - from) (drop from vs)) k (pos 0) (omega (arith, past, length-take (to - from) (drop from vs))) in
      subst (λ (v : ℤ). (unsigned_abs v + 1) * factor_of index ≤ 2 ^ 20) (sym none) (omega (arith, low_factor _ index (low from (omega arith))))
]

-- what was read is too great where what is dealt is
pub wide-dealt : (most each : ℕ) (p : Part) (n total : ℕ) (block : List Bool) → p.qindex ≤ 127 → n ≡ length (quantisers_before each p total)
    → (AreWithin most (values n block) → ⊥)
    → StayWithin most false (λ k. get_or (dealt block (quantisers_before each p total)) k (pos 0)) 0 n
wide-dealt most each p n total block le is wide =
    let qs = quantisers_before each p total in
    record {
      yes = λ e. absurd cc;
      no = λ e all. wide (subst (λ (m : ℕ). AreWithin most (values m block)) (sym is)
          (within-read most block qs (quantisers-low each p total le) (λ k lt. all k (omega arith) (omega (arith, lt, is)))));
    }
