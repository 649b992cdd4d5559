-- Lists of units that repeat a block of them.
use Rattle.std.proofs.Common.{◌≡◌, ℕ, zero, suc, ◌+◌, ◌-◌, ◌*◌, ◌<◌, ◌≤◌, List, [], ◌∷◌, ◌++◌, append_assoc, arith, ap, sym, refl, ◌∙◌, inl, inr}
use Rattle.std.proofs.Math.Nat.{mul-add, suc-mul, mul_left_comm, mul-le-mul_left}
use Rattle.std.proofs.lemmas.Bool.{cases_lt}
use Rattle.slice_geometry.specs.declared.unit_list.UnitShape.{UnitShape}
use Rattle.slice_geometry.specs.UnitLengths.{IsUnitAllowed, ShapesInTurn, shape_length}
use Rattle.channel_schedule.specs.Slices.{slices_in, shape_pictures, slot_end, pictures_before, slots_to}
use Rattle.channel_schedule.specs.Repeats.{units_repeated, units_placed, length_of, stream_of_units}
use Rattle.channel_schedule.proofs.Units.{end_of-here, end_of-behind, end_of-last, end_of-most, before-here, before-behind, slots-none}
use Rattle.channel_schedule.proofs.Periods.{Part, IsPart, Repeats}

-- ---- sums over the units

abbrev pub pictures_all : List UnitShape → ℕ
pictures_all [] = 0
pictures_all (unit ∷ units) = shape_pictures unit + pictures_all units

abbrev pub AreAllowed : List UnitShape → Type 0
AreAllowed [] = Unit {0}
AreAllowed (unit ∷ units) = IsUnitAllowed unit × AreAllowed units

pub slices-append : (xs ys : List UnitShape) → slices_in (xs ++ ys) ≡ slices_in xs + slices_in ys
slices-append [] ys = omega arith
slices-append (x ∷ xs) ys = omega (arith, slices-append xs ys)

pub length_of-append : (xs ys : List UnitShape) → length_of (xs ++ ys) ≡ length_of xs + length_of ys
length_of-append [] ys = omega arith
length_of-append (x ∷ xs) ys = omega (arith, length_of-append xs ys)

pub pictures-append : (xs ys : List UnitShape) → pictures_all (xs ++ ys) ≡ pictures_all xs + pictures_all ys
pictures-append [] ys = omega arith
pictures-append (x ∷ xs) ys = omega (arith, pictures-append xs ys)

pub allowed-append : (xs ys : List UnitShape) → AreAllowed xs → AreAllowed ys → AreAllowed (xs ++ ys)
allowed-append [] ys first second = second
allowed-append (x ∷ xs) ys first second = (first.0, allowed-append xs ys first.1 second)

pub slices-repeated : (n : ℕ) (units : List UnitShape) → slices_in (units_repeated n units) ≡ n * slices_in units
slices-repeated zero units = omega arith
slices-repeated (suc n) units = omega (arith, slices-append units (units_repeated n units), slices-repeated n units, suc-mul n (slices_in units))

pub length_of-repeated : (n : ℕ) (units : List UnitShape) → length_of (units_repeated n units) ≡ n * length_of units
length_of-repeated zero units = omega arith
length_of-repeated (suc n) units = omega (arith, length_of-append units (units_repeated n units), length_of-repeated n units, suc-mul n (length_of units))

pub pictures-repeated : (n : ℕ) (units : List UnitShape) → pictures_all (units_repeated n units) ≡ n * pictures_all units
pictures-repeated zero units = omega arith
pictures-repeated (suc n) units = omega (arith, pictures-append units (units_repeated n units), pictures-repeated n units, suc-mul n (pictures_all units))

pub allowed-repeated : (n : ℕ) (units : List UnitShape) → AreAllowed units → AreAllowed (units_repeated n units)
allowed-repeated zero units allowed = tt
allowed-repeated (suc n) units allowed = allowed-append units (units_repeated n units) allowed (allowed-repeated n units allowed)

-- ---- units in their places

allowed-at : (unit : UnitShape) (place : ℕ) → IsUnitAllowed unit → IsUnitAllowed (record unit { start = place })
allowed-at unit place allowed = record { some = allowed.some; byte = allowed.byte; count = allowed.count; share = allowed.share }

pub stand_in_turn : (units : List UnitShape) (place total : ℕ) → total ≡ place + length_of units → AreAllowed units → ShapesInTurn place (units_placed place units) total
stand_in_turn [] place total e allowed = omega (arith, e)
stand_in_turn (unit ∷ units) place total e allowed = (refl, allowed-at unit place allowed.0, stand_in_turn units (place + shape_length unit) total (omega (arith, e)) allowed.1)

pub slices-placed : (units : List UnitShape) (place : ℕ) → slices_in (units_placed place units) ≡ slices_in units
slices-placed [] place = refl
slices-placed (unit ∷ units) place = omega (arith, slices-placed units (place + shape_length unit))

-- the pictures before the tail are all
pub before-all : (units : List UnitShape) (place : ℕ) → pictures_before (units_placed place units) (slices_in units) ≡ pictures_all units
before-all [] place = refl
before-all (unit ∷ units) place =
    omega (arith, before-behind (record unit { start = place }) (units_placed (place + shape_length unit) units) (slices_in units), before-all units (place + shape_length unit))

pub before-most : (units : List UnitShape) (place k : ℕ) → pictures_before (units_placed place units) k ≤ pictures_all units
before-most [] place k = omega arith
before-most (unit ∷ units) place k = elim (cases_lt k unit.slices) [
  | inl below ↦ omega (arith, before-here (record unit { start = place }) (units_placed (place + shape_length unit) units) k below)
  | inr from ↦
      let e : unit.slices + (k - unit.slices) ≡ k = omega arith in
      omega (arith, ap (pictures_before (units_placed place (unit ∷ units))) e, before-behind (record unit { start = place }) (units_placed (place + shape_length unit) units) (k - unit.slices), before-most units (place + shape_length unit) (k - unit.slices))
]

-- ---- a block and what stands behind it

pub end-front : (block rest : List UnitShape) (place q total t k : ℕ) → k < slices_in block → slot_end (units_placed (place + q) (block ++ rest)) total k ≡ place + slot_end (units_placed q block) t k
end-front [] rest place q total t k low = absurd (omega arith)
end-front (unit ∷ block) rest place q total t k low = elim (cases_lt k unit.slices) [
  | inl below ↦ omega (arith, end_of-here (record unit { start = place + q }) (units_placed (place + q + shape_length unit) (block ++ rest)) total k below, end_of-here (record unit { start = q }) (units_placed (q + shape_length unit) block) t k below)
  | inr from ↦
      let e : unit.slices + (k - unit.slices) ≡ k = omega arith in
      let next : place + q + shape_length unit ≡ place + (q + shape_length unit) = omega arith in
      omega (
        arith,
        ap (slot_end (units_placed (place + q) (unit ∷ block ++ rest)) total) e,
        ap (slot_end (units_placed q (unit ∷ block)) t) e,
        end_of-behind (record unit { start = place + q }) (units_placed (place + q + shape_length unit) (block ++ rest)) total (k - unit.slices),
        end_of-behind (record unit { start = q }) (units_placed (q + shape_length unit) block) t (k - unit.slices),
        ap (λ (x : ℕ). slot_end (units_placed x (block ++ rest)) total (k - unit.slices)) next,
        end-front block rest place (q + shape_length unit) total t (k - unit.slices) (omega arith),
      )
]

pub end-behind : (block rest : List UnitShape) (place next total k : ℕ) → next ≡ place + length_of block → slot_end (units_placed place (block ++ rest)) total (slices_in block + k) ≡ slot_end (units_placed next rest) total k
end-behind [] rest place next total k e =
    let same : place ≡ next = omega (arith, e) in
    let none : 0 + k ≡ k = omega arith in
    ap (slot_end (units_placed place rest) total) none ∙ ap (λ (x : ℕ). slot_end (units_placed x rest) total k) same
end-behind (unit ∷ block) rest place next total k e =
    let all : unit.slices + slices_in block + k ≡ unit.slices + (slices_in block + k) = omega arith in
    ap (slot_end (units_placed place (unit ∷ block ++ rest)) total) all
    ∙ (end_of-behind (record unit { start = place }) (units_placed (place + shape_length unit) (block ++ rest)) total (slices_in block + k)
    ∙ end-behind block rest (place + shape_length unit) next total k (omega (arith, e)))

pub before-front : (block rest : List UnitShape) (place q k : ℕ) → k < slices_in block → pictures_before (units_placed place (block ++ rest)) k ≡ pictures_before (units_placed q block) k
before-front [] rest place q k low = absurd (omega arith)
before-front (unit ∷ block) rest place q k low = elim (cases_lt k unit.slices) [
  | inl below ↦ omega (arith, before-here (record unit { start = place }) (units_placed (place + shape_length unit) (block ++ rest)) k below, before-here (record unit { start = q }) (units_placed (q + shape_length unit) block) k below)
  | inr from ↦
      let e : unit.slices + (k - unit.slices) ≡ k = omega arith in
      omega (
        arith,
        ap (pictures_before (units_placed place (unit ∷ block ++ rest))) e,
        ap (pictures_before (units_placed q (unit ∷ block))) e,
        before-behind (record unit { start = place }) (units_placed (place + shape_length unit) (block ++ rest)) (k - unit.slices),
        before-behind (record unit { start = q }) (units_placed (q + shape_length unit) block) (k - unit.slices),
        before-front block rest (place + shape_length unit) (q + shape_length unit) (k - unit.slices) (omega arith),
      )
]

pub before-rest : (block rest : List UnitShape) (place next k : ℕ) → next ≡ place + length_of block
    → pictures_before (units_placed place (block ++ rest)) (slices_in block + k) ≡ pictures_all block + pictures_before (units_placed next rest) k
before-rest [] rest place next k e =
    let same : place ≡ next = omega (arith, e) in
    let none : 0 + k ≡ k = omega arith in
    omega (arith, ap (pictures_before (units_placed place rest)) none, ap (λ (x : ℕ). pictures_before (units_placed x rest) k) same)
before-rest (unit ∷ block) rest place next k e =
    let all : unit.slices + slices_in block + k ≡ unit.slices + (slices_in block + k) = omega arith in
    omega (
      arith,
      ap (pictures_before (units_placed place (unit ∷ block ++ rest))) all,
      before-behind (record unit { start = place }) (units_placed (place + shape_length unit) (block ++ rest)) (slices_in block + k),
      before-rest block rest (place + shape_length unit) next k (omega (arith, e)),
    )

-- ---- a block that repeats, before units that come last

apart : (n : ℕ) (block last : List UnitShape) → units_repeated (suc n) block ++ last ≡ block ++ (units_repeated n block ++ last)
apart n block last = append_assoc block (units_repeated n block) last

pub end-repeated : (g n : ℕ) (block last : List UnitShape) (place total t i k : ℕ) → k ≡ g * slices_in block + i → g < n → i < slices_in block
    → slot_end (units_placed place (units_repeated n block ++ last)) total k ≡ place + g * length_of block + slot_end (units_placed 0 block) t i
end-repeated g zero block last place total t i k at low inside = absurd (omega arith)
end-repeated zero (suc n) block last place total t i k at low inside =
    let same : k ≡ i = omega (arith, at) in
    let none : place ≡ place + 0 = omega arith in
    omega (
      arith,
      ap (λ (us : List UnitShape). slot_end (units_placed place us) total k) (apart n block last),
      ap (slot_end (units_placed place (block ++ (units_repeated n block ++ last))) total) same,
      ap (λ (x : ℕ). slot_end (units_placed x (block ++ (units_repeated n block ++ last))) total i) none,
      end-front block (units_repeated n block ++ last) place 0 total t i inside,
    )
end-repeated (suc g) (suc n) block last place total t i k at low inside =
    let same : k ≡ slices_in block + (g * slices_in block + i) = omega (arith, at, suc-mul g (slices_in block)) in
    omega (
      arith,
      ap (λ (us : List UnitShape). slot_end (units_placed place us) total k) (apart n block last),
      ap (slot_end (units_placed place (block ++ (units_repeated n block ++ last))) total) same,
      end-behind block (units_repeated n block ++ last) place (place + length_of block) total (g * slices_in block + i) refl,
      end-repeated g n block last (place + length_of block) total t i (g * slices_in block + i) refl (omega arith) inside,
      suc-mul g (length_of block),
    )

pub before-repeated : (g n : ℕ) (block last : List UnitShape) (place i k : ℕ) → k ≡ g * slices_in block + i → g < n → i < slices_in block
    → pictures_before (units_placed place (units_repeated n block ++ last)) k ≡ g * pictures_all block + pictures_before (units_placed 0 block) i
before-repeated g zero block last place i k at low inside = absurd (omega arith)
before-repeated zero (suc n) block last place i k at low inside =
    let same : k ≡ i = omega (arith, at) in
    omega (
      arith,
      ap (λ (us : List UnitShape). pictures_before (units_placed place us) k) (apart n block last),
      ap (pictures_before (units_placed place (block ++ (units_repeated n block ++ last)))) same,
      before-front block (units_repeated n block ++ last) place 0 i inside,
    )
before-repeated (suc g) (suc n) block last place i k at low inside =
    let same : k ≡ slices_in block + (g * slices_in block + i) = omega (arith, at, suc-mul g (slices_in block)) in
    omega (
      arith,
      ap (λ (us : List UnitShape). pictures_before (units_placed place us) k) (apart n block last),
      ap (pictures_before (units_placed place (block ++ (units_repeated n block ++ last)))) same,
      before-rest block (units_repeated n block ++ last) place (place + length_of block) (g * slices_in block + i) refl,
      before-repeated g n block last (place + length_of block) i (g * slices_in block + i) refl (omega arith) inside,
      suc-mul g (pictures_all block),
    )

-- ---- the stream as one that repeats a part

-- units that have no slices
pub record HaveNone (units : List UnitShape) : Type 0 where
  pub slices : slices_in units ≡ 0
  pub pictures : pictures_all units ≡ 0
  pub allowed : AreAllowed units

-- a block, and the slots that it takes
pub record IsBlock (block : List UnitShape) (idle slices bytes slots : ℕ) : Type 0 where
  pub slices_is : slices ≡ slices_in block
  pub bytes_is : bytes ≡ length_of block
  pub slots_is : slots ≡ slices + idle * pictures_all block
  pub some_slices : 1 ≤ slices
  pub some_bytes : 1 ≤ bytes
  pub allowed : AreAllowed block

module _ (first block last : List UnitShape) (idle slices bytes slots : ℕ) (f : HaveNone first) (l : HaveNone last) (b : IsBlock block idle slices bytes slots) where
  abbrev pub part : Part
  part = record {
    slices = slices;
    bytes = bytes;
    slots = slots;
    before = length_of first;
    behind = length_of last;
    end = λ i. slot_end (units_placed 0 block) (length_of block) i;
    slot = λ i. slots_to idle (units_placed 0 block) i;
  }

  pub is_part : IsPart part
  is_part = record {
    some_slices = b.some_slices;
    some_bytes = b.some_bytes;
    some_slots = omega (arith, b.slots_is, b.some_slices);
    inside = λ i low. omega (arith, b.bytes_is, end_of-most (units_placed 0 block) 0 (length_of block) i (stand_in_turn block 0 (length_of block) (omega arith) b.allowed));
    first = sym (slots-none idle (units_placed 0 block));
    early = λ i low.
        let more : idle * pictures_before (units_placed 0 block) i ≤ idle * pictures_all block = mul-le-mul_left idle (before-most block 0 i) in
        omega (arith, more, b.slots_is);
  }

  abbrev units_of : ℕ → List UnitShape
  units_of n = first ++ (units_repeated n block ++ last)

  pub in_turn : (n : ℕ) → ShapesInTurn 0 (stream_of_units (units_of n)).units (stream_of_units (units_of n)).total
  in_turn n = stand_in_turn (units_of n) 0 (length_of (units_of n)) (omega arith)
      (allowed-append first (units_repeated n block ++ last) f.allowed (allowed-append (units_repeated n block) last (allowed-repeated n block b.allowed) l.allowed))

  length_is : (n : ℕ) → length_of (units_of n) ≡ length_of first + n * bytes + length_of last
  length_is n = omega (arith, length_of-append first (units_repeated n block ++ last), length_of-append (units_repeated n block) last, length_of-repeated n block, ap (λ (x : ℕ). n * x) b.bytes_is)

  slices_are : (n : ℕ) → slices_in (units_of n) ≡ n * slices
  slices_are n = omega (arith, slices-append first (units_repeated n block ++ last), slices-append (units_repeated n block) last, slices-repeated n block, ap (λ (x : ℕ). n * x) b.slices_is, f.slices, l.slices)

  pictures_are : (n : ℕ) → pictures_all (units_of n) ≡ n * pictures_all block
  pictures_are n = omega (arith, pictures-append first (units_repeated n block ++ last), pictures-append (units_repeated n block) last, pictures-repeated n block, f.pictures, l.pictures)

  slots_are : (g : ℕ) → g * slots ≡ g * slices + idle * (g * pictures_all block)
  slots_are g = omega (arith, ap (λ (x : ℕ). g * x) b.slots_is, mul-add g slices (idle * pictures_all block), mul_left_comm g idle (pictures_all block))

  at-block : (g i k : ℕ) → k ≡ g * slices + i → k ≡ slices_in first + (g * slices_in block + i)
  at-block g i k at = omega (arith, at, f.slices, ap (λ (x : ℕ). g * x) b.slices_is)

  pub repeats : (n : ℕ) → Repeats part (stream_of_units (units_of n)) idle n
  repeats n = record {
    total = length_is n;
    count = omega (arith, slices-placed (units_of n) 0, slices_are n);
    ends = λ g i k at low inside.
        let inner : i < slices_in block = omega (arith, b.slices_is) in
        omega (
          arith,
          ap (slot_end (units_placed 0 (units_of n)) (length_of (units_of n))) (at-block g i k at),
          end-behind first (units_repeated n block ++ last) 0 (length_of first) (length_of (units_of n)) (g * slices_in block + i) (omega arith),
          end-repeated g n block last (length_of first) (length_of (units_of n)) (length_of block) i (g * slices_in block + i) refl low inner,
          ap (λ (x : ℕ). g * x) b.bytes_is,
        );
    last =
        let all : n * slices ≡ slices_in (units_placed 0 (units_of n)) = omega (arith, slices-placed (units_of n) 0, slices_are n) in
        ap (slot_end (units_placed 0 (units_of n)) (length_of (units_of n))) all ∙ end_of-last (units_placed 0 (units_of n)) (length_of (units_of n));
    slots = λ g i k at low inside.
        let inner : i < slices_in block = omega (arith, b.slices_is) in
        let pictures : pictures_before (units_placed 0 (units_of n)) k ≡ g * pictures_all block + pictures_before (units_placed 0 block) i =
        omega (
          arith,
          ap (pictures_before (units_placed 0 (units_of n))) (at-block g i k at),
          before-rest first (units_repeated n block ++ last) 0 (length_of first) (g * slices_in block + i) (omega arith),
          before-repeated g n block last (length_of first) i (g * slices_in block + i) refl low inner,
          f.pictures,
        ) in
        omega (arith, at, ap (λ (x : ℕ). idle * x) pictures, mul-add idle (g * pictures_all block) (pictures_before (units_placed 0 block) i), slots_are g);
    last_slot =
        let pictures : pictures_before (units_placed 0 (units_of n)) (n * slices) ≡ n * pictures_all block =
        omega (arith, ap (pictures_before (units_placed 0 (units_of n))) (slices_are n), before-all (units_of n) 0, pictures_are n) in
        omega (arith, ap (λ (x : ℕ). idle * x) pictures, slots_are n);
  }
