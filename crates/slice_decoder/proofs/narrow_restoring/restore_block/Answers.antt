use Rattle.std.proofs.Common.{◌≡◌, ℕ, ◌+◌, ◌*◌, ◌^◌, ◌<◌, ◌≤◌, length, refl, sym, ap, ◌∙◌, arith}
use Rattle.std.proofs.Math.Nat.{mul-le-mul_right}
use Rattle.std.proofs.lemmas.Grind.{common_steps}
use Rattle.slice_geometry.specs.SliceOrder.{place_count}
use Rattle.slice_geometry.specs.declared.Size.{Size}
use Rattle.slice_geometry.specs.Slicing.{Slicing}
use Rattle.slice_decoder.specs.Levels.{places_in}
use Rattle.slice_decoder.specs.Jobs.{part_in}
use Rattle.slice_decoder.specs.Components.{Part, quantisers_before}
use Rattle.slice_decoder.specs.Restored.{restored_at}
use Rattle.slice_decoder.specs.RestoredBands.{IsBand, AreBands}
use Rattle.slice_decoder.proofs.LevelLemmas.{count_few, places_all}
use Rattle.slice_decoder.proofs.Restores.{all-stay}
use Rattle.slice_decoder.proofs.RestoredBands.{is-band, are-bands, band_room, bands_room, none-restored, restored-at}
use Rattle.slice_decoder.proofs.narrow_restoring.restore_block.Goals as goal

pub restore_band-requires-clause-inside : goal.restore_band-requires-clause-inside
restore_band-requires-clause-inside c =
    let part : Part = part_in c.args.job in
    let first : IsBand part.matrix part.qindex c.args.each part 0 (c.args.each * c.area_of.result) =
    is-band c.args.each part c.args.job.rects.now 0 0 c.area_of.result c.requires.job.rects c.requires.job.entries (omega arith) (omega arith) c.area_of.ensures.area in
    let room = band_room part.matrix part.qindex c.args.each part 0 0 (c.args.each * c.area_of.result) (length c.args.values.now) first (omega arith)
    (none-restored (2 ^ 18) c.args.each part c.args.values.now).from_is c.requires.count in
    room.0

pub returns-then-not-restore_band-clause-within : goal.returns-then-not-restore_band-clause-within
returns-then-not-restore_band-clause-within c =
    let part : Part = part_in c.args.job in
    let first : IsBand part.matrix part.qindex c.args.each part 0 (c.args.each * c.area_of.result) =
    is-band c.args.each part c.args.job.rects.now 0 0 c.area_of.result c.requires.job.rects c.requires.job.entries (omega arith) (omega arith) c.area_of.ensures.area in
    c.restore_band.ensures.stopped c.if-not-restore_band.true c.args.each part c.args.values.now first (none-restored (2 ^ 18) c.args.each part c.args.values.now)

pub loop-level-init : goal.loop-level-init
loop-level-init c =
    let part : Part = part_in c.args.job in
    let first : IsBand part.matrix part.qindex c.args.each part 0 (c.args.each * c.area_of.result) =
    is-band c.args.each part c.args.job.rects.now 0 0 c.area_of.result c.requires.job.rects c.requires.job.entries (omega arith) (omega arith) c.area_of.ensures.area in
    let count : ℕ = c.args.each * c.area_of.result in
    let one : 0 + 1 ≡ 1 = omega arith in
    let from : 0 + count ≡ count = omega arith in
    record {
      held = restored-at (2 ^ 18) c.args.each part (0 + 1) 1 (0 + count) count c.args.values.now c.restore_band.new.values one from
          (c.restore_band.ensures.more c.if-not-restore_band.false c.args.each part c.args.values.now first (none-restored (2 ^ 18) c.args.each part c.args.values.now));
    }

pub restore_level-requires-clause-inside : goal.restore_level-requires-clause-inside
restore_level-requires-clause-inside c =
    let part : Part = part_in c.args.job in
    let l = c.loop-level in
    let n = c.area_of-in-loop-level.result in
    let lt : l.level < c.args.job.layout.now.depth = omega (arith, c.loop-level-test.true, l.auto.level-end, c.depth-level-end.ensures.value) in
    let are : AreBands part.matrix part.qindex c.args.each part (3 * l.level + 1) (c.args.each * n) =
    are-bands c.args.each part c.args.job.rects.now l.level n c.requires.job.rects c.requires.job.entries lt c.area_of-in-loop-level.ensures.area in
    let held = l.invariant.held in
    omega (
      arith,
      bands_room part.matrix part.qindex c.args.each part (3 * l.level + 1) l.from (c.args.each * n) (length c.args.values.now) are (omega (arith, lt)) held.from_is c.requires.count,
      held.same_length,
    )

-- these two are found by search too, in half a minute
pub restore_level-requires-clause-narrow : goal.restore_level-requires-clause-narrow
restore_level-requires-clause-narrow c = grind (arith, common_steps)

pub overflow_mul-from-in-loop-level : goal.overflow_mul-from-in-loop-level
overflow_mul-from-in-loop-level c =
    let n = c.area_of-in-loop-level.result in
    let most : c.args.each * n ≤ 2 * n = mul-le-mul_right n c.requires.few in
    omega (arith, most, c.area_of-in-loop-level.ensures.few)

pub returns-then-not-restore_level-clause-within : goal.returns-then-not-restore_level-clause-within
returns-then-not-restore_level-clause-within c =
    let part : Part = part_in c.args.job in
    let l = c.loop-level in
    let n = c.area_of-in-loop-level.result in
    let lt : l.level < c.args.job.layout.now.depth = omega (arith, c.loop-level-test.true, l.auto.level-end, c.depth-level-end.ensures.value) in
    let are : AreBands part.matrix part.qindex c.args.each part (3 * l.level + 1) (c.args.each * n) =
    are-bands c.args.each part c.args.job.rects.now l.level n c.requires.job.rects c.requires.job.entries lt c.area_of-in-loop-level.ensures.area in
    c.restore_level.ensures.stopped c.if-not-restore_level.true c.args.each part c.args.values.now are l.invariant.held

pub overflow_add-from : goal.overflow_add-from
overflow_add-from c =
    let part : Part = part_in c.args.job in
    let l = c.loop-level in
    let n = c.area_of-in-loop-level.result in
    let lt : l.level < c.args.job.layout.now.depth = omega (arith, c.loop-level-test.true, l.auto.level-end, c.depth-level-end.ensures.value) in
    let are : AreBands part.matrix part.qindex c.args.each part (3 * l.level + 1) (c.args.each * n) =
    are-bands c.args.each part c.args.job.rects.now l.level n c.requires.job.rects c.requires.job.entries lt c.area_of-in-loop-level.ensures.area in
    let s = c.args.job.layout.now in
    let count : ℕ = place_count s c.args.job.size c.args.job.place.sx c.args.job.place.sy in
    let most : c.args.each * count ≤ 2 * count = mul-le-mul_right count c.requires.few in
    omega (
      arith,
      bands_room part.matrix part.qindex c.args.each part (3 * l.level + 1) l.from (c.args.each * n) (length c.args.values.now) are (omega (arith, lt)) l.invariant.held.from_is c.requires.count,
      c.requires.count,
      most,
      count_few s c.args.job.size c.args.job.place.sx c.args.job.place.sy c.args.job.rects.now c.requires.job.rects,
    )

pub loop-level-preserved : goal.loop-level-preserved
loop-level-preserved c =
    let part : Part = part_in c.args.job in
    let l = c.loop-level in
    let n = c.area_of-in-loop-level.result in
    let lt : l.level < c.args.job.layout.now.depth = omega (arith, c.loop-level-test.true, l.auto.level-end, c.depth-level-end.ensures.value) in
    let are : AreBands part.matrix part.qindex c.args.each part (3 * l.level + 1) (c.args.each * n) =
    are-bands c.args.each part c.args.job.rects.now l.level n c.requires.job.rects c.requires.job.entries lt c.area_of-in-loop-level.ensures.area in
    let next : 3 * l.level + 1 + 3 ≡ 3 * (l.level + 1) + 1 = omega arith in
    let from : ℕ = l.from + 3 * (c.args.each * n) in
    record {
      held = restored-at (2 ^ 18) c.args.each part (3 * l.level + 1 + 3) (3 * (l.level + 1) + 1) from from c.args.values.now c.restore_level.new.values next refl
          (c.restore_level.ensures.more c.if-not-restore_level.false c.args.each part c.args.values.now are l.invariant.held);
    }

all_places : (each : ℕ) (s : Slicing) (size : Size) (sx sy k from n : ℕ) → from ≡ each * places_in s size sx sy k → k ≡ 3 * s.depth + 1
    → n ≡ each * place_count s size sx sy → n ≡ from
all_places each s size sx sy k from n from_is k_is n_is =
    n_is ∙ ap (λ m. each * m) (sym (places_all s size sx sy)) ∙ ap (λ k. each * places_in s size sx sy k) (sym k_is) ∙ sym from_is

pub returns-clause-within : goal.returns-clause-within
returns-clause-within c =
    let part : Part = part_in c.args.job in
    let l = c.loop-level in
    let whole : length c.args.values.now ≡ l.from = all_places c.args.each c.args.job.layout.now c.args.job.size c.args.job.place.sx c.args.job.place.sy (3 * l.level + 1) l.from
    (length c.args.values.now) l.invariant.held.from_is (omega (arith, c.loop-level-test.false, l.auto.level-end, c.depth-level-end.ensures.value)) c.requires.count in
    all-stay (2 ^ 18) (restored_at c.args.values.now (quantisers_before c.args.each part (3 * c.args.job.layout.now.depth + 1))) 0 (length c.args.values.now)
    (λ k low lt. l.invariant.held.within k low (omega (arith, lt, whole)))

pub returns-clause-values : goal.returns-clause-values
returns-clause-values c good k lt =
    let l = c.loop-level in
    let whole : length c.args.values.now ≡ l.from = all_places c.args.each c.args.job.layout.now c.args.job.size c.args.job.place.sx c.args.job.place.sy (3 * l.level + 1) l.from
    (length c.args.values.now) l.invariant.held.from_is (omega (arith, c.loop-level-test.false, l.auto.level-end, c.depth-level-end.ensures.value)) c.requires.count in
    l.invariant.held.done k (omega (arith, lt, whole))

pub area_of-requires-in-loop-level : goal.area_of-requires-in-loop-level
area_of-requires-in-loop-level c = grind (arith, common_steps)

pub restore_level-requires-clause-low : goal.restore_level-requires-clause-low
restore_level-requires-clause-low c = grind (arith, common_steps)
