use Rattle.std.proofs.Common.{◌≡◌, ℕ, ◌+◌, ◌*◌, ◌^◌, ◌<◌, ◌≤◌, length, get_or, pos, unsigned_abs, refl, sym, ap, ◌∙◌, inl, inr, arith}
use Rattle.slice_geometry.specs.SliceOrder.{place_count}
use Rattle.slice_geometry.specs.declared.Size.{Size}
use Rattle.slice_geometry.specs.Slicing.{Slicing}
use Rattle.slice_decoder.specs.Levels.{places_in}
use Rattle.slice_decoder.proofs.LevelLemmas.{count_few, places_all}
use Rattle.std.proofs.Math.Nat.{mul-le-mul_right}
use Rattle.std.proofs.lemmas.Bool.{cases_lt}
use Rattle.std.proofs.lemmas.Grind.{common_steps}
use Rattle.quant_factors.specs.Factors.{inverse_of}
use Rattle.quant_factors.proofs.Quantisers.{index_here}
use Rattle.slice_decoder.specs.Jobs.{part_in}
use Rattle.slice_decoder.specs.Components.{Part, index_of, quantisers_before}
use Rattle.slice_decoder.specs.Restored.{restored_at}
use Rattle.slice_decoder.proofs.Restores.{BandMeets, band-meets, part-not, part-more, all-stay}
use Rattle.slice_decoder.proofs.restoring.restore_block.Goals as goal

none : (n : ℕ) → 0 ≡ n * 0
none n = omega arith

pub loop-k-init : goal.loop-k-init
unfolding places_in
loop-k-init c = record {
  from = none c.args.each;
  length = refl;
  small = λ k low lt. absurd (omega arith);
  done = λ j lt. absurd (omega arith);
  rest = λ j le. refl;
}

pub overflow_add-to : goal.overflow_add-to
overflow_add-to c =
    let part : Part = part_in c.args.job in
    let l = c.loop-k in
    let index_is : c.quantiser-index.result ≡ index_of part l.k =
    index_here part.matrix part.qindex c.band_numbered-level.result.0 _ c.band_numbered-level.result.1 _ _ c.quantiser-index.result
    c.band_numbered-level.ensures.level c.band_numbered-level.ensures.orient c.orient_numbered.ensures c.quantiser-index.ensures in
    let meets : BandMeets c.args.each part l.k l.from c.area_of.result c.quantiser-index.result (length c.args.values.now) =
    band-meets c.args.each part c.args.job.rects.now l.k c.band_numbered-level.result.0 l.from c.area_of.result c.quantiser-index.result
    (length c.args.values.now) c.requires.job.rects (omega (arith, c.loop-k-test.true, c.depth.ensures.value)) c.band_numbered-level.ensures.level
    c.area_of.ensures.area index_is l.invariant.from c.requires.count in
    let s = c.args.job.layout.now in
    let count : ℕ = place_count s c.args.job.size c.args.job.place.sx c.args.job.place.sy in
    let most : c.args.each * count ≤ 2 * count = mul-le-mul_right count c.requires.few in
    omega (arith, meets.room, c.requires.count, most, count_few s c.args.job.size c.args.job.place.sx c.args.job.place.sy c.args.job.rects.now c.requires.job.rects)

pub restore_part-requires-clause-inside : goal.restore_part-requires-clause-inside
restore_part-requires-clause-inside c =
    let part : Part = part_in c.args.job in
    let l = c.loop-k in
    let index_is : c.quantiser-index.result ≡ index_of part l.k =
    index_here part.matrix part.qindex c.band_numbered-level.result.0 _ c.band_numbered-level.result.1 _ _ c.quantiser-index.result
    c.band_numbered-level.ensures.level c.band_numbered-level.ensures.orient c.orient_numbered.ensures c.quantiser-index.ensures in
    let meets : BandMeets c.args.each part l.k l.from c.area_of.result c.quantiser-index.result (length c.args.values.now) =
    band-meets c.args.each part c.args.job.rects.now l.k c.band_numbered-level.result.0 l.from c.area_of.result c.quantiser-index.result
    (length c.args.values.now) c.requires.job.rects (omega (arith, c.loop-k-test.true, c.depth.ensures.value)) c.band_numbered-level.ensures.level
    c.area_of.ensures.area index_is l.invariant.from c.requires.count in
    omega (arith, meets.room, l.invariant.length)

pub restore_part-requires-clause-small : goal.restore_part-requires-clause-small
restore_part-requires-clause-small c k low = omega (arith, ap unsigned_abs (c.loop-k.invariant.rest k low), c.requires.small k)

pub returns-then-not-restore_part-clause-small : goal.returns-then-not-restore_part-clause-small
returns-then-not-restore_part-clause-small c =
    let part : Part = part_in c.args.job in
    let l = c.loop-k in
    let index_is : c.quantiser-index.result ≡ index_of part l.k =
    index_here part.matrix part.qindex c.band_numbered-level.result.0 _ c.band_numbered-level.result.1 _ _ c.quantiser-index.result
    c.band_numbered-level.ensures.level c.band_numbered-level.ensures.orient c.orient_numbered.ensures c.quantiser-index.ensures in
    let meets : BandMeets c.args.each part l.k l.from c.area_of.result c.quantiser-index.result (length c.args.values.now) =
    band-meets c.args.each part c.args.job.rects.now l.k c.band_numbered-level.result.0 l.from c.area_of.result c.quantiser-index.result
    (length c.args.values.now) c.requires.job.rects (omega (arith, c.loop-k-test.true, c.depth.ensures.value)) c.band_numbered-level.ensures.level
    c.area_of.ensures.area index_is l.invariant.from c.requires.count in
    let values = c.args.values.now in
    let to : ℕ = l.from + c.args.each * c.area_of.result in
    part-not (2 ^ 36) (restored_at values (quantisers_before c.args.each part (3 * c.args.job.layout.now.depth + 1)))
    (λ j. inverse_of (get_or l.values j (pos 0)) c.quantiser-index.result) l.from to (length values) c.restore_part.result c.if-not-restore_part.true
    meets.room (λ j low lt. meets.same values l.values j low lt (l.invariant.rest j low)) c.restore_part.ensures.small

pub loop-k-preserved : goal.loop-k-preserved
loop-k-preserved c =
    let part : Part = part_in c.args.job in
    let l = c.loop-k in
    let index_is : c.quantiser-index.result ≡ index_of part l.k =
    index_here part.matrix part.qindex c.band_numbered-level.result.0 _ c.band_numbered-level.result.1 _ _ c.quantiser-index.result
    c.band_numbered-level.ensures.level c.band_numbered-level.ensures.orient c.orient_numbered.ensures c.quantiser-index.ensures in
    let meets : BandMeets c.args.each part l.k l.from c.area_of.result c.quantiser-index.result (length c.args.values.now) =
    band-meets c.args.each part c.args.job.rects.now l.k c.band_numbered-level.result.0 l.from c.area_of.result c.quantiser-index.result
    (length c.args.values.now) c.requires.job.rects (omega (arith, c.loop-k-test.true, c.depth.ensures.value)) c.band_numbered-level.ensures.level
    c.area_of.ensures.area index_is l.invariant.from c.requires.count in
    let values = c.args.values.now in
    let i = l.invariant in
    let to : ℕ = l.from + c.args.each * c.area_of.result in
    let good = c.if-not-restore_part.false in
    let same = λ (j : ℕ) (low : l.from ≤ j) (lt : j < to). meets.same values l.values j low lt (i.rest j low) in
    record {
      from = meets.next;
      length = c.restore_part.auto.values ∙ i.length;
      small = part-more (2 ^ 36) (restored_at values (quantisers_before c.args.each part (3 * c.args.job.layout.now.depth + 1)))
          (λ j. inverse_of (get_or l.values j (pos 0)) c.quantiser-index.result) l.from to c.restore_part.result good same i.small c.restore_part.ensures.small;
      done = λ j lt. elim (cases_lt j l.from) [
        | inl old ↦ c.restore_part.ensures.outside j (inl old) ∙ i.done j old
        | inr new ↦ c.restore_part.ensures.inside good j new lt ∙ same j new lt
      ];
      rest = λ j le. c.restore_part.ensures.outside j (inr le) ∙ i.rest j (omega arith);
    }

all_places : (each : ℕ) (s : Slicing) (size : Size) (sx sy k from n : ℕ) → from ≡ each * places_in s size sx sy k → k ≡ 3 * s.depth + 1
    → n ≡ each * place_count s size sx sy → n ≡ from
all_places each s size sx sy k from n from_is k_is n_is =
    n_is ∙ ap (λ m. each * m) (sym (places_all s size sx sy)) ∙ ap (λ k. each * places_in s size sx sy k) (sym k_is) ∙ sym from_is

pub returns-clause-small : goal.returns-clause-small
returns-clause-small c =
    let part : Part = part_in c.args.job in
    let l = c.loop-k in
    let n = length c.args.values.now in
    let whole : length c.args.values.now ≡ l.from = all_places c.args.each c.args.job.layout.now c.args.job.size c.args.job.place.sx c.args.job.place.sy l.k l.from (length c.args.values.now) l.invariant.from (omega (arith, c.loop-k-test.false, c.loop-k.auto.k-end, c.depth.ensures.value)) c.requires.count in
    all-stay (2 ^ 36) (restored_at c.args.values.now (quantisers_before c.args.each part (3 * c.args.job.layout.now.depth + 1))) 0 (length c.args.values.now)
    (λ k low lt. l.invariant.small k low (omega (arith, lt, whole)))

pub returns-clause-values : goal.returns-clause-values
returns-clause-values c good k lt =
    let l = c.loop-k in
    let whole : length c.args.values.now ≡ l.from = all_places c.args.each c.args.job.layout.now c.args.job.size c.args.job.place.sx c.args.job.place.sy l.k l.from (length c.args.values.now) l.invariant.from (omega (arith, c.loop-k-test.false, c.loop-k.auto.k-end, c.depth.ensures.value)) c.requires.count in
    l.invariant.done k (omega (arith, lt, whole))

pub area_of-requires : goal.area_of-requires
area_of-requires c = grind (arith, common_steps)
