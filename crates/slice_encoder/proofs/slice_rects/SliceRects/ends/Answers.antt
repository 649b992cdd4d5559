use Rattle.std.proofs.Common.{rules, ◌≡◌, ◌∙◌, refl, ℕ, ◌+◌, ◌-◌, ◌*◌, ◌<◌, ◌≤◌, [], length, ap, arith}
use Rattle.std.proofs.lemmas.List.{length-set}
use Rattle.planes.specs.Subbands.{BandStack}
use Rattle.slice_geometry.specs.SliceOrder.{level_rect, area, level_of}
use Rattle.slice_encoder.specs.Gathering.{raw_before}
use Rattle.slice_encoder.proofs.SliceTables.{across_rises, down_rises, next_end, end_within, ends_more}
use Rattle.slice_encoder.proofs.slice_rects.SliceRects.ends.Goals as goal

none : BandStack
none = record { depth = 0; bands = [] }

pub count_places-area-requires-clause-across : goal.count_places-area-requires-clause-across
count_places-area-requires-clause-across c = across_rises c.args.self.now.slicing c.args.self.now.size c.args.sx c.args.sy 0 0 c.rect.result refl c.rect.ensures c.requires.across

pub count_places-area-requires-clause-down : goal.count_places-area-requires-clause-down
count_places-area-requires-clause-down c = down_rises c.args.self.now.slicing c.args.self.now.size c.args.sx c.args.sy 0 0 c.rect.result refl c.rect.ensures c.requires.down

pub count_places-area-requires-clause-few : goal.count_places-area-requires-clause-few
count_places-area-requires-clause-few c =
    let within = end_within c.args.self.now.slicing c.args.self.now.size c.args.sx c.args.sy 0 0 c.rect.result refl c.rect.ensures none (omega arith) in
    omega (arith, within, c.requires.few)

pub overflow_add-place : goal.overflow_add-place
overflow_add-place c =
    let s = c.args.self.now.slicing in
    let size = c.args.self.now.size in
    let k = c.loop-k.k in
    let lt : k < 3 * s.depth + 1 = omega (arith, c.loop-k-test.true, c.depth.ensures.value) in
    let within = end_within s size c.args.sx c.args.sy k (level_of k) (level_rect s size c.args.sx c.args.sy (level_of k)) refl refl none lt in
    let room : c.loop-k.place + c.next_area-area.result ≤ 2147483648 = omega (arith, within, c.loop-k.invariant.place none, c.next_area-area.ensures, c.requires.few) in
    search (rules, room)

pub loop-k-preserved : goal.loop-k-preserved
loop-k-preserved c =
    let a = c.args in
    let l = c.loop-k in
    let s = a.self.now.slicing in
    let size = a.self.now.size in
    let rect = level_rect s size a.sx a.sy (level_of l.k) in
    let v : ℕ = l.place + c.next_area-area.result in
    let few : l.k < 13 = omega (arith, c.loop-k-test.true, c.depth.ensures.value, c.depth.ensures.most) in
    let end : (bands : BandStack) → v ≡ length (raw_before s size bands a.sx a.sy (l.k + 1)) = λ bands. omega (arith, next_end s size a.sx a.sy l.k (level_of l.k) rect refl refl bands, l.invariant.place bands, c.next_area-area.ensures) in
    let back : l.k ≡ l.k + 1 - 1 = omega arith in
    record {
      area = c.next_area-area.ensures ∙ ap (λ (n : ℕ). area (level_rect s size a.sx a.sy (level_of n))) back;
      place = end;
      count = length-set l.ends l.k v ∙ l.invariant.count;
      ends = λ bands. ends_more s size a.sx a.sy l.k (level_of l.k) rect refl refl l.ends v bands l.invariant.count few (end bands) (l.invariant.ends bands);
    }
