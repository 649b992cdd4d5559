use Rattle.std.proofs.Common.{◌≡◌, ◌∙◌, ◌+◌, ◌*◌, ℕ, suc, ap, arith}
use Rattle.std.proofs.lemmas.Grind.{common_steps}
use Rattle.planes.specs.declared.Rect.{Rect}
use Rattle.slice_geometry.specs.declared.Size.{Size}
use Rattle.slice_geometry.specs.Slicing.{Slicing}
use Rattle.slice_geometry.specs.SliceOrder.{area, level_rect, places_to}
use Rattle.slice_decoder.proofs.levels.count_places.Goals as goal

-- the places of one more level
one_more : (s : Slicing) (size : Size) (sx sy level count here : ℕ) → count ≡ places_to s size sx sy level → here ≡ area (level_rect s size sx sy (level + 1)) → count + 3 * here ≡ places_to s size sx sy (level + 1)
one_more s size sx sy level count here is here_is =
    let more : level + 1 ≡ suc level = omega arith in
    rw more (ap (λ (k : ℕ). k + 3 * here) is ∙ ap (λ (k : ℕ). places_to s size sx sy level + 3 * k) (rw more at here_is))

pub loop-level-init : goal.loop-level-init
loop-level-init c = grind (arith, common_steps)

pub area_of-requires : goal.area_of-requires
area_of-requires c = grind (arith, common_steps)

pub loop-level-preserved : goal.loop-level-preserved
loop-level-preserved c =
    let j = c.args.job in
    let l = c.loop-level in
    let here = c.area_of.ensures.area ∙ ap (λ (r : Rect). area r) (c.requires.same (l.level + 1) (omega (arith, c.loop-level-test.true, c.depth-level-end.ensures.value))) in
    record {
      count = one_more j.layout.now j.size j.place.sx j.place.sy l.level l.count c.area_of.result l.invariant.count here;
      few = omega (arith, l.invariant.few, c.area_of.ensures.few);
    }
