use Rattle.std.proofs.Common.{◌≡◌, ◌∙◌, sym, ap, subst, ◌<◌, ◌+◌, ◌-◌, ◌*◌, ◌^◌, length, set, arith, to_z, of_z, w64}
use Rattle.std.proofs.lemmas.Int.{to_z-of_z}
use Rattle.planes.specs.Numbers.{Within}
use Rattle.planes.specs.Raster.{Raster, height, at, with_place}
use Rattle.planes.specs.Rect.{IsInRect}
use Rattle.dc_prediction.specs.Prediction.{prediction}
use Rattle.dc_prediction.proofs.PredictionLemmas.{fits}
use Rattle.slice_geometry.specs.SliceOrder.{number_in}
use Rattle.slice_encoder.specs.Loop.{residual_of, restored_value}
use Rattle.slice_encoder.specs.RectTrials.{grid_in}
use Rattle.slice_encoder.proofs.Near.{number_read}
use Rattle.slice_encoder.proofs.RectSoFar.{TriedSoFar, ListedSoFar}
use Rattle.slice_encoder.proofs.PlaceByPlace.{looked_small, tried_next}
use Rattle.slice_encoder.proofs.RectLists.{number_turned, row_end, stepped, slot_inside, step_inside, listed_next, tried_row, listed_row}
use Rattle.slice_encoder.proofs.rect_trials.try_rect.Goals as goal

pub try_place-requires-clause-looked : goal.try_place-requires-clause-looked
try_place-requires-clause-looked c =
    let here : IsInRect c.args.rect c.loop-y.y c.loop-x.x = record { left = omega arith; right = c.loop-x-test.true; top = omega arith; bottom = c.loop-y-test.true } in
    looked_small c.args.rect (grid_in c.args.rect c.args.coefficients.now) c.args.kept.now c.loop-x.kept c.args.index c.loop-y.y c.loop-x.x c.requires.can c.loop-x.invariant.tried here

pub loop-x-preserved : goal.loop-x-preserved
loop-x-preserved c =
    let a = c.args in
    let r = a.rect in
    let y = c.loop-y.y in
    let l = c.loop-x in
    let g = grid_in r a.coefficients.now in
    let here : IsInRect r y l.x = record { left = omega arith; right = c.loop-x-test.true; top = omega arith; bottom = c.loop-y-test.true } in
    let lt : y < height l.kept = omega (arith, l.invariant.tried.same_height, c.requires.can.y_inside) in
    let p = prediction (at l.kept) y l.x in
    let v = restored_value (to_z w64 (of_z w64 c.from.result)) a.index p in
    let g_is : to_z w64 (of_z w64 c.from.result) ≡ g y l.x =
    ap (λ t. to_z w64 (of_z w64 t)) (c.from.ensures ∙ number_read a.coefficients.now l.number (number_in r y l.x) l.invariant.number (c.requires.can.small y l.x here)) ∙ fits (2 ^ 27) (g y l.x) (omega arith) (c.requires.can.small y l.x here) in
    let v_is : v ≡ restored_value (g y l.x) a.index p = ap (λ t. restored_value t a.index p) g_is in
    let u = to_z w64 (of_z w64 c.try_place.result) in
    let u_is : u ≡ residual_of (g y l.x) a.index p =
    to_z-of_z w64 c.try_place.result (record { sfits = c.try_place.type_inv }) ∙ c.try_place.ensures.value ∙ ap (λ t. residual_of t a.index p) g_is in
    let written : at (with_place l.kept y l.x v) y l.x ≡ v = subst (λ (p : Raster _). at p y l.x ≡ v) c.try_place.ensures.whole c.try_place.ensures.here in
    let small : Within (3 * 2 ^ 27 + 2) v = subst (λ t. Within (3 * 2 ^ 27 + 2) t) c.try_place.ensures.here c.try_place.ensures.near in
    let room : l.place < length l.out =
    slot_inside r a.from a.step y l.x l.place (length l.out) here c.requires.from (omega (arith, c.requires.room, l.invariant.listed.same_length)) l.invariant.place in
    record {
      none = λ le. omega arith;
      number = omega (arith, l.invariant.number, here.left);
      place = omega (arith, l.invariant.place, stepped a.from a.step r y l.x here.left);
      tried = subst (λ (p : Raster _). TriedSoFar g a.index r y (l.x + 1) a.kept.now p) (sym c.try_place.ensures.whole) (tried_next g a.index r y l.x a.kept.now l.kept v l.invariant.tried here lt v_is small written);
      listed =
          subst (λ (p : Raster _). ListedSoFar g a.index r y (l.x + 1) p a.from a.step a.out.now (set l.out l.place u)) (sym c.try_place.ensures.whole)
          (listed_next g a.index r a.from a.step y l.x l.place l.kept v u a.out.now l.out l.invariant.listed here lt c.requires.from l.invariant.place room u_is);
    }

pub loop-y-preserved : goal.loop-y-preserved
loop-y-preserved c =
    let a = c.args in
    let r = a.rect in
    let y = c.loop-y.y in
    let l = c.loop-x in
    let g = grid_in r a.coefficients.now in
    let end : l.x - r.x0 ≡ r.x1 - r.x0 = row_end r l.x l.auto.x-end l.invariant.none (omega arith) in
    let turned : number_in r (y + 1) r.x0 ≡ number_in r y l.x = number_turned r y l.x (omega arith) end in
    record {
      number = l.invariant.number ∙ sym turned;
      place = l.invariant.place ∙ sym (ap (λ (n : _). a.from + a.step * n) turned);
      tried = tried_row g a.index r y l.x a.kept.now l.kept end l.invariant.tried;
      listed = listed_row g a.index r y l.x l.kept a.from a.step a.out.now l.out end l.invariant.listed;
    }

pub offset_bounds-out-place : goal.offset_bounds-out-place
offset_bounds-out-place c =
    let a = c.args in
    let l = c.loop-x in
    let y = c.loop-y.y in
    let here : IsInRect a.rect y l.x = record { left = omega arith; right = c.loop-x-test.true; top = omega arith; bottom = c.loop-y-test.true } in
    let lt : l.place < length l.out = slot_inside a.rect a.from a.step y l.x l.place (length l.out) here c.requires.from (omega (arith, c.requires.room, l.invariant.listed.same_length)) l.invariant.place in
    omega (arith, lt)

pub bounds-out-place : goal.bounds-out-place
bounds-out-place c =
    let a = c.args in
    let l = c.loop-x in
    let y = c.loop-y.y in
    let here : IsInRect a.rect y l.x = record { left = omega arith; right = c.loop-x-test.true; top = omega arith; bottom = c.loop-y-test.true } in
    let lt : l.place < length l.out = slot_inside a.rect a.from a.step y l.x l.place (length l.out) here c.requires.from (omega (arith, c.requires.room, l.invariant.listed.same_length)) l.invariant.place in
    lt

pub overflow_add-place : goal.overflow_add-place
overflow_add-place c =
    let a = c.args in
    let l = c.loop-x in
    let y = c.loop-y.y in
    let here : IsInRect a.rect y l.x = record { left = omega arith; right = c.loop-x-test.true; top = omega arith; bottom = c.loop-y-test.true } in
    let lt : l.place < length l.out = slot_inside a.rect a.from a.step y l.x l.place (length l.out) here c.requires.from (omega (arith, c.requires.room, l.invariant.listed.same_length)) l.invariant.place in
    omega (arith, lt, step_inside a.rect a.step y l.x (length l.out) here (omega (arith, c.requires.room, l.invariant.listed.same_length)))
