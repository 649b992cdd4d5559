use Rattle.std.proofs.Common.{◌≡◌, ◌∙◌, ℕ, ◌+◌, ◌-◌, ◌*◌, ◌^◌, ◌<◌, ◌≤◌, ◌++◌, List, length, get_or, take, map, sym, subst, ap, arith, ℤ, pos, to_z, of_z, w32, w64}
use Rattle.std.specs.List.{flat_map, range_with_len}
use Rattle.std.proofs.lemmas.List.{append-nil, length-set}
use Rattle.std.proofs.lemmas.List.Elements.{All-set}
use Rattle.std.proofs.lemmas.Nat.{mul-add-lt}
use Rattle.planes.specs.Numbers.{Within}
use Rattle.planes.specs.declared.Rect.{Rect}
use Rattle.planes.specs.Raster.{at}
use Rattle.slice_encoder.specs.Listing.{row_values}
use Rattle.dc_prediction.proofs.PredictionLemmas.{fits}
use Rattle.slice_encoder.proofs.Near.{fits_narrow}
use Rattle.slice_encoder.proofs.Listed.{listed_one, flat_more, next_row, turned}
use Rattle.slice_encoder.proofs.gathered.gather_rect.Goals as goal

-- the place of a number of a rectangle
in_room : (r : Rect) (y x place from had n : ℕ) → r.y0 ≤ y → y < r.y1 → r.x0 ≤ x → x < r.x1 → place ≡ from + (y - r.y0) * (r.x1 - r.x0) + (x - r.x0) → n ≡ had → from + (r.x1 - r.x0) * (r.y1 - r.y0) ≤ had → place < n
in_room r y x place from had n low high left right place_is same room =
    let w : ℕ = r.x1 - r.x0 in
    let h : ℕ = r.y1 - r.y0 in
    let inside = mul-add-lt (y - r.y0) w (x - r.x0) h (omega arith) (omega arith) in
    omega (arith, place_is, same, room, inside, turned w h)

pub loop-x-init : goal.loop-x-init
loop-x-init c =
    let l = c.loop-y in
    let none : c.args.rect.x0 - c.args.rect.x0 ≡ 0 = omega arith in
    record {
      place = omega (arith, l.invariant.place);
      same_length = l.invariant.same_length;
      small = l.invariant.small;
      so_far = rw none (rw append-nil l.invariant.so_far);
    }

pub loop-x-preserved : goal.loop-x-preserved
loop-x-preserved c =
    let r = c.args.rect in
    let l = c.loop-x in
    let y = c.loop-y.y in
    let w : ℕ = r.x1 - r.x0 in
    let h : ℕ = r.y1 - r.y0 in
    let value = at c.args.coefficients.now in
    let before = flat_map (row_values value r) (range_with_len r.y0 (y - r.y0)) in
    let n : ℤ = get_or c.row-row.result.now l.x (pos 0) in
    let n_is : n ≡ value y l.x = ap (λ (t : List ℤ). get_or t l.x (pos 0)) c.row-row.ensures.value in
    let e : ℤ = to_z w64 (of_z w64 n) in
    let e_is : e ≡ value y l.x = fits (2 ^ 27) n (omega arith) (subst (λ (u : ℤ). Within (2 ^ 27) u) (sym n_is) (c.requires.can.small y l.x)) ∙ n_is in
    let v : ℤ = to_z w32 (of_z w32 e) in
    let v_is : v ≡ e = fits_narrow e (subst (λ (u : ℤ). Within (2 ^ 27) u) (sym e_is) (c.requires.can.small y l.x)) in
    let near : Within (2 ^ 27) v = subst (λ (u : ℤ). Within (2 ^ 27) u) (sym (v_is ∙ e_is)) (c.requires.can.small y l.x) in
    let inside = mul-add-lt (y - r.y0) w (l.x - r.x0) h (omega arith) (omega arith) in
    let lt : l.place < length l.out = omega (arith, l.invariant.place, l.invariant.same_length, c.requires.room, inside, turned w h) in
    let next : l.x + 1 - r.x0 ≡ l.x - r.x0 + 1 = omega arith in
    record {
      place = omega (arith, l.invariant.place);
      same_length = length-set l.out l.place v ∙ l.invariant.same_length;
      small = All-set (Within (2 ^ 27)) l.out l.place v near l.invariant.small;
      so_far =
          listed_one l.out (take c.args.from c.args.out.now) before c.args.from l.place v e (value y) r.x0 (l.x - r.x0) l.x lt l.invariant.so_far v_is e_is (omega arith)
          ∙ sym (ap (λ (n : ℕ). take c.args.from c.args.out.now ++ (before ++ map (value y) (range_with_len r.x0 n))) next);
    }

pub loop-y-preserved : goal.loop-y-preserved
loop-y-preserved c =
    let r = c.args.rect in
    let l = c.loop-x in
    let y = c.loop-y.y in
    let w : ℕ = r.x1 - r.x0 in
    let value = at c.args.coefficients.now in
    let before = flat_map (row_values value r) (range_with_len r.y0 (y - r.y0)) in
    let next : y + 1 - r.y0 ≡ y - r.y0 + 1 = omega arith in
    let whole : l.x - r.x0 ≡ w = omega (arith, c.requires.can.across) in
    record {
      place = omega (arith, l.invariant.place, ap (λ (k : ℕ). k * w) next, next_row (y - r.y0) w);
      same_length = l.invariant.same_length;
      small = l.invariant.small;
      so_far =
          l.invariant.so_far
          ∙ ap (λ (n : ℕ). take c.args.from c.args.out.now ++ (before ++ map (value y) (range_with_len r.x0 n))) whole
          ∙ ap (λ t. take c.args.from c.args.out.now ++ t) (sym (flat_more (row_values value r) r.y0 (y - r.y0) y (omega arith)))
          ∙ sym (ap (λ (n : ℕ). take c.args.from c.args.out.now ++ flat_map (row_values value r) (range_with_len r.y0 n)) next);
    }

pub returns-clause-gathered : goal.returns-clause-gathered
returns-clause-gathered c =
    let r = c.args.rect in
    let l = c.loop-y in
    let w : ℕ = r.x1 - r.x0 in
    let h : ℕ = r.y1 - r.y0 in
    let value = at c.args.coefficients.now in
    let whole : l.y - r.y0 ≡ h = omega (arith, c.requires.can.down) in
    let place : c.args.from + w * h ≡ l.place = omega (arith, l.invariant.place, ap (λ (k : ℕ). k * w) whole, turned w h) in
    ap (λ (n : ℕ). take n l.out) place
    ∙ l.invariant.so_far
    ∙ ap (λ (n : ℕ). take c.args.from c.args.out.now ++ flat_map (row_values value r) (range_with_len r.y0 n)) whole

pub offset_bounds-row-x : goal.offset_bounds-row-x
offset_bounds-row-x c = omega (arith, c.row-row.ensures.len, c.requires.can.x_inside)

pub bounds-row-x : goal.bounds-row-x
bounds-row-x c = omega (arith, c.row-row.ensures.len, c.requires.can.x_inside)

pub offset_bounds-out-place : goal.offset_bounds-out-place
offset_bounds-out-place c =
    let l = c.loop-x in
    let lt = in_room c.args.rect c.loop-y.y l.x l.place c.args.from (length c.args.out.now) (length l.out) c.loop-y.auto.y c.loop-y-test.true l.auto.x c.loop-x-test.true l.invariant.place l.invariant.same_length c.requires.room in
    omega (arith, lt)

pub bounds-out-place : goal.bounds-out-place
bounds-out-place c =
    let l = c.loop-x in
    let lt = in_room c.args.rect c.loop-y.y l.x l.place c.args.from (length c.args.out.now) (length l.out) c.loop-y.auto.y c.loop-y-test.true l.auto.x c.loop-x-test.true l.invariant.place l.invariant.same_length c.requires.room in
    lt

pub overflow_add-place : goal.overflow_add-place
overflow_add-place c =
    let l = c.loop-x in
    let lt = in_room c.args.rect c.loop-y.y l.x l.place c.args.from (length c.args.out.now) (length l.out) c.loop-y.auto.y c.loop-y-test.true l.auto.x c.loop-x-test.true l.invariant.place l.invariant.same_length c.requires.room in
    omega (arith, lt)

pub returns-clause-small : goal.returns-clause-small
returns-clause-small c = c.loop-y.invariant.small
