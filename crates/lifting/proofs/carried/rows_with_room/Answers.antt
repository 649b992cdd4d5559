use Rattle.std.proofs.Common.{◌≡◌, ◌∙◌, refl, sym, ap, ℕ, ◌+◌, ◌-◌, arith, ℤ, pos, List, true, false}
use Rattle.planes.specs.Raster.{at}
use Rattle.lifting.specs.LevelRoom.{last_rows}
use Rattle.lifting.specs.Places.{place}
use Rattle.lifting.proofs.Short.{grid_more, grids_more, found_short, short_found}
use Rattle.lifting.proofs.carried.rows_with_room.Goals as goal

pub returns-then-not-take-clause-room : goal.returns-then-not-take-clause-room
returns-then-not-take-clause-room c =
    let l = c.args.level.now in
    let y : ℕ = c.loop-y.y in
    let i = c.loop-y.invariant in
    let p = c.pair.result in
    let ll = last_rows (λ v. v) (pos 0) l.h c.args.plane.now in
    let here = λ (x : ℕ). ap (λ (r : List ℤ). place r x) (c.pair.ensures.ll ∙ c.row.ensures.value) ∙ ap (λ (n : ℕ). at c.args.plane.now (n - l.h + y) x) c.h.ensures.value in
    let low = λ (m : ℕ). grid_more y l.w m ll (place p.ll.now) here c.loop-y.carried.low c.take.new.self.low (i.low m) (c.take.ensures.low m) in
    let high = λ (m : ℕ). grids_more y l.w m (at l.hl.now) (at l.lh.now) (at l.hh.now) (place p.hl.now) (place p.lh.now) (place p.hh.now)
    (λ x. ap (λ (r : List ℤ). place r x) c.pair.ensures.hl) (λ x. ap (λ (r : List ℤ). place r x) c.pair.ensures.lh) (λ x. ap (λ (r : List ℤ). place r x) c.pair.ensures.hh)
    c.loop-y.carried.high c.take.new.self.high (i.high m) (c.take.ensures.high m) in (
      λ e. absurd (omega (arith, e, c.loop-y-test.true)),
      λ s.
          let short : c.take.result ≡ true = c.take.ensures.answer.1 (short_found l.h l.w (y + 1) ll (at l.hl.now) (at l.lh.now) (at l.hh.now) c.take.new.self.low c.take.new.self.high low high (omega (arith, c.loop-y-test.true)) s) in
          let e : true ≡ false = sym short ∙ c.if-not-take.true in
          absurd cc,
    )

pub loop-y-preserved : goal.loop-y-preserved
loop-y-preserved c =
    let l = c.args.level.now in
    let y : ℕ = c.loop-y.y in
    let i = c.loop-y.invariant in
    let p = c.pair.result in
    record {
      low = λ m. grid_more y l.w m (last_rows (λ v. v) (pos 0) l.h c.args.plane.now) (place p.ll.now)
          (λ x. ap (λ (r : List ℤ). place r x) (c.pair.ensures.ll ∙ c.row.ensures.value) ∙ ap (λ (n : ℕ). at c.args.plane.now (n - l.h + y) x) c.h.ensures.value)
          c.loop-y.carried.low c.take.new.self.low (i.low m) (c.take.ensures.low m);
      high = λ m. grids_more y l.w m (at l.hl.now) (at l.lh.now) (at l.hh.now) (place p.hl.now) (place p.lh.now) (place p.hh.now)
          (λ x. ap (λ (r : List ℤ). place r x) c.pair.ensures.hl) (λ x. ap (λ (r : List ℤ). place r x) c.pair.ensures.lh) (λ x. ap (λ (r : List ℤ). place r x) c.pair.ensures.hh)
          c.loop-y.carried.high c.take.new.self.high (i.high m) (c.take.ensures.high m);
      few = c.take.ensures.answer.0 c.if-not-take.false;
    }

pub returns-clause-room : goal.returns-clause-room
returns-clause-room c =
    let l = c.args.level.now in
    let i = c.loop-y.invariant in
    let all : c.loop-y.y ≡ l.h = omega (arith, c.loop-y-test.false, c.loop-y.auto.y-end) in
    (λ e. found_short l.h l.w c.loop-y.y (last_rows (λ v. v) (pos 0) l.h c.args.plane.now) (at l.hl.now) (at l.lh.now) (at l.hh.now) c.loop-y.carried.low c.loop-y.carried.high i.low i.high all i.few, λ s. refl)
