use Rattle.std.proofs.Common.{◌≡◌, ap, sym, subst, ◌∙◌, ℕ, ◌*◌, ◌<◌, ◌≤◌, ◌^◌, get_or, slice_set, length, arith, inl, inr}
use Rattle.std.proofs.lemmas.Bool.{cases_eq}
use Rattle.std.proofs.lemmas.List.{get_or-set_same, get_or-set_other, length-set}
use Rattle.slice_geometry.specs.SliceOrder.{area, level_rect}
use Rattle.slice_store.specs.Store.{Store}
use Rattle.slice_store.specs.Places.{IsCut}
use Rattle.slice_store.specs.Sides.{wide, tall}
use Rattle.slice_store.proofs.Sums.{area_most}
use Rattle.slice_store.proofs.Tables.{put_next}
use Rattle.slice_store.proofs.SliceStore.areas.Goals as goal

pub overflow_mul-areas : goal.overflow_mul-areas
overflow_mul-areas g c =
    let s = c.args.self.now in
    let cut = subst (λ (u : Store g.row.T.Denot). IsCut u.slicing u.size) c.self.view_is c.rules.ensures in
    let most = area_most s.slicing s.size cut c.loop-level.level c.args.sx c.args.sy (omega (arith, c.requires.across)) (omega (arith, c.requires.down)) in
    let is : c.wide.result * c.tall.result ≡ wide s.slicing s.size c.loop-level.level c.args.sx * tall s.slicing s.size c.loop-level.level c.args.sy =
    ap (λ (n : ℕ). n * c.tall.result) (subst (λ (u : Store g.row.T.Denot). c.wide.result ≡ wide u.slicing u.size c.loop-level.level c.args.sx) c.self.view_is c.wide.ensures) ∙ ap (λ (n : ℕ). wide s.slicing s.size c.loop-level.level c.args.sx * n) (subst (λ (u : Store g.row.T.Denot). c.tall.result ≡ tall u.slicing u.size c.loop-level.level c.args.sy) c.self.view_is c.tall.ensures) in
    omega (arith, most, is)

pub loop-level-preserved : goal.loop-level-preserved
loop-level-preserved g c =
    let s = c.args.self.now in
    let areas = c.loop-level.areas in
    let level : ℕ = c.loop-level.level in
    let new : ℕ = c.wide.result * c.tall.result in
    let cut : IsCut s.slicing s.size = subst (λ (u : Store g.row.T.Denot). IsCut u.slicing u.size) c.self.view_is c.rules.ensures in
    let most = area_most s.slicing s.size cut level c.args.sx c.args.sy (omega (arith, c.requires.across)) (omega (arith, c.requires.down)) in
    let is : new ≡ area (level_rect s.slicing s.size c.args.sx c.args.sy level) =
    ap (λ (n : ℕ). n * c.tall.result) (subst (λ (u : Store g.row.T.Denot). c.wide.result ≡ wide u.slicing u.size level c.args.sx) c.self.view_is c.wide.ensures) ∙ ap (λ (n : ℕ). wide s.slicing s.size level c.args.sx * n) (subst (λ (u : Store g.row.T.Denot). c.tall.result ≡ tall u.slicing u.size level c.args.sy) c.self.view_is c.tall.ensures) in
    let inside : level < length areas = omega (arith, c.loop-level-test.true, c.loop-level.auto.level-end, ap (λ (u : Store g.row.T.Denot). u.slicing.depth) c.self.view_is, c.depth-level-end.ensures, cut.depth, c.loop-level.invariant.size) in
    record {
      size = length-set areas level new ∙ c.loop-level.invariant.size;
      value = put_next (λ i n. n ≡ area (level_rect s.slicing s.size c.args.sx c.args.sy i)) areas level new inside is c.loop-level.invariant.value;
      few = λ i le. elim (cases_eq i level) as (λ _. get_or (slice_set areas level new) i 0 ≤ 2 ^ 26) [
        | inl same ↦ subst (λ (j : ℕ). get_or (slice_set areas level new) j 0 ≤ 2 ^ 26) (sym same) (omega (arith, get_or-set_same areas level new 0 inside, is, most))
        | inr other ↦ omega (arith, get_or-set_other areas level i new 0 other, c.loop-level.invariant.few i le)
      ];
    }
