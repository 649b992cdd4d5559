use Rattle.std.proofs.Common.{◌≡◌, ap, sym, subst, ◌∙◌, ℕ, ◌+◌, ◌-◌, ◌*◌, ◌^◌, ◌<◌, ◌≤◌, List, get_or, arith}
use Rattle.std.proofs.lemmas.Nat.{mul-le}
use Rattle.std.proofs.lemmas.List.{get_or_default}
use Rattle.planes.specs.Subbands.{BandExists}
use Rattle.slice_geometry.specs.declared.Size.{Size}
use Rattle.slice_geometry.specs.Slicing.{Slicing}
use Rattle.slice_geometry.specs.SliceOrder as order
use Rattle.slice_store.specs.Store.{Store}
use Rattle.slice_store.specs.Places.{IsCut}
use Rattle.slice_store.specs.Cut.{AreUnders}
use Rattle.slice_store.specs.Sides.{wide, tall}
use Rattle.slice_store.proofs.Sums.{area_most, under_most}
use Rattle.slice_store.proofs.Apart.{level_inside, orient_most}
use Rattle.slice_store.proofs.Tables.{under_at, under_inside, before_band}
use Rattle.slice_store.proofs.SliceStore.places_before.Goals as goal

pub index-requires : goal.index-requires
index-requires g c =
    let s = c.args.self.now.slicing in
    let table : AreUnders c.self.inside.unders.items s c.args.self.now.size = subst (λ (u : Store g.row.T.Denot). AreUnders c.self.inside.unders.items u.slicing u.size) c.self.view_is c.self.invariant.1 in
    let place : (c.args.sy * (c.depth.result + 1) + c.args.level) * c.across.result + c.args.sx ≡ (c.args.sy * (s.depth + 1) + c.args.level) * s.slices_x + c.args.sx =
    ap (λ (n : ℕ). (c.args.sy * (n + 1) + c.args.level) * c.across.result + c.args.sx) c.depth.ensures
    ∙ ap (λ (n : ℕ). (c.args.sy * (s.depth + 1) + c.args.level) * n + c.args.sx) c.across.ensures in
    let inside = under_inside s c.args.level c.args.sx c.args.sy (level_inside s.depth c.args.level c.args.orient c.requires.exists) c.requires.across c.requires.down in
    omega (arith, place, inside, table.size, c.self.inside.unders.ok.0)

-- what stands in the table, and how great all of it may be
module _ (s : Slicing) (size : Size) (cut : IsCut s size) (level orient sx sy : ℕ) (exists : BandExists s.depth level orient) (across : sx < s.slices_x) (down : sy < s.slices_y)
    (under w h times : ℕ) (under_is : under ≡ order.places_before s size sx sy level 1) (w_is : w ≡ wide s size level sx) (h_is : h ≡ tall s size level sy) (times_is : times ≡ orient - 1) where
  area_few : w * h ≤ 2 ^ 26
  area_few = rw (w_is, h_is) (area_most s size cut level sx sy (omega (arith, across)) (omega (arith, down)))

  parts_few : times * (w * h) ≤ 2 * 2 ^ 26
  parts_few = mul-le times (w * h) 2 (2 ^ 26) (omega (arith, times_is, orient_most s.depth level orient exists)) area_few

  all_few : under + times * (w * h) ≤ 15 * 2 ^ 26
  all_few = omega (arith, parts_few, under_is, under_most s size cut level sx sy (omega (arith, across)) (omega (arith, down)) (omega (arith, level_inside s.depth level orient exists, cut.depth)))

  all_is : under + times * (w * h) ≡ order.places_before s size sx sy level orient
  all_is =
      ap (λ (n : ℕ). n + times * (w * h)) under_is ∙ ap (λ (n : ℕ). order.places_before s size sx sy level 1 + n * (w * h)) times_is
      ∙ ap (λ (n : ℕ). order.places_before s size sx sy level 1 + (orient - 1) * (n * h)) w_is ∙ ap (λ (n : ℕ). order.places_before s size sx sy level 1 + (orient - 1) * (wide s size level sx * n)) h_is
      ∙ before_band s size sx sy level orient exists

pub overflow_mul-area : goal.overflow_mul-area
overflow_mul-area g c =
    let s = c.args.self.now.slicing in
    let size = c.args.self.now.size in
    let cut : IsCut s size = subst (λ (u : Store g.row.T.Denot). IsCut u.slicing u.size) c.self.view_is c.rules.ensures in
    let w : c.wide.result ≡ wide s size c.args.level c.args.sx = subst (λ (u : Store g.row.T.Denot). c.wide.result ≡ wide u.slicing u.size c.args.level c.args.sx) c.self.view_is c.wide.ensures in
    let h : c.tall.result ≡ tall s size c.args.level c.args.sy = subst (λ (u : Store g.row.T.Denot). c.tall.result ≡ tall u.slicing u.size c.args.level c.args.sy) c.self.view_is c.tall.ensures in
    let few : c.wide.result * c.tall.result ≤ 2 ^ 26 = rw (w, h) (area_most s size cut c.args.level c.args.sx c.args.sy (omega (arith, c.requires.across)) (omega (arith, c.requires.down))) in
    omega (arith, few)

-- the number in the table
under_here : (list : List ℕ) (s : Slicing) (size : Size) → AreUnders list s size → (level orient sx sy depth across found : ℕ) → BandExists s.depth level orient → sx < s.slices_x → sy < s.slices_y → depth ≡ s.depth → across ≡ s.slices_x
    → found ≡ get_or list ((sy * (depth + 1) + level) * across + sx) found → found ≡ order.places_before s size sx sy level 1
under_here list s size table level orient sx sy depth across found exists right down depth_is across_is is =
    let le = level_inside s.depth level orient exists in
    let place : (sy * (depth + 1) + level) * across + sx ≡ (sy * (s.depth + 1) + level) * s.slices_x + sx =
    ap (λ (n : ℕ). (sy * (n + 1) + level) * across + sx) depth_is ∙ ap (λ (n : ℕ). (sy * (s.depth + 1) + level) * n + sx) across_is in
    is ∙ ap (λ (n : ℕ). get_or list n found) place
    ∙ get_or_default list ((sy * (s.depth + 1) + level) * s.slices_x + sx) found 0 (omega (arith, table.size, under_inside s level sx sy le right down))
    ∙ under_at list s size table level sx sy le right down

pub overflow_mul-result : goal.overflow_mul-result
overflow_mul-result g c =
    let s = c.args.self.now.slicing in
    let size = c.args.self.now.size in
    let cut : IsCut s size = subst (λ (u : Store g.row.T.Denot). IsCut u.slicing u.size) c.self.view_is c.rules.ensures in
    let w : c.wide.result ≡ wide s size c.args.level c.args.sx = subst (λ (u : Store g.row.T.Denot). c.wide.result ≡ wide u.slicing u.size c.args.level c.args.sx) c.self.view_is c.wide.ensures in
    let h : c.tall.result ≡ tall s size c.args.level c.args.sy = subst (λ (u : Store g.row.T.Denot). c.tall.result ≡ tall u.slicing u.size c.args.level c.args.sy) c.self.view_is c.tall.ensures in
    let few : c.wide.result * c.tall.result ≤ 2 ^ 26 = rw (w, h) (area_most s size cut c.args.level c.args.sx c.args.sy (omega (arith, c.requires.across)) (omega (arith, c.requires.down))) in
    let all : c.saturating_sub.result * (c.wide.result * c.tall.result) ≤ 2 * 2 ^ 26 =
    mul-le c.saturating_sub.result (c.wide.result * c.tall.result) 2 (2 ^ 26) (omega (arith, c.saturating_sub.ensures, orient_most s.depth c.args.level c.args.orient c.requires.exists)) few in
    omega (arith, all)

pub overflow_add-result : goal.overflow_add-result
overflow_add-result g c =
    let s = c.args.self.now.slicing in
    let size = c.args.self.now.size in
    let cut : IsCut s size = subst (λ (u : Store g.row.T.Denot). IsCut u.slicing u.size) c.self.view_is c.rules.ensures in
    let w : c.wide.result ≡ wide s size c.args.level c.args.sx = subst (λ (u : Store g.row.T.Denot). c.wide.result ≡ wide u.slicing u.size c.args.level c.args.sx) c.self.view_is c.wide.ensures in
    let h : c.tall.result ≡ tall s size c.args.level c.args.sy = subst (λ (u : Store g.row.T.Denot). c.tall.result ≡ tall u.slicing u.size c.args.level c.args.sy) c.self.view_is c.tall.ensures in
    let table : AreUnders c.self.inside.unders.items s size = subst (λ (u : Store g.row.T.Denot). AreUnders c.self.inside.unders.items u.slicing u.size) c.self.view_is c.self.invariant.1 in
    let under = under_here c.self.inside.unders.items s size table c.args.level c.args.orient c.args.sx c.args.sy c.depth.result c.across.result c.index.result.now c.requires.exists c.requires.across c.requires.down c.depth.ensures c.across.ensures c.index.ensures in
    let few = all_few s size cut c.args.level c.args.orient c.args.sx c.args.sy c.requires.exists c.requires.across c.requires.down c.index.result.now c.wide.result c.tall.result c.saturating_sub.result under w h c.saturating_sub.ensures in
    omega (arith, few)

pub returns : goal.returns
returns g c =
    let s = c.args.self.now.slicing in
    let size = c.args.self.now.size in
    let cut : IsCut s size = subst (λ (u : Store g.row.T.Denot). IsCut u.slicing u.size) c.self.view_is c.rules.ensures in
    let w : c.wide.result ≡ wide s size c.args.level c.args.sx = subst (λ (u : Store g.row.T.Denot). c.wide.result ≡ wide u.slicing u.size c.args.level c.args.sx) c.self.view_is c.wide.ensures in
    let h : c.tall.result ≡ tall s size c.args.level c.args.sy = subst (λ (u : Store g.row.T.Denot). c.tall.result ≡ tall u.slicing u.size c.args.level c.args.sy) c.self.view_is c.tall.ensures in
    let table : AreUnders c.self.inside.unders.items s size = subst (λ (u : Store g.row.T.Denot). AreUnders c.self.inside.unders.items u.slicing u.size) c.self.view_is c.self.invariant.1 in
    let under = under_here c.self.inside.unders.items s size table c.args.level c.args.orient c.args.sx c.args.sy c.depth.result c.across.result c.index.result.now c.requires.exists c.requires.across c.requires.down c.depth.ensures c.across.ensures c.index.ensures in
    all_is s size cut c.args.level c.args.orient c.args.sx c.args.sy c.requires.exists c.requires.across c.requires.down c.index.result.now c.wide.result c.tall.result c.saturating_sub.result under w h c.saturating_sub.ensures
