use Rattle.std.proofs.Common.{◌≡◌, ◌∙◌, ℕ, ◌-◌, ◌*◌, ◌<◌, ◌≤◌, [], sym, ap, arith}
use Rattle.planes.specs.Subbands.{BandStack}
use Rattle.slice_geometry.specs.SliceOrder.{level_rect, area, level_of}
use Rattle.slice_encoder.proofs.SliceTables.{across_rises, down_rises, end_within}
use Rattle.slice_encoder.proofs.slice_rects.SliceRects.next_area.Goals as goal

none : BandStack
none = record { depth = 0; bands = [] }

pub count_places-requires-clause-across : goal.count_places-requires-clause-across
count_places-requires-clause-across c =
    across_rises c.args.self.now.slicing c.args.self.now.size c.args.sx c.args.sy c.args.k c.band_numbered-level.result.0 c.rect.result c.band_numbered-level.ensures.level c.rect.ensures c.requires.across

pub count_places-requires-clause-down : goal.count_places-requires-clause-down
count_places-requires-clause-down c =
    down_rises c.args.self.now.slicing c.args.self.now.size c.args.sx c.args.sy c.args.k c.band_numbered-level.result.0 c.rect.result c.band_numbered-level.ensures.level c.rect.ensures c.requires.down

pub count_places-requires-clause-few : goal.count_places-requires-clause-few
count_places-requires-clause-few c =
    let within = end_within c.args.self.now.slicing c.args.self.now.size c.args.sx c.args.sy c.args.k c.band_numbered-level.result.0 c.rect.result c.band_numbered-level.ensures.level c.rect.ensures none c.requires.number in
    omega (arith, within, c.requires.few)
