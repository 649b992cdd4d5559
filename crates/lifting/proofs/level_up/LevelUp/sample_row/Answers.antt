use Rattle.std.proofs.Common.{◌≡◌, ◌∙◌, ap, ℕ, ◌+◌, ◌-◌, ◌*◌, ◌<◌, ◌≤◌, length, arith}
use borrow.Rule.Slice.PartMut.{put_mid, mid_of}
use Rattle.planes.specs.Valued.{valued}
use Rattle.lifting.specs.Clipping.{sample_of}
use Rattle.lifting.specs.LevelPairs.{raised_row}
use Rattle.lifting.specs.Places.{row_grid}
use Rattle.lifting.proofs.LevelPairs.{few_final, raised_fits, row_made}
use Rattle.lifting.proofs.RingRows.{cut_part, own_before, other_rows}
use Rattle.lifting.proofs.level_up.LevelUp.sample_row.Goals as goal

pub sample_sides-requires-clause-has_room : goal.sample_sides-requires-clause-has_room
sample_sides-requires-clause-has_room g c =
    let l = c.args.self.now in
    let same = c.fetch.ensures.same_level in
    let ring = c.fetch.new.self.ring.now in
    let inside : c.fetch.result * (2 * l.w) + 2 * l.w ≤ length ring = omega (arith, c.fetch.ensures.inside, same.ring) in
    let cut = cut_part c.fetch.result (2 * l.w) c.start_of-start.result c.start_of-start.ensures ring inside in
    let row = mid_of c.start_of-start.result (c.start_of-start.result + 2 * l.w - c.start_of-start.result) ring in
    let raised : (x : ℕ) → x < 2 * l.w → valued g.T.Number.value g.T.Number.none row x ≡ raised_row l.wavelet l.h l.w g.g l.given x = λ x lx. own_before g.T.Number.value g.T.Number.none cut x lx ∙ c.fetch.ensures.row x lx in
    let is_open = c.requires.1.1.0 in
    raised_fits l.wavelet l.h l.w g.g g.T.Number.reach c.requires.1.1.1.1.0 l.given (omega (arith, (few_final l.wavelet l.h l.came is_open.few).0, is_open.few, c.requires.1.1.1.0)) (valued g.T.Number.value g.T.Number.none row) raised

pub returns-clause-after : goal.returns-clause-after
returns-clause-after g c =
    let l = c.args.self.now in
    let same = c.fetch.ensures.same_level in
    let ring = c.fetch.new.self.ring.now in
    let inside : c.fetch.result * (2 * l.w) + 2 * l.w ≤ length ring = omega (arith, c.fetch.ensures.inside, same.ring) in
    let cut = cut_part c.fetch.result (2 * l.w) c.start_of-start.result c.start_of-start.ensures ring inside in
    let left = put_mid c.start_of-start.result (c.start_of-start.result + 2 * l.w - c.start_of-start.result) ring c.sample_sides.new.row in
    rw (same.wavelet, same.h, same.w, c.fetch.ensures.counts.0, c.fetch.ensures.counts.1)
    (c.fetch.ensures.free (row_grid g.T.Number.value g.T.Number.none (2 * l.w) left) (other_rows g.T.Number.value g.T.Number.none cut c.sample_sides.new.row (c.sample_sides.auto.row ∙ cut.long)))

pub returns-clause-row : goal.returns-clause-row
returns-clause-row g c x lx =
    let l = c.args.self.now in
    let same = c.fetch.ensures.same_level in
    let ring = c.fetch.new.self.ring.now in
    let inside : c.fetch.result * (2 * l.w) + 2 * l.w ≤ length ring = omega (arith, c.fetch.ensures.inside, same.ring) in
    let cut = cut_part c.fetch.result (2 * l.w) c.start_of-start.result c.start_of-start.ensures ring inside in
    let row = mid_of c.start_of-start.result (c.start_of-start.result + 2 * l.w - c.start_of-start.result) ring in
    let raised : (x : ℕ) → x < 2 * l.w → valued g.T.Number.value g.T.Number.none row x ≡ raised_row l.wavelet l.h l.w g.g l.given x = λ x lx. own_before g.T.Number.value g.T.Number.none cut x lx ∙ c.fetch.ensures.row x lx in
    c.sample_sides.ensures x lx
    ∙ ap (sample_of c.args.depth) (row_made l.wavelet l.h l.w g.g l.given (valued g.T.Number.value g.T.Number.none row) raised x (omega (arith, lx, c.requires.1.1.1.1.1.1.1.1)))
