use Rattle.std.proofs.Common.{ℕ, arith, pos}
use Rattle.std.proofs.lemmas.Bool.{eqb-true}
use Rattle.std.proofs.lemmas.Bool.Decides.{nat_tests}
use Rattle.lifting.specs.Bands.{lowest}
use Rattle.lifting.specs.LevelRoom.{last_rows}
use Rattle.lifting.proofs.Levels.{level_columns, level_rows, low_stands}
use Rattle.lifting.proofs.Short.{stands_made, made_stands}
use Rattle.lifting.proofs.carried.is_short.Goals as goal

pub rows_with_room-requires-clause-columns : goal.rows_with_room-requires-clause-columns
rows_with_room-requires-clause-columns c =
    let q = c.requires.room in
    omega (arith, q.columns, level_columns c.args.bands.now c.args.size.w c.args.size.h q.whole_columns q.whole_rows q.bands c.args.wavelet c.args.n c.requires.some c.level_of-level.result c.level_of-level.ensures)

pub rows_with_room-requires-clause-rows : goal.rows_with_room-requires-clause-rows
rows_with_room-requires-clause-rows c =
    let q = c.requires.room in
    omega (arith, q.rows, level_rows c.args.bands.now c.args.size.w c.args.size.h q.whole_columns q.whole_rows q.bands c.args.wavelet c.args.n c.requires.some c.level_of-level.result c.level_of-level.ensures)

pub returns : goal.returns
returns c =
    let q = c.requires.room in
    let b = c.args.bands.now in
    let k = c.args.wavelet in
    let w : ℕ = c.args.size.w in
    let h : ℕ = c.args.size.h in
    let n : ℕ = c.args.n in
    let l = c.level_of-level.result in
    let of = c.level_of-level.ensures in
    let low = last_rows (λ v. v) (pos 0) l.h c.args.plane.now in
    let rows = level_rows b w h q.whole_columns q.whole_rows q.bands k n c.requires.some l of in
    let columns = level_columns b w h q.whole_columns q.whole_rows q.bands k n c.requires.some l of in
    let stands = low_stands (λ v. v) (pos 0) k b n w h q.whole_columns q.whole_rows q.bands c.requires.some c.args.plane.now l of c.requires.below in (
      λ e. stands_made k (lowest b.depth h) (lowest b.depth w) b n low l of rows columns stands (c.rows_with_room.ensures.room.0 (eqb-true _ _ e)),
      λ s. rw (c.rows_with_room.ensures.room.1 (made_stands k (lowest b.depth h) (lowest b.depth w) b n low l of rows columns stands s)) (grind (arith, nat_tests)),
    )
