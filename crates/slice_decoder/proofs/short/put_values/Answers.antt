use Rattle.std.proofs.Common.{◌≡◌, ap, ℕ, ◌+◌, ◌*◌, get_or, pos, length, arith}
use Rattle.slice_decoder.proofs.ShortTakes.{lowest-room, lowest-fits, all-rows, column-inside, row-inside, cut-count, put-takes, put-rest, cut-after}
use Rattle.slice_decoder.proofs.short.put_values.Goals as goal

pub put_rect-requires-clause-x_inside : goal.put_rect-requires-clause-x_inside
put_rect-requires-clause-x_inside c =
    let job = c.args.job in
    (lowest-fits job.layout.now job.size c.args.bands.now job.place.sx job.place.sy job.lowest c.requires.cut c.requires.job.lowest c.requires.job.across c.requires.job.down).x_inside

pub put_rect-requires-clause-y_inside : goal.put_rect-requires-clause-y_inside
put_rect-requires-clause-y_inside c =
    let job = c.args.job in
    (lowest-fits job.layout.now job.size c.args.bands.now job.place.sx job.place.sy job.lowest c.requires.cut c.requires.job.lowest c.requires.job.across c.requires.job.down).y_inside

pub put_rect-requires-clause-room : goal.put_rect-requires-clause-room
put_rect-requires-clause-room c =
    let job = c.args.job in
    omega (arith, lowest-room 1 job.layout.now job.size job.place.sx job.place.sy (length c.args.values.now) job.lowest c.requires.job.lowest c.requires.count)

pub put_run-requires-clause-across : goal.put_run-requires-clause-across
put_run-requires-clause-across c = column-inside c.args.job.layout.now c.args.job.size c.args.bands.now c.args.job.place.sx c.requires.cut c.requires.job.across

pub put_run-requires-clause-down : goal.put_run-requires-clause-down
put_run-requires-clause-down c = row-inside c.args.job.layout.now c.args.job.size c.args.bands.now c.args.job.place.sy c.requires.cut c.requires.job.down

pub put_run-requires-clause-whole : goal.put_run-requires-clause-whole
put_run-requires-clause-whole c =
    let job = c.args.job in
    omega (arith, c.requires.count, cut-count job.layout.now job.size c.args.bands.now job.place.sx job.place.sy c.requires.cut)

pub returns-clause-takes : goal.returns-clause-takes
returns-clause-takes c =
    let job = c.args.job in
    let old = c.args.bands.now in
    let values = c.args.values.now in
    let counted : (k : ℕ) → get_or values k (pos 0) ≡ get_or values (1 * k + 0) (pos 0) = λ k. let e : k ≡ 1 * k + 0 = omega arith in ap (λ (n : ℕ). get_or values n (pos 0)) e in
    let put = c.put_run.ensures.stack (all-rows job.layout.now job.size old c.requires.cut) in
    put-takes 1 0 job.layout.now job.size old job.place.sx job.place.sy values c.put_run.new.self c.requires.cut (λ k. get_or values k (pos 0)) counted put job.lowest c.put_rect.new.plane c.requires.job.lowest c.put_rect.ensures

pub returns-clause-rest : goal.returns-clause-rest
returns-clause-rest c =
    let job = c.args.job in
    let old = c.args.bands.now in
    let values = c.args.values.now in
    let counted : (k : ℕ) → get_or values k (pos 0) ≡ get_or values (1 * k + 0) (pos 0) = λ k. let e : k ≡ 1 * k + 0 = omega arith in ap (λ (n : ℕ). get_or values n (pos 0)) e in
    let put = c.put_run.ensures.stack (all-rows job.layout.now job.size old c.requires.cut) in
    put-rest 1 0 job.layout.now job.size old job.place.sx job.place.sy values c.put_run.new.self c.requires.cut (λ k. get_or values k (pos 0)) counted put job.lowest c.put_rect.new.plane c.requires.job.lowest c.put_rect.ensures

pub returns-clause-cut : goal.returns-clause-cut
returns-clause-cut c =
    let job = c.args.job in
    let old = c.args.bands.now in
    let values = c.args.values.now in
    let counted : (k : ℕ) → get_or values k (pos 0) ≡ get_or values (1 * k + 0) (pos 0) = λ k. let e : k ≡ 1 * k + 0 = omega arith in ap (λ (n : ℕ). get_or values n (pos 0)) e in
    let put = c.put_run.ensures.stack (all-rows job.layout.now job.size old c.requires.cut) in
    let takes = put-takes 1 0 job.layout.now job.size old job.place.sx job.place.sy values c.put_run.new.self c.requires.cut (λ k. get_or values k (pos 0)) counted put job.lowest c.put_rect.new.plane c.requires.job.lowest c.put_rect.ensures in
    cut-after 1 0 job.layout.now job.size old job.place.sx job.place.sy job.lowest values c.put_rect.new.plane c.put_run.new.self c.requires.cut takes c.put_rect.ensures c.requires.short c.put_run.ensures.same
