use Rattle.std.proofs.Common.{◌≡◌, ◌∙◌, ap, sym, ℕ, ◌+◌, ◌*◌, get_or, pos, length, arith}
use Rattle.slice_decoder.proofs.ShortTakes.{lowest-room, lowest-fits, all-rows, column-inside, row-inside, cut-count, put-takes, put-rest, cut-after}
use Rattle.slice_decoder.proofs.short.put_in_turn.Goals as goal

pub put_rect-requires-clause-x_inside : goal.put_rect-requires-clause-x_inside
put_rect-requires-clause-x_inside c =
    let job = c.args.job in
    (lowest-fits job.layout.now job.size c.args.first.now job.place.sx job.place.sy job.lowest c.requires.first_cut c.requires.job.lowest c.requires.job.across c.requires.job.down).x_inside

pub put_rect-requires-clause-y_inside : goal.put_rect-requires-clause-y_inside
put_rect-requires-clause-y_inside c =
    let job = c.args.job in
    (lowest-fits job.layout.now job.size c.args.first.now job.place.sx job.place.sy job.lowest c.requires.first_cut c.requires.job.lowest c.requires.job.across c.requires.job.down).y_inside

pub put_rect-requires-clause-room : goal.put_rect-requires-clause-room
put_rect-requires-clause-room c =
    let job = c.args.job in
    omega (arith, lowest-room 2 job.layout.now job.size job.place.sx job.place.sy (length c.args.values.now) job.lowest c.requires.job.lowest c.requires.count)

pub put_rect-requires-2-clause-x_inside : goal.put_rect-requires-2-clause-x_inside
put_rect-requires-2-clause-x_inside c =
    let job = c.args.job in
    (lowest-fits job.layout.now job.size c.args.second.now job.place.sx job.place.sy job.lowest c.requires.second_cut c.requires.job.lowest c.requires.job.across c.requires.job.down).x_inside

pub put_rect-requires-2-clause-y_inside : goal.put_rect-requires-2-clause-y_inside
put_rect-requires-2-clause-y_inside c =
    let job = c.args.job in
    (lowest-fits job.layout.now job.size c.args.second.now job.place.sx job.place.sy job.lowest c.requires.second_cut c.requires.job.lowest c.requires.job.across c.requires.job.down).y_inside

pub put_rect-requires-2-clause-room : goal.put_rect-requires-2-clause-room
put_rect-requires-2-clause-room c =
    let job = c.args.job in
    omega (arith, lowest-room 2 job.layout.now job.size job.place.sx job.place.sy (length c.args.values.now) job.lowest c.requires.job.lowest c.requires.count)

pub put_in_turn-requires-clause-across : goal.put_in_turn-requires-clause-across
put_in_turn-requires-clause-across c = column-inside c.args.job.layout.now c.args.job.size c.args.first.now c.args.job.place.sx c.requires.first_cut c.requires.job.across

pub put_in_turn-requires-clause-down : goal.put_in_turn-requires-clause-down
put_in_turn-requires-clause-down c = row-inside c.args.job.layout.now c.args.job.size c.args.first.now c.args.job.place.sy c.requires.first_cut c.requires.job.down

pub put_in_turn-requires-clause-slicing : goal.put_in_turn-requires-clause-slicing
put_in_turn-requires-clause-slicing c = c.requires.second_cut.slicing ∙ sym c.requires.first_cut.slicing

pub put_in_turn-requires-clause-size : goal.put_in_turn-requires-clause-size
put_in_turn-requires-clause-size c = c.requires.second_cut.size ∙ sym c.requires.first_cut.size

pub put_in_turn-requires-clause-whole : goal.put_in_turn-requires-clause-whole
put_in_turn-requires-clause-whole c =
    let job = c.args.job in
    omega (arith, c.requires.count, cut-count job.layout.now job.size c.args.first.now job.place.sx job.place.sy c.requires.first_cut)

pub returns-clause-first_takes : goal.returns-clause-first_takes
returns-clause-first_takes c =
    let job = c.args.job in
    let old = c.args.first.now in
    let values = c.args.values.now in
    let counted : (k : ℕ) → get_or values (2 * k) (pos 0) ≡ get_or values (2 * k + 0) (pos 0) = λ k. let e : (2 * k) ≡ 2 * k + 0 = omega arith in ap (λ (n : ℕ). get_or values n (pos 0)) e in
    let put = c.put_in_turn.ensures.stack (all-rows job.layout.now job.size old c.requires.first_cut) in
    put-takes 2 0 job.layout.now job.size old job.place.sx job.place.sy values c.put_in_turn.new.self c.requires.first_cut (λ k. get_or values (2 * k) (pos 0)) counted put job.lowest c.put_rect.new.plane c.requires.job.lowest c.put_rect.ensures

pub returns-clause-first_rest : goal.returns-clause-first_rest
returns-clause-first_rest c =
    let job = c.args.job in
    let old = c.args.first.now in
    let values = c.args.values.now in
    let counted : (k : ℕ) → get_or values (2 * k) (pos 0) ≡ get_or values (2 * k + 0) (pos 0) = λ k. let e : (2 * k) ≡ 2 * k + 0 = omega arith in ap (λ (n : ℕ). get_or values n (pos 0)) e in
    let put = c.put_in_turn.ensures.stack (all-rows job.layout.now job.size old c.requires.first_cut) in
    put-rest 2 0 job.layout.now job.size old job.place.sx job.place.sy values c.put_in_turn.new.self c.requires.first_cut (λ k. get_or values (2 * k) (pos 0)) counted put job.lowest c.put_rect.new.plane c.requires.job.lowest c.put_rect.ensures

pub returns-clause-first_cut : goal.returns-clause-first_cut
returns-clause-first_cut c =
    let job = c.args.job in
    let old = c.args.first.now in
    let values = c.args.values.now in
    let counted : (k : ℕ) → get_or values (2 * k) (pos 0) ≡ get_or values (2 * k + 0) (pos 0) = λ k. let e : (2 * k) ≡ 2 * k + 0 = omega arith in ap (λ (n : ℕ). get_or values n (pos 0)) e in
    let put = c.put_in_turn.ensures.stack (all-rows job.layout.now job.size old c.requires.first_cut) in
    let takes = put-takes 2 0 job.layout.now job.size old job.place.sx job.place.sy values c.put_in_turn.new.self c.requires.first_cut (λ k. get_or values (2 * k) (pos 0)) counted put job.lowest c.put_rect.new.plane c.requires.job.lowest c.put_rect.ensures in
    cut-after 2 0 job.layout.now job.size old job.place.sx job.place.sy job.lowest values c.put_rect.new.plane c.put_in_turn.new.self c.requires.first_cut takes c.put_rect.ensures c.requires.short c.put_in_turn.ensures.same

pub returns-clause-second_takes : goal.returns-clause-second_takes
returns-clause-second_takes c =
    let job = c.args.job in
    let old = c.args.second.now in
    let values = c.args.values.now in
    let counted : (k : ℕ) → get_or values (2 * k + 1) (pos 0) ≡ get_or values (2 * k + 1) (pos 0) = λ k. let e : (2 * k + 1) ≡ 2 * k + 1 = omega arith in ap (λ (n : ℕ). get_or values n (pos 0)) e in
    let put = c.put_in_turn.ensures.second_stack (all-rows job.layout.now job.size old c.requires.second_cut) in
    put-takes 2 1 job.layout.now job.size old job.place.sx job.place.sy values c.put_in_turn.new.second c.requires.second_cut (λ k. get_or values (2 * k + 1) (pos 0)) counted put job.lowest c.put_rect-2.new.plane c.requires.job.lowest c.put_rect-2.ensures

pub returns-clause-second_rest : goal.returns-clause-second_rest
returns-clause-second_rest c =
    let job = c.args.job in
    let old = c.args.second.now in
    let values = c.args.values.now in
    let counted : (k : ℕ) → get_or values (2 * k + 1) (pos 0) ≡ get_or values (2 * k + 1) (pos 0) = λ k. let e : (2 * k + 1) ≡ 2 * k + 1 = omega arith in ap (λ (n : ℕ). get_or values n (pos 0)) e in
    let put = c.put_in_turn.ensures.second_stack (all-rows job.layout.now job.size old c.requires.second_cut) in
    put-rest 2 1 job.layout.now job.size old job.place.sx job.place.sy values c.put_in_turn.new.second c.requires.second_cut (λ k. get_or values (2 * k + 1) (pos 0)) counted put job.lowest c.put_rect-2.new.plane c.requires.job.lowest c.put_rect-2.ensures

pub returns-clause-second_cut : goal.returns-clause-second_cut
returns-clause-second_cut c =
    let job = c.args.job in
    let old = c.args.second.now in
    let values = c.args.values.now in
    let counted : (k : ℕ) → get_or values (2 * k + 1) (pos 0) ≡ get_or values (2 * k + 1) (pos 0) = λ k. let e : (2 * k + 1) ≡ 2 * k + 1 = omega arith in ap (λ (n : ℕ). get_or values n (pos 0)) e in
    let put = c.put_in_turn.ensures.second_stack (all-rows job.layout.now job.size old c.requires.second_cut) in
    let takes = put-takes 2 1 job.layout.now job.size old job.place.sx job.place.sy values c.put_in_turn.new.second c.requires.second_cut (λ k. get_or values (2 * k + 1) (pos 0)) counted put job.lowest c.put_rect-2.new.plane c.requires.job.lowest c.put_rect-2.ensures in
    cut-after 2 1 job.layout.now job.size old job.place.sx job.place.sy job.lowest values c.put_rect-2.new.plane c.put_in_turn.new.second c.requires.second_cut takes c.put_rect-2.ensures c.requires.short c.put_in_turn.ensures.second_same
