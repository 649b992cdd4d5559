use Rattle.std.proofs.Common.{◌≡◌, ℕ, ◌+◌, ◌-◌, ◌*◌, ◌^◌, ◌<◌, length, take, get_or, pos, ◌∙◌, inl, arith}
use Rattle.std.proofs.lemmas.List.{length-take-le, get_or-take}
use Rattle.std.proofs.lemmas.Grind.{common_steps}
use Rattle.slice_decoder.specs.Jobs.{short_part}
use Rattle.slice_decoder.specs.Components.{Part, quantisers_before}
use Rattle.slice_decoder.specs.Narrow.{block_values}
use Rattle.slice_decoder.proofs.Dealt.{length-dealt}
use Rattle.slice_decoder.proofs.LevelLemmas.{length-places, places_all}
use Rattle.slice_decoder.proofs.Placed.{takes-hold, takes-keep}
use Rattle.slice_decoder.proofs.NarrowBands.{all-small, nothing-read}
use Rattle.slice_decoder.proofs.ShortTakes.{column-inside, row-inside, cut-count, all-few, short-needs-more, short-values}
use Rattle.slice_store.specs.ShortBands.{short_stack}
use Rattle.slice_decoder.proofs.short.read_colour.Goals as goal

pub returns-then-count-buffer-clause-answer : goal.returns-then-count-buffer-clause-answer
returns-then-count-buffer-clause-answer c =
    let part : Part = short_part c.args.job in
    let total : ℕ = 3 * c.args.job.layout.now.depth + 1 in
    inl (omega (arith, c.if-count-buffer.true, c.run_length-count.ensures, cut-count c.args.job.layout.now c.args.job.size c.args.first.now c.args.job.place.sx c.args.job.place.sy c.requires.first_cut, length-dealt c.args.block.now (quantisers_before 2 part total), length-places 2 part total, places_all c.args.job.layout.now c.args.job.size c.args.job.place.sx c.args.job.place.sy))

pub returns-then-count-buffer-clause-first_keeps : goal.returns-then-count-buffer-clause-first_keeps
returns-then-count-buffer-clause-first_keeps c =
    nothing-read (short_part c.args.job) (short_stack c.args.first.now)

pub returns-then-not-read_values-clause-first_keeps : goal.returns-then-not-read_values-clause-first_keeps
returns-then-not-read_values-clause-first_keeps c =
    nothing-read (short_part c.args.job) (short_stack c.args.first.now)

pub returns-then-count-buffer-clause-second_keeps : goal.returns-then-count-buffer-clause-second_keeps
returns-then-count-buffer-clause-second_keeps c =
    nothing-read (short_part c.args.job) (short_stack c.args.second.now)

pub returns-then-not-read_values-clause-second_keeps : goal.returns-then-not-read_values-clause-second_keeps
returns-then-not-read_values-clause-second_keeps c =
    nothing-read (short_part c.args.job) (short_stack c.args.second.now)

pub returns-then-not-read_values-clause-answer : goal.returns-then-not-read_values-clause-answer
returns-then-not-read_values-clause-answer c =
    let part : Part = short_part c.args.job in
    short-needs-more (length c.args.buffer.now) _ (block_values 2 part c.args.block.now) c.read_values.result c.if-not-read_values.true c.read_values.ensures.within

pub returns-clause-answer : goal.returns-clause-answer
returns-clause-answer c =
    let part : Part = short_part c.args.job in
    let total : ℕ = 3 * c.args.job.layout.now.depth + 1 in
    let n : ℕ = (2 * c.run_length-count.result) in
    let count : n ≡ length (quantisers_before 2 part total) =
    omega (
      arith,
      length-places 2 part total,
      places_all c.args.job.layout.now c.args.job.size c.args.job.place.sx c.args.job.place.sy,
      c.run_length-count.ensures,
      cut-count c.args.job.layout.now c.args.job.size c.args.first.now c.args.job.place.sx c.args.job.place.sy c.requires.first_cut,
    ) in
    let agree : (j : ℕ) → j < length (quantisers_before 2 part total)
    → get_or (take n c.read_values.new.buffer) j (pos 0) ≡ get_or (block_values 2 part c.args.block.now) j (pos 0) =
    λ j lt. get_or-take n c.read_values.new.buffer j (pos 0) (omega (arith, lt, count))
    ∙ c.read_values.ensures.values c.if-not-read_values.false j (omega (arith, lt, count)) in (
      all-small (2 ^ 14 - 1) (block_values 2 part c.args.block.now) n c.read_values.result (omega arith) c.if-not-read_values.false
          (omega (arith, count, length-dealt c.args.block.now (quantisers_before 2 part total))) c.read_values.ensures.within,
      (
        takes-hold 2 0 part total c.args.block.now (take n c.read_values.new.buffer) (short_stack c.args.first.now) (short_stack c.put_in_turn.new.first)
            (omega arith) agree c.put_in_turn.ensures.first_takes,
        takes-hold 2 1 part total c.args.block.now (take n c.read_values.new.buffer) (short_stack c.args.second.now) (short_stack c.put_in_turn.new.second)
            (omega arith) agree c.put_in_turn.ensures.second_takes,
      ),
    )

pub returns-clause-first_keeps : goal.returns-clause-first_keeps
returns-clause-first_keeps c =
    let part : Part = short_part c.args.job in
    let total : ℕ = 3 * c.args.job.layout.now.depth + 1 in
    takes-keep 2 0 part total (take (2 * c.run_length-count.result) c.read_values.new.buffer) (short_stack c.args.first.now) (short_stack c.put_in_turn.new.first)
    c.put_in_turn.ensures.first_takes c.put_in_turn.ensures.first_rest

pub returns-clause-second_keeps : goal.returns-clause-second_keeps
returns-clause-second_keeps c =
    let part : Part = short_part c.args.job in
    let total : ℕ = 3 * c.args.job.layout.now.depth + 1 in
    takes-keep 2 1 part total (take (2 * c.run_length-count.result) c.read_values.new.buffer) (short_stack c.args.second.now) (short_stack c.put_in_turn.new.second)
    c.put_in_turn.ensures.second_takes c.put_in_turn.ensures.second_rest

pub put_in_turn-requires-clause-short : goal.put_in_turn-requires-clause-short
put_in_turn-requires-clause-short c =
    let part : Part = short_part c.args.job in
    let n : ℕ = 2 * c.run_length-count.result in
    let out = c.read_values.new.buffer in
    let good = c.if-not-read_values.false in
    let long : length (take n out) ≡ n = length-take-le n out (omega (arith, c.read_values.auto.buffer, c.if-count-buffer.false)) in
    short-values n (block_values 2 part c.args.block.now) (take n out) c.read_values.result good c.read_values.ensures.within long
    (λ k lt. get_or-take n out k (pos 0) lt ∙ c.read_values.ensures.values good k lt)

pub overflow_mul-count : goal.overflow_mul-count
overflow_mul-count c =
    let job = c.args.job in
    let few = all-few job.layout.now job.size job.place.sx job.place.sy job.areas.now c.requires.job.few c.depth.ensures.allowed.depth c.requires.job.areas in
    omega (arith, few, c.run_length-count.ensures, cut-count job.layout.now job.size c.args.first.now job.place.sx job.place.sy c.requires.first_cut)

pub overflow_add-count : goal.overflow_add-count
overflow_add-count c =
    let job = c.args.job in
    let few = all-few job.layout.now job.size job.place.sx job.place.sy job.areas.now c.requires.job.few c.depth.ensures.allowed.depth c.requires.job.areas in
    omega (arith, few, c.run_length-count.ensures, cut-count job.layout.now job.size c.args.first.now job.place.sx job.place.sy c.requires.first_cut)

pub read_values-requires-clause-count : goal.read_values-requires-clause-count
read_values-requires-clause-count c =
    omega (arith, c.run_length-count.ensures, cut-count c.args.job.layout.now c.args.job.size c.args.first.now c.args.job.place.sx c.args.job.place.sy c.requires.first_cut)

pub put_in_turn-requires-clause-count : goal.put_in_turn-requires-clause-count
put_in_turn-requires-clause-count c =
    let n : ℕ = 2 * c.run_length-count.result in
    let out = c.read_values.new.buffer in
    omega (arith, length-take-le n out (omega (arith, c.read_values.auto.buffer, c.if-count-buffer.false)), c.run_length-count.ensures, cut-count c.args.job.layout.now c.args.job.size c.args.first.now c.args.job.place.sx c.args.job.place.sy c.requires.first_cut)

pub slice_bounds-put_in_turn-end-2 : goal.slice_bounds-put_in_turn-end-2
slice_bounds-put_in_turn-end-2 c = grind (arith, common_steps)

pub run_length-count-requires-clause-across : goal.run_length-count-requires-clause-across
run_length-count-requires-clause-across c = column-inside c.args.job.layout.now c.args.job.size c.args.first.now c.args.job.place.sx c.requires.first_cut c.requires.job.across

pub run_length-count-requires-clause-down : goal.run_length-count-requires-clause-down
run_length-count-requires-clause-down c = row-inside c.args.job.layout.now c.args.job.size c.args.first.now c.args.job.place.sy c.requires.first_cut c.requires.job.down
