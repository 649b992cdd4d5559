use Rattle.std.proofs.Common.{◌≡◌, ℕ, ◌+◌, ◌*◌, ◌^◌, ◌<◌, length, take, get_or, pos, ◌∙◌, inl, arith}
use Rattle.std.proofs.lemmas.List.{length-take-le, get_or-take}
use Rattle.slice_decoder.specs.Jobs.{part_in}
use Rattle.slice_decoder.specs.Components.{Part, quantisers_before}
use Rattle.slice_decoder.specs.Narrow.{block_values}
use Rattle.slice_decoder.proofs.Dealt.{length-dealt}
use Rattle.slice_decoder.proofs.LevelLemmas.{length-places, places_all}
use Rattle.slice_decoder.proofs.Placed.{takes-hold, takes-keep}
use Rattle.slice_decoder.proofs.NarrowBands.{all-narrow, all-small, needs-more, takes-narrow, nothing-read}
use Rattle.slice_decoder.proofs.narrow.read_colour.Goals as goal

pub returns-then-count-buffer-clause-answer : goal.returns-then-count-buffer-clause-answer
returns-then-count-buffer-clause-answer c =
    let part : Part = part_in c.args.job in
    let total : ℕ = 3 * c.args.job.layout.now.depth + 1 in
    inl (omega (arith, c.if-count-buffer.true, c.count_places-count.ensures.count, length-dealt c.args.block.now (quantisers_before 2 part total), length-places 2 part total, places_all c.args.job.layout.now c.args.job.size c.args.job.place.sx c.args.job.place.sy))

pub returns-then-count-buffer-clause-first_keeps : goal.returns-then-count-buffer-clause-first_keeps
returns-then-count-buffer-clause-first_keeps c =
    nothing-read (part_in c.args.job) c.args.first.now

pub returns-then-not-read_values-clause-first_keeps : goal.returns-then-not-read_values-clause-first_keeps
returns-then-not-read_values-clause-first_keeps c =
    nothing-read (part_in c.args.job) c.args.first.now

pub returns-then-count-buffer-clause-second_keeps : goal.returns-then-count-buffer-clause-second_keeps
returns-then-count-buffer-clause-second_keeps c =
    nothing-read (part_in c.args.job) c.args.second.now

pub returns-then-not-read_values-clause-second_keeps : goal.returns-then-not-read_values-clause-second_keeps
returns-then-not-read_values-clause-second_keeps c =
    nothing-read (part_in c.args.job) c.args.second.now

pub returns-then-not-read_values-clause-answer : goal.returns-then-not-read_values-clause-answer
returns-then-not-read_values-clause-answer c =
    let part : Part = part_in c.args.job in
    needs-more (length c.args.buffer.now) _ (block_values 2 part c.args.block.now) c.read_values.result c.if-not-read_values.true c.read_values.ensures.within

pub returns-clause-answer : goal.returns-clause-answer
returns-clause-answer c =
    let part : Part = part_in c.args.job in
    let total : ℕ = 3 * c.args.job.layout.now.depth + 1 in
    let n : ℕ = (2 * c.count_places-count.result) in
    let count : n ≡ length (quantisers_before 2 part total) =
    omega (
      arith,
      length-places 2 part total,
      places_all c.args.job.layout.now c.args.job.size c.args.job.place.sx c.args.job.place.sy,
      c.count_places-count.ensures.count,
    ) in
    let agree : (j : ℕ) → j < length (quantisers_before 2 part total)
    → get_or (take n c.read_values.new.buffer) j (pos 0) ≡ get_or (block_values 2 part c.args.block.now) j (pos 0) =
    λ j lt. get_or-take n c.read_values.new.buffer j (pos 0) (omega (arith, lt, count))
    ∙ c.read_values.ensures.values c.if-not-read_values.false j (omega (arith, lt, count)) in (
      all-small (2 ^ 18) (block_values 2 part c.args.block.now) n c.read_values.result (omega arith) c.if-not-read_values.false
          (omega (arith, count, length-dealt c.args.block.now (quantisers_before 2 part total))) c.read_values.ensures.within,
      (
        takes-hold 2 0 part total c.args.block.now (take n c.read_values.new.buffer) c.args.first.now c.put_colour.new.first
            (omega arith) agree c.put_colour.ensures.first,
        takes-hold 2 1 part total c.args.block.now (take n c.read_values.new.buffer) c.args.second.now c.put_colour.new.second
            (omega arith) agree c.put_colour.ensures.second,
      ),
    )

pub returns-clause-first_keeps : goal.returns-clause-first_keeps
returns-clause-first_keeps c =
    let part : Part = part_in c.args.job in
    let total : ℕ = 3 * c.args.job.layout.now.depth + 1 in
    takes-keep 2 0 part total (take (2 * c.count_places-count.result) c.read_values.new.buffer) c.args.first.now c.put_colour.new.first
    c.put_colour.ensures.first c.put_colour.ensures.first_rest

pub returns-clause-first_narrow : goal.returns-clause-first_narrow
returns-clause-first_narrow c =
    let part : Part = part_in c.args.job in
    let total : ℕ = 3 * c.args.job.layout.now.depth + 1 in
    let n : ℕ = (2 * c.count_places-count.result) in
    let out = c.read_values.new.buffer in
    let long : length (take n out) ≡ n = length-take-le n out (omega (arith, c.read_values.auto.buffer, c.if-count-buffer.false)) in
    takes-narrow 2 0 c.args.job.layout.now c.args.job.size c.args.job.place.sx c.args.job.place.sy total
    (take n out) c.args.first.now c.put_colour.new.first c.put_colour.ensures.first c.put_colour.ensures.first_rest
    (all-narrow (take n out) (block_values 2 part c.args.block.now) n c.read_values.result c.if-not-read_values.false long
    (λ k lt. get_or-take n out k (pos 0) lt ∙ c.read_values.ensures.values c.if-not-read_values.false k lt) c.read_values.ensures.within)
    c.requires.first_narrow

pub returns-clause-second_keeps : goal.returns-clause-second_keeps
returns-clause-second_keeps c =
    let part : Part = part_in c.args.job in
    let total : ℕ = 3 * c.args.job.layout.now.depth + 1 in
    takes-keep 2 1 part total (take (2 * c.count_places-count.result) c.read_values.new.buffer) c.args.second.now c.put_colour.new.second
    c.put_colour.ensures.second c.put_colour.ensures.second_rest

pub returns-clause-second_narrow : goal.returns-clause-second_narrow
returns-clause-second_narrow c =
    let part : Part = part_in c.args.job in
    let total : ℕ = 3 * c.args.job.layout.now.depth + 1 in
    let n : ℕ = (2 * c.count_places-count.result) in
    let out = c.read_values.new.buffer in
    let long : length (take n out) ≡ n = length-take-le n out (omega (arith, c.read_values.auto.buffer, c.if-count-buffer.false)) in
    takes-narrow 2 1 c.args.job.layout.now c.args.job.size c.args.job.place.sx c.args.job.place.sy total
    (take n out) c.args.second.now c.put_colour.new.second c.put_colour.ensures.second c.put_colour.ensures.second_rest
    (all-narrow (take n out) (block_values 2 part c.args.block.now) n c.read_values.result c.if-not-read_values.false long
    (λ k lt. get_or-take n out k (pos 0) lt ∙ c.read_values.ensures.values c.if-not-read_values.false k lt) c.read_values.ensures.within)
    c.requires.second_narrow

pub put_colour-requires-clause-narrow : goal.put_colour-requires-clause-narrow
put_colour-requires-clause-narrow c =
    let part : Part = part_in c.args.job in
    let n : ℕ = 2 * c.count_places-count.result in
    let out = c.read_values.new.buffer in
    let long : length (take n out) ≡ n = length-take-le n out (omega (arith, c.read_values.auto.buffer, c.if-count-buffer.false)) in
    all-narrow (take n out) (block_values 2 part c.args.block.now) n c.read_values.result c.if-not-read_values.false long
    (λ k lt. get_or-take n out k (pos 0) lt ∙ c.read_values.ensures.values c.if-not-read_values.false k lt) c.read_values.ensures.within
