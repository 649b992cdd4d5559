use Rattle.std.proofs.Common.{◌≡◌, ℕ, ◌+◌, ◌*◌, ◌<◌, length, get_or, pos, arith}
use Rattle.std.proofs.lemmas.List.{length-take-le}
use Rattle.slice_decoder.specs.Dealing.{dealt}
use Rattle.slice_decoder.specs.Jobs.{part_in}
use Rattle.slice_decoder.specs.Components.{Part, quantisers_before}
use Rattle.slice_decoder.proofs.LevelLemmas.{length-places, places_all}
use Rattle.slice_decoder.proofs.Placed.{takes-hold, takes-keep}
use Rattle.slice_decoder.proofs.components.read_colour.Goals as goal

pub returns-clause-first : goal.returns-clause-first
returns-clause-first c good =
    let part : Part = part_in c.args.job in
    let total : ℕ = 3 * c.args.job.layout.now.depth + 1 in
    let agree : (j : ℕ) → j < length (quantisers_before 2 part (3 * c.args.job.layout.now.depth + 1)) → get_or c.read_values.new.values j (pos 0) ≡ get_or (dealt c.args.block.now (quantisers_before 2 part (3 * c.args.job.layout.now.depth + 1))) j (pos 0) =
    λ j lt. c.read_values.ensures.values c.if-not-read_values.false j (omega (arith, lt, length-places 2 part total, places_all c.args.job.layout.now c.args.job.size c.args.job.place.sx c.args.job.place.sy, c.count_places-count.ensures.count, length-take-le (2 * c.count_places-count.result) c.args.buffer.now c.if-count-buffer.false)) in
    takes-hold 2 0 part (3 * c.args.job.layout.now.depth + 1) c.args.block.now c.read_values.new.values c.args.first.now c.put_values.new.bands (omega arith) agree c.put_values.ensures.takes

pub returns-clause-first_keeps : goal.returns-clause-first_keeps
returns-clause-first_keeps c =
    let part : Part = part_in c.args.job in
    let total : ℕ = 3 * c.args.job.layout.now.depth + 1 in
    takes-keep 2 0 part (3 * c.args.job.layout.now.depth + 1) c.read_values.new.values c.args.first.now c.put_values.new.bands c.put_values.ensures.takes c.put_values.ensures.rest

pub returns-clause-second : goal.returns-clause-second
returns-clause-second c good =
    let part : Part = part_in c.args.job in
    let total : ℕ = 3 * c.args.job.layout.now.depth + 1 in
    let agree : (j : ℕ) → j < length (quantisers_before 2 part (3 * c.args.job.layout.now.depth + 1)) → get_or c.read_values.new.values j (pos 0) ≡ get_or (dealt c.args.block.now (quantisers_before 2 part (3 * c.args.job.layout.now.depth + 1))) j (pos 0) =
    λ j lt. c.read_values.ensures.values c.if-not-read_values.false j (omega (arith, lt, length-places 2 part total, places_all c.args.job.layout.now c.args.job.size c.args.job.place.sx c.args.job.place.sy, c.count_places-count.ensures.count, length-take-le (2 * c.count_places-count.result) c.args.buffer.now c.if-count-buffer.false)) in
    takes-hold 2 1 part (3 * c.args.job.layout.now.depth + 1) c.args.block.now c.read_values.new.values c.args.second.now c.put_values-2.new.bands (omega arith) agree c.put_values-2.ensures.takes

pub returns-clause-second_keeps : goal.returns-clause-second_keeps
returns-clause-second_keeps c =
    let part : Part = part_in c.args.job in
    let total : ℕ = 3 * c.args.job.layout.now.depth + 1 in
    takes-keep 2 1 part (3 * c.args.job.layout.now.depth + 1) c.read_values.new.values c.args.second.now c.put_values-2.new.bands c.put_values-2.ensures.takes c.put_values-2.ensures.rest
