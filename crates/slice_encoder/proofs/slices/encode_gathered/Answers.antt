-- `c.requires` is a tuple here, since the function has a ghost value: some, most, count, ready, gathered, near, steep, room, writer.
use Rattle.std.proofs.Common.{◌≡◌, ◌∙◌, ℕ, length, sym, subst}
use Rattle.bit_codes.specs.Bits.{bits_of}
use Rattle.slice_encoder.specs.Trials.{CodedPicture}
use Rattle.slice_encoder.specs.Tries.{tried_lists}
use Rattle.slice_encoder.specs.Choice.{IsLeastIndex, slice_bits}
use Rattle.slice_encoder.specs.Buffers.{HoldsLists, high_lists, lists_held}
use Rattle.slice_encoder.specs.Jobs.{picture_of}
use Rattle.slice_encoder.proofs.Encoding.{bits_as, held, holds_own}
use Rattle.slice_encoder.proofs.slices.encode_gathered.Goals as goal

pub put-requires : goal.put-requires
put-requires g c =
    let a = c.args in
    let found = c.find_least-found in
    let j : CodedPicture = picture_of a.job g.coefficients in
    let index : ℕ = found.result.index in
    let ready = c.requires.1.1.1.0 in
    let holds =
    subst (λ (n : ℕ). HoldsLists (lists_held j a.job.sx a.job.sy index found.result.trying found.new.luma found.new.colour) (high_lists j index a.job.sx a.job.sy) n found.result.trying found.new.luma found.new.colour) c.requires.1.1.0
    (holds_own (tried_lists j a.kept.now a.job.sx a.job.sy index) (high_lists j index a.job.sx a.job.sy) a.job.bytes found.result.trying found.new.luma found.new.colour found.ensures.holds)
    in
    (c.requires.0, (c.requires.1.0, (ready.across, (ready.down, (ready.entries, (found.ensures.least.most, (c.requires.1.1.1.1.0, (c.requires.1.1.1.1.1.1.1.1, (holds, found.ensures.holds.fit ∙ found.ensures.least.fit)))))))))

pub returns-clause-slice : goal.returns-clause-slice
returns-clause-slice g c =
    let a = c.args in
    let found = c.find_least-found in
    let j : CodedPicture = picture_of a.job g.coefficients in
    let index : ℕ = found.result.index in
    let same_length : length a.bytes.now ≡ length c.put.new.bytes = sym c.put.auto.bytes in
    let holds = found.ensures.holds in
    let same_lists = held (tried_lists j a.kept.now a.job.sx a.job.sy index) (high_lists j index a.job.sx a.job.sy) a.job.bytes found.result.trying found.new.luma found.new.colour holds in
    record {
      least = subst (λ (n : ℕ). IsLeastIndex n (tried_lists j a.kept.now a.job.sx a.job.sy) index) (c.requires.1.1.0 ∙ same_length) found.ensures.least;
      luma_bits = holds.luma_need;
      bits = subst (λ (n : ℕ). bits_of c.put.new.bytes ≡ slice_bits n index (tried_lists j a.kept.now a.job.sx a.job.sy index)) same_length (bits_as (bits_of c.put.new.bytes) (length a.bytes.now) index _ (tried_lists j a.kept.now a.job.sx a.job.sy index) same_lists c.put.ensures.bits);
    }
