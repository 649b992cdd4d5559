-- `c.requires` is a tuple here, since the function has a ghost value: seen, some, most, count, ready, given, holds, near, steep, room, writer.
use Rattle.std.proofs.Common.{sym, subst}
use Rattle.planes.specs.declared.Trio.{Trio}
use Rattle.slice_encoder.specs.Jobs.{picture_of}
use Rattle.slice_encoder.specs.GatheredSlices.{AreAllGathered}
use Rattle.slice_encoder.specs.Ready.{AreGiven}
use Rattle.slice_encoder.proofs.slices.encode_rows.Goals as goal

pub gather-requires-clause-given : goal.gather-requires-clause-given
gather-requires-clause-given g c = subst (λ (t : Trio). AreGiven (picture_of c.args.job t)) c.requires.0 c.requires.1.1.1.1.1.0

pub encode_gathered-requires : goal.encode_gathered-requires
encode_gathered-requires g c =
    let gathered = subst (λ (t : Trio). AreAllGathered (picture_of c.args.job t) c.args.job.sx c.args.job.sy c.gather.new.self) (sym c.requires.0) c.gather.ensures.gathered in
    (c.requires.1.0, (c.requires.1.1.0, (c.requires.1.1.1.0, (c.requires.1.1.1.1.0, (gathered, (c.requires.1.1.1.1.1.1.1.0, (c.requires.1.1.1.1.1.1.1.1.0, (c.requires.1.1.1.1.1.1.1.1.1.0, c.requires.1.1.1.1.1.1.1.1.1.1))))))))
