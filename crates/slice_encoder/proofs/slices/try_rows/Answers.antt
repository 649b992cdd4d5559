-- `c.requires` is a tuple here, since the function has a ghost value: seen, index, some, most, ready, given, holds, room.
use Rattle.std.proofs.Common.{sym, subst}
use Rattle.planes.specs.declared.Trio.{Trio}
use Rattle.slice_encoder.specs.Jobs.{picture_of}
use Rattle.slice_encoder.specs.GatheredSlices.{AreAllGathered}
use Rattle.slice_encoder.specs.Ready.{AreGiven}
use Rattle.slice_encoder.proofs.GatheredLists.{ends_same}
use Rattle.slice_encoder.proofs.slices.try_rows.Goals as goal

pub gather-requires-clause-given : goal.gather-requires-clause-given
gather-requires-clause-given g c = subst (λ (t : Trio). AreGiven (picture_of c.args.job t)) c.requires.0 c.requires.1.1.1.1.1.0

pub looks-looks-requires-clause-ends : goal.looks-looks-requires-clause-ends
looks-looks-requires-clause-ends g c = λ k le.
    let a = c.args in
    let own = c.gather.ensures.gathered in
    ends_same (picture_of a.job a.coefficients.now) 0 a.job.sx a.job.sy c.gather.new.self.c1 c.gather.new.self.c2 own.c1 own.c2 k le

pub try_at-requires : goal.try_at-requires
try_at-requires g c =
    let gathered = subst (λ (t : Trio). AreAllGathered (picture_of c.args.job t) c.args.job.sx c.args.job.sy c.gather.new.self) (sym c.requires.0) c.gather.ensures.gathered in
    (c.requires.1.0, (c.requires.1.1.0, (c.requires.1.1.1.0, (c.requires.1.1.1.1.0, (gathered, (c.looks-looks.ensures, c.requires.1.1.1.1.1.1.1))))))
