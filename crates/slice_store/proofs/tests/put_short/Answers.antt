use Rattle.std.proofs.Common.{sym, subst, ℤ}
use Rattle.slice_store.specs.Store.{Store}
use Rattle.slice_store.specs.ShortBands.{IsShortSound}
use Rattle.slice_store.proofs.Lowest.{short_kept}
use Rattle.slice_store.proofs.tests.put_short.Goals as goal

pub returns-clause-sound : goal.returns-clause-sound
returns-clause-sound g c =
    subst (λ (s : Store ℤ). IsShortSound (record { lowest = c.args.short.now.lowest; slices = s })) (sym c.put_run.ensures.same)
    (short_kept c.args.short.now c.put_run.new.self.numbers c.requires.sound)
