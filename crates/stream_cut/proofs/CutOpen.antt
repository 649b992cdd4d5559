-- An ending of a cut behind which more bytes may come.
use Rattle.unit_reader.proofs.Opens.{IsOpenMachine, opens_machine}
use Rattle.stream_rows.specs.declared.reason.Reason.TheVariants as reasons
use Rattle.stream_rows.specs.Units.{nothing_yet}
use Rattle.stream_cut.specs.Skim.{skim_grammar}
use Rattle.stream_cut.specs.SkimGrammar.{skimmed_laws}
use Rattle.stream_cut.specs.Cut.{Frames, cutting, cut_machine}
use Rattle.stream_cut.specs.Cutter.{MayGoOn}

pub cut_opens : (frames : Frames) → IsOpenMachine MayGoOn (cut_machine frames)
cut_opens frames = opens_machine MayGoOn skim_grammar reasons.StreamTooLong skimmed_laws nothing_yet (cutting frames)
    (record { finished = λ z w unit bytes. tt; rested = λ z w. tt; refused = λ z w fault short. short })
