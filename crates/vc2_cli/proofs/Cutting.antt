-- `cut` runs as its machine does.
use Rattle.std.proofs.Common.{ℕ, List, Option, Result, Err}
use Rattle.run_theory.specs.Walk.{IsMachine}
use Rattle.run_theory.specs.Runs.{Change, Runs}
use Rattle.run_theory.specs.declared.Halt.{Halt}
use Rattle.run_theory.specs.declared.Halt.TheVariants.{NoMemory}
use Rattle.run_theory.proofs.FrontLaws.{machine_laws}
use Rattle.unit_reader.specs.Soon.{Soon}
use Rattle.unit_reader.proofs.Opens.{IsOpenMachine, opens_machine}
use Rattle.unit_reader.proofs.Exits.{none_soon}
use Rattle.channel_schedule.specs.declared.schedule.Rate.{Rate}
use Rattle.stream_rows.specs.declared.reason.Reason.TheVariants as reasons
use Rattle.stream_rows.specs.Units.{nothing_yet}
use Rattle.stream_rows.specs.Streams.{limit, past_limit}
use Rattle.stream_cut.specs.Skim.{skim_grammar}
use Rattle.stream_cut.specs.SkimGrammar.{skimmed_laws}
use Rattle.stream_cut.specs.Cut.{Frames, CutEnd, Whole, Refused, cutting}
use Rattle.stream_cut.specs.Cut as cutter
use Rattle.stream_cut.specs.Cutter as cutter_runs
use Rattle.vc2_words.specs.declared.settings.CutSettings.{CutSettings}
use Rattle.vc2_cli.specs.declared.status.Ending.{Ending}
use Rattle.vc2_cli.specs.Cut.{ending_of, frames_asked, cut_command_machine}
use Rattle.vc2_cli.specs.Endings.{IsDone, MayEndOtherwise}
use Rattle.vc2_cli.specs.Mapped.{result_told}
use Rattle.vc2_cli.proofs.Mapped.{told_laws, runs_told, soon_told}

cutter_laws : (frames : Frames) → IsMachine (cutter.cut_machine frames)
cutter_laws frames = machine_laws limit past_limit skim_grammar nothing_yet (cutting frames) skimmed_laws

pub cut_laws : (c : CutSettings) → IsMachine (cut_command_machine c)
cut_laws c = told_laws (ending_of c.rate c.idle) (cutter.cut_machine (frames_asked c)) (cutter_laws (frames_asked c))

cutter_opens : (frames : Frames) → IsOpenMachine cutter_runs.MayGoOn (cutter.cut_machine frames)
cutter_opens frames = opens_machine cutter_runs.MayGoOn skim_grammar reasons.StreamTooLong skimmed_laws nothing_yet (cutting frames)
    (record { finished = λ z w unit bytes. tt; rested = λ z w. tt; refused = λ z w fault short. short })

-- an ending is told of an input that was read whole, or that more bytes may change, as it was
done_was : (rate : Rate) (idle : ℕ) (end : CutEnd) → IsDone (ending_of rate idle end) → cutter_runs.IsCutToTheEnd end
done_was rate idle (Whole shapes total) done = tt
done_was rate idle (Refused refusal) done = absurd done

open_is : (rate : Rate) (idle : ℕ) (end : CutEnd) → cutter_runs.MayGoOn end → MayEndOtherwise (ending_of rate idle end)
open_is rate idle (Whole shapes total) goes = tt
open_is rate idle (Refused refusal) goes = goes

pub cut_runs : (c : CutSettings) (src out : Change) (result : Result CutEnd Halt) → Runs (cutter.cut_machine (frames_asked c)) cutter_runs.IsCutToTheEnd src out result → Runs (cut_command_machine c) IsDone src out (result_told (ending_of c.rate c.idle) result)
cut_runs c src out result r = runs_told (ending_of c.rate c.idle) cutter_runs.IsCutToTheEnd IsDone (cutter.cut_machine (frames_asked c)) src out result (done_was c.rate c.idle) r

pub cut_soon : (c : CutSettings) (rest0 rest1 : Option (List ℕ)) (result : Result CutEnd Halt) → Soon cutter_runs.MayGoOn (cutter.cut_machine (frames_asked c)) 4096 rest0 rest1 result → Soon MayEndOtherwise (cut_command_machine c) 4096 rest0 rest1 (result_told (ending_of c.rate c.idle) result)
cut_soon c rest0 rest1 result s = soon_told (ending_of c.rate c.idle) cutter_runs.MayGoOn MayEndOtherwise (cutter.cut_machine (frames_asked c)) 4096 rest0 rest1 result (open_is c.rate c.idle) s

-- no memory was found for the cutter
pub unmade_soon : (c : CutSettings) (rest : Option (List ℕ)) → Soon {X = Ending} MayEndOtherwise (cut_command_machine c) 4096 rest rest (Err NoMemory)
unmade_soon c rest = cut_soon c rest rest (Err NoMemory) (none_soon cutter_runs.MayGoOn (cutter.cut_machine (frames_asked c)) (cutter_laws (frames_asked c)) (cutter_opens (frames_asked c)) rest (Err NoMemory))
