-- What a run comes to, by what its command settles.
use Rattle.std.proofs.Common.{◌≡◌, ◌+◌, ℕ, List, IfSome}
use Rattle.std.specs.Prelude.{IfErr}
use Rattle.vc2_io.specs.declared.TheConstants.{INPUT_LIMIT}
use Rattle.run_theory.specs.Ran.{TakesAtMost}
use Rattle.vc2_cli.specs.declared.status.Status.{Status}
use Rattle.run_theory.specs.Runs.{Change, HasNoNewFault}
use Rattle.vc2_cli.specs.Words.{words_ask}
use Rattle.vc2_cli.specs.Trial.{trial_text}
use Rattle.vc2_cli.specs.Soon.{StopsSoon, IfReads}
use Rattle.vc2_cli.specs.Reply.{command_reply, HasCauses, AnswersUsage, AnswersTrial, IfTrial, IfHeader}
use Rattle.vc2_cli.specs.Program.{ProgramRan}
use Rattle.vc2_cli.proofs.Parts.{AllSettled, told_status, told_texts, told_done, told_read_fault, told_out_fault, told_no_memory, told_note_fault}

pub ran_by : (words : List (List ℕ)) (src out note : Change) (told : Status)
    → AllSettled (words_ask words) src.was src.is out.was out.is note.was note.is told
    → IfSome src.was (λ input. IfReads (words_ask words) (λ stops. StopsSoon (command_reply (words_ask words)) stops input src.is told))
    → TakesAtMost (INPUT_LIMIT + 1) src.was src.is → HasCauses src out note told
    → IfErr (words_ask words) (λ fault. AnswersUsage fault note.was note.is told × (src.is ≡ src.was) × (out.is ≡ out.was))
    → IfTrial (words_ask words) (λ s part. AnswersTrial (trial_text s part) out.was out.is note.was note.is told × (src.is ≡ src.was) × HasNoNewFault src)
    → IfHeader (words_ask words) (TakesAtMost 250 src.was src.is) → ProgramRan words src out note told
ran_by words src out note told settled soon limit causes usage trial header = record {
  status = told_status (words_ask words) src.was src.is out.was out.is note.was note.is told settled;
  texts = told_texts (words_ask words) src.was src.is out.was out.is note.was note.is told settled;
  done = told_done (words_ask words) src.was src.is out.was out.is note.was note.is told settled;
  read_fault = told_read_fault (words_ask words) src.was src.is out.was out.is note.was note.is told settled;
  out_fault = told_out_fault (words_ask words) src.was src.is out.was out.is note.was note.is told settled;
  no_memory = told_no_memory (words_ask words) src.was src.is out.was out.is note.was note.is told settled;
  note_fault = told_note_fault (words_ask words) src.was src.is out.was out.is note.was note.is told settled;
  soon = soon;
  limit = limit;
  causes = causes;
  usage = usage;
  trial = trial;
  header = header;
}
