-- What the program does with its words and its streams: a run, and its exit status.
use Rattle.std.specs.Prelude.{◌≡◌, ◌+◌, ℕ, List, IfSome, IfErr, ◌⊎◌}
use Rattle.std.specs.Io.KnownBytes.{Appends, Keeps}
use Rattle.std.specs.declared.io.ErrorKind.{ErrorKind}
use Rattle.std.specs.declared.io.ErrorKind.TheVariants as kinds
use Rattle.vc2_io.specs.declared.TheConstants.{INPUT_LIMIT}
use Rattle.vc2_io.specs.Outside.{GrewShort}
use Rattle.run_theory.specs.Ran.{TakesAtMost}
use Rattle.vc2_cli.specs.declared.status.Status.{Status}
use Rattle.vc2_cli.specs.declared.status.Status.TheVariants as st
use Rattle.run_theory.specs.Runs.{Change, HasNoNewFault, IsUntouched}
use Rattle.vc2_cli.specs.Exit.{exit_code_of}
use Rattle.vc2_cli.specs.Trial.{trial_text}
use Rattle.vc2_cli.specs.Words.{words_ask}
use Rattle.vc2_cli.specs.Reply.{reply_to, due_to, ReadsAll, IsStatusOf, Breaks, Stops, StopsShort, HasCauses, AnswersUsage, AnswersTrial, IfTrial, IfHeader}
use Rattle.vc2_cli.specs.Soon.{StopsSoon, IfReads}

-- What a run with these words comes to, of the source and the sinks before and after it. The first clauses are of an input
-- that the source tells, the last ones of every source: of bytes they too speak only where source and sinks tell theirs.
pub record ProgramRan (words : List (List ℕ)) (src out note : Change) (told : Status) : Type 0 where
  -- The status is that of the reply to these words and this input, or something outside failed.
  pub status : IfSome src.was (λ input. IsStatusOf (reply_to words input) told)
  -- Where it is the reply's, both texts were written, and all of them.
  pub texts : IfSome src.was (λ input. let reply = reply_to words input in told ≡ reply.status
      → Appends out.was out.is reply.out × Appends note.was note.is reply.note)
  -- `Done` and `Schedule` leave of the input what the reply says: of a command that reads to the end, nothing.
  pub done : IfSome src.was (λ input. ReadsAll told → IfSome src.is (λ left. left ≡ (reply_to words input).rest))
  -- Where a read failed, all that was due for the bytes that were taken was written, and no note.
  pub read_fault : IfSome src.was (λ input. told ≡ st.ReadFault → Breaks (due_to words) input src.is out.was out.is
      × Keeps note.was note.is)
  -- Where a write of the output failed, a proper prefix of the reply's text was written, no note, and no later than 4096
  -- bytes after it was due.
  pub out_fault : IfSome src.was (λ input. told ≡ st.OutFault
      → StopsShort (reply_to words input) (due_to words) input src.is out.was out.is × Keeps note.was note.is)
  -- Where no memory was found, a prefix of the reply's text was written, as promptly, and no note.
  pub no_memory : IfSome src.was (λ input. told ≡ st.NoMemory
      → Stops (reply_to words input) (due_to words) input src.is out.was out.is × Keeps note.was note.is)
  -- Where a write of the note failed, all of the output was written, and a proper prefix of the note.
  pub note_fault : IfSome src.was (λ input. let reply = reply_to words input in told ≡ st.NoteFault
      → Appends out.was out.is reply.out × GrewShort note.was note.is reply.note)
  -- A command takes fewer than 4096 bytes behind a refusal, which came with it in one read, or of raw video in one piece, and
  -- `header` none: without its last 4096 bytes, or its last byte, what was taken is not refused as an input of its own,
  -- unless for a field or a picture that is short, or half a frame. Where a read of a command over the units of a stream
  -- failed, all that was taken is not.
  pub soon : IfSome src.was (λ input. IfReads (words_ask words) (λ stops. StopsSoon (reply_to words) stops input src.is told))
  -- At most 2^40 bytes and one more are taken, however the run comes out.
  pub limit : TakesAtMost (INPUT_LIMIT + 1) src.was src.is
  -- A fault is answered only where its object's count rose. So a failed read ends the run, and is never taken for the end
  -- of input.
  pub causes : HasCauses src out note told
  -- Words that are refused are refused, nothing is read, and nothing is written to `out`.
  pub usage : IfErr (words_ask words) (λ fault. AnswersUsage fault note.was note.is told × (src.is ≡ src.was)
      × (out.is ≡ out.was))
  -- `trial` reads nothing, writes its text and no note, and ends otherwise only where a write of the output failed or no
  -- memory was found.
  pub trial : IfTrial (words_ask words) (λ s part. AnswersTrial (trial_text s part) out.was out.is note.was note.is told
      × (src.is ≡ src.was) × HasNoNewFault src)
  -- `header` takes at most 250 bytes, however it comes out.
  pub header : IfHeader (words_ask words) (TakesAtMost 250 src.was src.is)

-- The exit status is that of a run with these words; or no memory was found for the words.
abbrev pub Exits : List (List ℕ) → Change → Change → Change → ℕ → Type 0
Exits words src out note code = ((told : Status) × ProgramRan words src out note told × (code ≡ exit_code_of told))
    ⊎ ((code ≡ exit_code_of st.NoMemory) × IsUntouched src × IsUntouched out × IsUntouched note)

-- the exit status where the system gives no words
abbrev pub exit_of_kind : ErrorKind → ℕ
exit_of_kind kinds.OutOfMemory = exit_code_of st.NoMemory
exit_of_kind _ = 6
