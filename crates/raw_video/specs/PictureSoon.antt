-- How soon a run over raw video is over behind a refusal.
use Rattle.std.specs.Prelude.{ℕ, List, Option}
use Rattle.vc2_io.specs.declared.TheConstants.{READ_SIZE}
use Rattle.std.specs.Io.KnownBytes.{Consumes}
use Rattle.raw_video.specs.RawParse.{CutAt}
use Rattle.raw_video.specs.PictureRuns.{PictureCommand}
use Rattle.run_theory.specs.Walk.{Machine, answer_to, all_but}

-- A command's endings: one at the end of the input, or inside a picture, may still change.
pub record HasOpenEndings {W E : Type 0} (MayGoOn : E → Type 0) (command : PictureCommand W E) : Type 0 where
  pub finished : (place : ℕ) (own : W) → MayGoOn (command.finished place own)
  pub cut : (at : ℕ) → MayGoOn (command.refused (CutAt at))

-- The run took these bytes. Without the last ones, of which there are at most so many as a read asks for, more bytes may still
-- change what they come to.
pub record PicturesSoon {Z E : Type 0} (MayGoOn : E → Type 0) (machine : Machine Z E) (rest0 rest1 : Option (List ℕ)) : Type 0 where
  pub taken : List ℕ
  pub took : Consumes rest0 rest1 taken
  pub goes : MayGoOn (answer_to machine (all_but READ_SIZE taken)).ending
