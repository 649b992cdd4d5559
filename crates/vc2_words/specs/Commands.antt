-- What the words ask for: a command with its settings, or the first fault.
use Rattle.std.specs.Prelude.{ℕ, Bool, List, [], ◌∷◌, slice_index, Option, Some, None, Result, Ok, Err}
use Rattle.vc2_words.specs.declared.keys.Name.{Name}
use Rattle.vc2_words.specs.declared.keys.Name.TheVariants as names
use Rattle.vc2_words.specs.declared.keys.Key.TheVariants as of_key
use Rattle.vc2_words.specs.declared.keys.Rule as settings
use Rattle.vc2_words.specs.declared.keys.WordFault.{WordFault}
use Rattle.vc2_words.specs.declared.keys.WordFault.TheVariants as faults
use Rattle.channel_schedule.specs.declared.schedule.Rate.{Rate}
use Rattle.channel_schedule.specs.declared.schedule.Schedule.{Schedule}
use Rattle.field_rows.specs.Rows.{first_broken}
use Rattle.vc2_words.specs.declared.settings.CutSettings.{CutSettings}
use Rattle.vc2_words.specs.declared.settings.FieldVideo.{FieldVideo}
use Rattle.vc2_words.specs.declared.words.TrialPart.{TrialPart}
use Rattle.vc2_words.specs.declared.words.Command.{Command}
use Rattle.vc2_words.specs.declared.words.Command.TheVariants as commands
use Rattle.vc2_words.specs.Keys.{name_of}
use Rattle.field_rows.specs.Rows.{and_then}
use Rattle.vc2_words.specs.Operands.{Table, value_of, operands_of}
use Rattle.vc2_words.specs.Settings.{Asked, asked_of, broken_rule, field_parts, field_rules, video_of, cut_of, cut_rules, is_top, given_number, rate_given, buffer_given}
use Rattle.vc2_words.specs.Shown.{shown}

-- what words ask for: a command with its settings
pub data AskedCommand : Type 0 where
  chain : AskedCommand
  header : AskedCommand
  decode : AskedCommand
  check : Option Schedule → AskedCommand
  encode : Asked → AskedCommand
  trial : Asked → TrialPart → AskedCommand
  weave : FieldVideo → AskedCommand
  split : FieldVideo → AskedCommand
  frames : (top : Bool) → AskedCommand
  proxy : ℕ → AskedCommand
  cut : CutSettings → AskedCommand

-- a schedule, where all of it is given, with so many idle slots
abbrev pub schedule_from : Option Rate → Option (List ℕ) → Option ℕ → ℕ → Option Schedule
schedule_from (Some rate) (Some delay) (Some size) idle =
    Some (record { rate = rate; delay = slice_index delay 0; size = size; idle = idle })
schedule_from rate delay size idle = None

-- the schedule that is given, if one is
abbrev pub schedule_of : Table → Option Schedule
schedule_of given = schedule_from (rate_given (value_of given of_key.Rate)) (value_of given of_key.Delay)
    (buffer_given (value_of given of_key.Buffer)) (given_number given of_key.Idle 0)

-- what a trial is asked for beside its stream
abbrev pub part_of : Table → TrialPart
part_of given = record { seed = given_number given of_key.Seed 0; pictures = given_number given of_key.Pictures 0 }

-- the command, or the first rule that its settings break
abbrev pub unless_broken : Option settings.Rule → AskedCommand → Result AskedCommand WordFault
unless_broken None command = Ok command
unless_broken (Some rule) command = Err (faults.SettingsRefused rule)

-- the command of a name with what is given, or the fault of its settings
abbrev pub command_of : Name → Table → Result AskedCommand WordFault
command_of names.Chain given = Ok chain
command_of names.Header given = Ok header
command_of names.Decode given = Ok decode
command_of names.Check given = Ok (check (schedule_of given))
command_of names.Encode given = unless_broken (broken_rule given None) (encode (asked_of given))
command_of names.Trial given =
    unless_broken (broken_rule given (Some (given_number given of_key.Pictures 0))) (trial (asked_of given) (part_of given))
command_of names.Weave given = unless_broken (first_broken (field_rules (field_parts given))) (weave (video_of given))
command_of names.Split given = unless_broken (first_broken (field_rules (field_parts given))) (split (video_of given))
command_of names.Frames given = Ok (frames (is_top given))
command_of names.Proxy given = Ok (proxy (given_number given of_key.Level 0))
command_of names.Cut given = unless_broken (first_broken (cut_rules (cut_of given))) (cut (cut_of given))

-- what the words behind a command's name ask of it
abbrev pub command_named : Option Name → List (List ℕ) → Result AskedCommand WordFault
command_named None words = Err faults.UnknownCommand
command_named (Some name) words = and_then (operands_of name words) (λ given. command_of name given)

-- the words' command, or their first fault
abbrev pub asked_by : List (List ℕ) → Result AskedCommand WordFault
asked_by [] = Err faults.NoCommand
asked_by (word ∷ words) = command_named (name_of word) words

-- what is seen of a command
abbrev pub command_seen : Command → AskedCommand
command_seen commands.Chain = chain
command_seen commands.Header = header
command_seen commands.Decode = decode
command_seen (commands.Check schedule) = check schedule
command_seen (commands.Encode s) = encode (shown s)
command_seen (commands.Trial s part) = trial (shown s) part
command_seen (commands.Weave video) = weave video
command_seen (commands.Split video) = split video
command_seen (commands.Frames top) = frames top
command_seen (commands.Proxy level) = proxy level
command_seen (commands.Cut settings) = cut settings
