-- The words that ask `check` for a schedule, as a schedule's line has them.
use Rattle.std.specs.Prelude.{◌≡◌, ◌≤◌, ◌<◌, ◌^◌, ◌==◌, ℕ, List, [], ◌∷◌, ◌++◌, codes, decimal, Some, Ok, if◌then◌else◌}
use Rattle.channel_schedule.specs.declared.schedule.Schedule.{Schedule}
use Rattle.channel_schedule.specs.Rates.{IsSchedule}
use Rattle.vc2_words.specs.Commands.{check}
use Rattle.vc2_cli.specs.Texts.{schedule_line}
use Rattle.vc2_cli.specs.Words.{words_ask}

-- `rate=..`
abbrev pub rate_word : Schedule → List ℕ
rate_word s = codes "rate=" ++ (decimal s.rate.num ++ (codes "/" ++ decimal s.rate.den))

-- `delay=..`
abbrev pub delay_word : Schedule → List ℕ
delay_word s = codes "delay=" ++ decimal s.delay

-- `buffer=..`
abbrev pub buffer_word : Schedule → List ℕ
buffer_word s = codes "buffer=" ++ decimal s.size

-- `idle=..`
abbrev pub idle_word : Schedule → List ℕ
idle_word s = codes "idle=" ++ decimal s.idle

-- idle slots are told where there are some
abbrev pub idle_words : Schedule → List (List ℕ)
idle_words s = if s.idle == 0 then [] else idle_word s ∷ []

-- the operands that name a schedule
abbrev pub operands_of : Schedule → List (List ℕ)
operands_of s = rate_word s ∷ delay_word s ∷ buffer_word s ∷ idle_words s

-- the words with which check replays it
abbrev pub words_of : Schedule → List (List ℕ)
words_of s = codes "check" ∷ operands_of s

-- words with a space between them
abbrev pub spaced_words : List (List ℕ) → List ℕ
spaced_words [] = []
spaced_words (word ∷ []) = word
spaced_words (word ∷ other ∷ words) = word ++ (codes " " ++ spaced_words (other ∷ words))

-- numbers that words can have
pub record HasWords (s : Schedule) : Type 0 where
  pub lawful : IsSchedule s
  pub bytes : s.rate.num < 2 ^ 32
  pub slots : s.rate.den < 2 ^ 32
  pub size : s.size ≤ 2 ^ 40
  pub idle : s.idle ≤ 2 ^ 20

-- The line is the operands with a space between them, and the words ask for the schedule.
pub record LineIsRead (s : Schedule) : Type 0 where
  pub line : schedule_line s ≡ spaced_words (operands_of s) ++ 10 ∷ []
  pub asked : words_ask (words_of s) ≡ Ok (check (Some s))
