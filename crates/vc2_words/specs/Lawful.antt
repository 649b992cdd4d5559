-- Settings that a stream can be written with.
use Rattle.std.specs.Prelude.{◌≡◌, ◌≤◌, ◌<◌, ◌^◌, ◌%◌, ℕ, Option, None, Some}
use Rattle.sequence_header.specs.Checking as checking
use Rattle.transform_params.specs.ParameterFields.{AreLawfulParams}
use Rattle.channel_schedule.specs.declared.schedule.Schedule.{Schedule}
use Rattle.channel_schedule.specs.Rates.{IsRate, IsSchedule}
use Rattle.vc2_words.specs.declared.settings.CutSettings.{CutSettings}
use Rattle.vc2_words.specs.declared.settings.FieldVideo.{FieldVideo}
use Rattle.vc2_words.specs.declared.words.TrialPart.{TrialPart}
use Rattle.vc2_words.specs.Settings.{Asked, asked_length}

-- A group has a picture, and where pictures are fields it has whole frames.
abbrev pub IsAskedGroup : ℕ → Option ℕ → Type 0
IsAskedGroup coding None = Unit {0}
IsAskedGroup coding (Some group) = (1 ≤ group) × (group < 2 ^ 32) × (coding ≡ 1 → group % 2 ≡ 0)

-- The header and the parameters break no rule, and each number is one that its field holds.
pub record AreLawfulWords (s : Asked) : Type 0 where
  pub header : checking.IsLawfulHeader s.parts
  pub params : AreLawfulParams s.params
  pub first : s.first < 2 ^ 32
  pub even : s.parts.coding ≡ 1 → s.first % 2 ≡ 0
  pub rate : IsRate s.rate
  pub bytes : s.rate.num < 2 ^ 32
  pub slots : s.rate.den < 2 ^ 32
  pub group : IsAskedGroup s.parts.coding s.group
  pub idle : s.idle ≤ 2 ^ 20

-- A schedule, with at most so many idle slots.
pub record IsAskedSchedule (s : Schedule) : Type 0 where
  pub schedule : IsSchedule s
  pub idle : s.idle ≤ 2 ^ 20

-- Raw fields: a header of fields that breaks no rule.
pub record IsFieldVideo (video : FieldVideo) : Type 0 where
  pub header : checking.IsLawfulHeader video.header
  pub fields : video.header.coding ≡ 1

-- A trial: its fields make whole frames, and their stream is no longer than 2 ^ 28 bytes.
pub record IsTrial (s : Asked) (part : TrialPart) : Type 0 where
  pub settings : AreLawfulWords s
  pub seed : part.seed ≤ 65535
  pub some : 1 ≤ part.pictures
  pub few : part.pictures ≤ 1000
  pub even : s.parts.coding ≡ 1 → part.pictures % 2 ≡ 0
  pub short : asked_length s.parts s.params s.group part.pictures ≤ 2 ^ 28

-- A cut: some frames, a rate, and at most so many idle slots. Each number is one that its field holds.
pub record IsCutSettings (c : CutSettings) : Type 0 where
  pub some : c.from < c.to
  pub last : c.to < 2 ^ 32
  pub rate : IsRate c.rate
  pub bytes : c.rate.num < 2 ^ 32
  pub slots : c.rate.den < 2 ^ 32
  pub idle : c.idle ≤ 2 ^ 20
