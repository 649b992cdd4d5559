-- The words: what is seen of them where they were read, and their last rule.
use Rattle.std.specs.Prelude.{ℕ, ◌+◌, ◌*◌, nat_le, max, Bool, List, Result, Ok, Err, if◌then◌else◌}
use Rattle.std.specs.List.{list_all}
use Rattle.sequence_header.specs.Coding.{luma_depth, colour_depth}
use Rattle.vc2_words.specs.declared.keys.WordFault.{WordFault}
use Rattle.vc2_words.specs.declared.keys.WordFault.TheVariants.{SettingsRefused}
use Rattle.vc2_words.specs.declared.keys.Rule.TheVariants.{MatrixTooSteep}
use Rattle.vc2_words.specs.declared.words.Command.{Command}
use Rattle.vc2_words.specs.Settings.{Asked}
use Rattle.vc2_words.specs.Commands.{AskedCommand, encode, trial, command_seen, asked_by}

-- the command that they ask for, or their fault
abbrev pub seen_words : Result Command WordFault → Result AskedCommand WordFault
seen_words (Ok command) = Ok (command_seen command)
seen_words (Err fault) = Err fault

-- ---- the last rule of settings: each entry of the matrix leaves index 127 so coarse that every slice can be written

-- the greater of luma's and colour's depth in bits
abbrev pub greater_depth : Asked → ℕ
greater_depth s = max (luma_depth s.parts) (colour_depth s.parts)

-- at index 127 each quantiser makes 0 of each coefficient of any picture, so there is an index for each slice
abbrev pub is_steep_ok : Asked → Bool
is_steep_ok s =
    list_all (λ entry. nat_le (entry + 4 * (greater_depth s + 2 + 3 * s.params.slicing.depth)) 127) s.params.matrix.entries

-- a command, if its matrix passes
abbrev pub if_steep_ok : Asked → AskedCommand → Result AskedCommand WordFault
if_steep_ok s command = if is_steep_ok s then Ok command else Err (SettingsRefused MatrixTooSteep)

-- what is asked for, if its matrix passes
abbrev pub checked : Result AskedCommand WordFault → Result AskedCommand WordFault
checked (Ok (encode s)) = if_steep_ok s (encode s)
checked (Ok (trial s part)) = if_steep_ok s (trial s part)
checked other = other

-- the words' command, or their first fault
abbrev pub words_ask : List (List ℕ) → Result AskedCommand WordFault
words_ask words = checked (asked_by words)
