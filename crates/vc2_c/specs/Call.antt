-- What a call from C comes to.
use Rattle.std.specs.Prelude.{◌≡◌, ◌<◌, ◌==◌, ℕ, List, [], length, ◌⊎◌}
use Rattle.std.specs.List.{slice_split}
use Rattle.vc2_io.specs.Outside.{IsPrefix, IsProperPrefix}
use Rattle.vc2_cli.specs.Exit.{exit_code_of}
use Rattle.vc2_cli.specs.Reply.{Reply}

-- the words of a text: its pieces between spaces
abbrev pub words_of : List ℕ → List (List ℕ)
words_of text = slice_split (λ byte. byte == 32) text

-- how many bytes a room takes, and those that were written into it, from its front
pub record Filled : Type 0 where
  pub size : ℕ
  pub bytes : List ℕ

-- The text has more bytes than the room takes, and the room is full of its first ones.
abbrev pub Overfills : List ℕ → Filled → Type 0
Overfills text room = (length room.bytes ≡ room.size) × IsProperPrefix room.bytes text

-- The code and both rooms are the reply's; or the room for the output is too small for it; or that for the note is, and the
-- output is all there; or no memory was found, and the output is the reply's as far as it goes.
abbrev pub IsAnswer : Reply → Filled → Filled → ℕ → Type 0
IsAnswer reply out note code =
    ((code < 3) × (code ≡ exit_code_of reply.status) × (out.bytes ≡ reply.out) × (note.bytes ≡ reply.note))
    ⊎ ((code ≡ 4) × Overfills reply.out out × (note.bytes ≡ []))
    ⊎ ((code ≡ 4) × (out.bytes ≡ reply.out) × Overfills reply.note note)
    ⊎ ((code ≡ 5) × IsPrefix out.bytes reply.out × (note.bytes ≡ []))
