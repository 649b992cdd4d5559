-- What an item tells of a unit.
use Rattle.std.specs.Prelude.{Bool, true, false}
use Rattle.stream_reader.specs.declared.stop.Item.{Item}
use Rattle.stream_reader.specs.declared.stop.Item.TheVariants as items

-- an item tells a sequence that begins
abbrev pub tells_sequence : Item → Bool
tells_sequence items.Sequence = true
tells_sequence other = false

-- an item tells a picture
abbrev pub tells_picture : Item → Bool
tells_picture (items.Picture number) = true
tells_picture other = false
