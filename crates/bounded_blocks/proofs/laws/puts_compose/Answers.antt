use Rattle.std.proofs.lemmas.List.Concat.{flat_map-append}
use Rattle.bit_codes.specs.Codes.{signed_code_of}
use Rattle.bounded_blocks.proofs.Put.{puts-join}
use Rattle.bounded_blocks.proofs.laws.puts_compose.Goals as goal

pub returns : goal.returns
returns c = record { texts = puts-join; codes = flat_map-append signed_code_of }
