-- The units of a stream are those of a grammar.
use Rattle.std.proofs.Common.{refl}
use Rattle.field_rows.specs.Rows.{◌>>=◌, word_under}
use Rattle.run_theory.proofs.GrammarLaws.{IsGrammar}
use Rattle.parse_info.specs.Head.{head_rows}
use Rattle.stream_rows.specs.Units.{unit_head, unit_rows, units}

pub units_laws : IsGrammar units
unfolding unit_rows unit_head head_rows ◌>>=◌ word_under
units_laws = record { some = λ z. tt; short = refl }
