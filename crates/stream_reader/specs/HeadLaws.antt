-- The laws of the table of units by their heads alone.
use Rattle.std.proofs.Common.{refl}
use Rattle.field_rows.specs.Rows.{◌>>=◌, word_under}
use Rattle.parse_info.specs.Head.{head_rows}
use Rattle.run_theory.specs.GrammarLaws.{IsGrammar}
use Rattle.stream_reader.specs.HeadUnits.{head_only_head, head_only_unit, heads}

pub heads_laws : IsGrammar heads
unfolding head_only_unit head_only_head head_rows ◌>>=◌ word_under
heads_laws = record { some = λ place. tt; short = refl }
