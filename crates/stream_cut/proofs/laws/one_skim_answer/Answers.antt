use Rattle.stream_rows.proofs.OneAnswer.{one_answer}
use Rattle.stream_cut.specs.Skim.{skim_rows}
use Rattle.stream_cut.proofs.SkimTables.{skim_table}
use Rattle.stream_cut.proofs.laws.one_skim_answer.Goals as goal

pub returns : goal.returns
returns c = λ bytes. one_answer skim_rows skim_table bytes
