use Rattle.std.proofs.Common.{rules, ◌++◌, ℕ, List, ap, ◌∙◌, arith}
use Rattle.parse_info.specs.Head.{info_at}
use Rattle.parse_info.proofs.WrittenHeads.{read-written_head}
use Rattle.parse_info.proofs.ParseInfo.write.Goals as goal

pub returns-clause-written : goal.returns-clause-written
returns-clause-written c = search rules

pub returns-clause-read_back : goal.returns-clause-read_back
returns-clause-read_back c = λ more. ap (λ (l : List ℕ). info_at (l ++ more)) (returns-clause-written c) ∙ read-written_head c.args.self.now more (omega arith) (omega arith)
