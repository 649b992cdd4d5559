use Rattle.stream_cut.proofs.BySequences as same
use Rattle.stream_cut.proofs.laws.cuts_by_sequences.Goals as goal

pub returns-clause-cuts : goal.returns-clause-cuts
returns-clause-cuts c = same.cuts_by_sequences

pub returns-clause-fronts : goal.returns-clause-fronts
returns-clause-fronts c = same.cut_fronts_by_sequences
