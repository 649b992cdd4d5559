use Rattle.quant_factors.proofs.Tables as tables
use Rattle.quant_factors.proofs.QuantLemmas.{magnitude_kept, lossless, error_small, coarser}
use Rattle.quant_factors.proofs.laws.quantisers_are_lawful.Goals as goal

pub returns : goal.returns
returns c = record { rise = tables.factors_rise; magnitude = magnitude_kept; lossless = lossless; error = error_small; coarser = coarser }
