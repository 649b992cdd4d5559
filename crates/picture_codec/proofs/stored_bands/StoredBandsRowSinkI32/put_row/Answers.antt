use Rattle.std.proofs.Common.{arith}
use Rattle.picture_codec.proofs.stored_bands.StoredBandsRowSinkI32.put_row.Goals as goal

pub returns-clause-put : goal.returns-clause-put
returns-clause-put c =
    let put = c.put_row.ensures.stack c.requires.open in
    record { sizes = put.sizes; here = put.here; others = put.others }
