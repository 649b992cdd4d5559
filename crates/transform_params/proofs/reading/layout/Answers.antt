use Rattle.transform_params.proofs.Allowed.{none_broken}
use Rattle.transform_params.proofs.reading.layout.Goals as goal

pub unreachable-requires : goal.unreachable-requires
unreachable-requires c =
    let x = c.in_ok-slices_x.ensures.range in
    let y = c.in_ok-slices_y.ensures.range in
    let b = c.in_ok-b.ensures.range in
    none_broken _ c.in-Err.field-0
    (record {
      depth = c.in_ok-depth.ensures.range.1;
      slices = record { some_across = x.0; across = x.1; some_down = y.0; down = y.1; count = y.2 };
      share = record { some = b.0; byte = b.1; total = b.2 };
    }) c.in-Err.ensures
