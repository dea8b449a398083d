-- `write_record`: the line fits in the sheet. Assumes nothing.
use Rattle.std.proofs.Common.{sym, arith, length-take-le}
use Rattle.lister.proofs.Fitting.{line_ends}
use Rattle.lister.proofs.write_record.Goals as goal

pub slice_bounds-write_all-end : goal.slice_bounds-write_all-end
slice_bounds-write_all-end c =
    let z = line_ends _ _ _ (omega arith) (λ i. omega (arith, c.type_inv.pool i)) c.requires c.line-end.ensures in
    let k = c.line-end.auto.out in
    omega arith

pub slice_bounds-write_all-end-2 : goal.slice_bounds-write_all-end-2
slice_bounds-write_all-end-2 c = sym (length-take-le _ _ (slice_bounds-write_all-end c))
