-- `write_last`: the last line fits in the sheet. Assumes nothing.
use Rattle.std.proofs.Common.{sym, rules, arith, length-take-le}
use Rattle.lister.proofs.Fitting.{last_ends}
use Rattle.lister.proofs.write_last.Goals as goal

pub slice_bounds-write_all-end : goal.slice_bounds-write_all-end
slice_bounds-write_all-end c =
    let z = last_ends _ (record { number = search rules; line = search rules; column = search rules; records = search rules; comparisons = search rules }) c.requires c.last-end.ensures in
    let k = c.last-end.auto.out in
    omega arith

pub slice_bounds-write_all-end-2 : goal.slice_bounds-write_all-end-2
slice_bounds-write_all-end-2 c = sym (length-take-le _ _ (slice_bounds-write_all-end c))
