-- `write_threads` meets its contract: a table has no more routines than there is room for heads.
use Rattle.std.proofs.Common.{arith, sym, length-take-le}
use Rattle.table.proofs.Laws.Sections.{few}
use Rattle.desk.proofs.threads.write_threads.Goals as goal

pub slice_bounds-heads-end : goal.slice_bounds-heads-end
slice_bounds-heads-end g c = let f = few c.args.t.now.counts.now c.args.t.now.bodies.now c.requires in omega arith

pub slice_bounds-stand-end : goal.slice_bounds-stand-end
slice_bounds-stand-end g c =
    let f = few c.args.t.now.counts.now c.args.t.now.bodies.now c.requires in
    sym (length-take-le _ _ (omega arith))
