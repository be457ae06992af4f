-- `write` meets its contract: a survey tells where the bodies start.
use Rattle.std.proofs.Common.{sym, arith, length-take-le}
use Rattle.table.proofs.Laws.Sections.{few}
use Rattle.writer.proofs.write.Goals as goal

pub shared_ref_as_front-write_at : goal.shared_ref_as_front-write_at
shared_ref_as_front-write_at c = let f = few c.args.t.now.counts.now c.args.t.now.bodies.now c.requires in omega arith

pub slice_bounds-write_at-end : goal.slice_bounds-write_at-end
slice_bounds-write_at-end c =
    let f = few c.args.t.now.counts.now c.args.t.now.bodies.now c.requires in
    sym (length-take-le _ _ (omega arith))
