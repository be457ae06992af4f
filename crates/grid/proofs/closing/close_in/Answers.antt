-- `close_in` meets its contract: nothing follows where there is no pair, and no mix where there is one named label.
use Rattle.grid.specs.Rows.{Edge}
use Rattle.grid.specs.Planes.{Labelled}
use Rattle.grid.proofs.Growing.{walks_same}
use Rattle.grid.proofs.Closed.{none_grown, one_grown, all_grown}
use Rattle.grid.proofs.closing.close_in.Goals as goal

pub returns-then-t-eq0-clause-grown : goal.returns-then-t-eq0-clause-grown
returns-then-t-eq0-clause-grown c = let t = c.of-t in
    none_grown c.args.g.now t.result.rows (rw (t.ensures.same_grid, c.if-t-eq0.true) at t.result.listed)

pub returns-in-Some-clause-grown : goal.returns-in-Some-clause-grown
returns-in-Some-clause-grown c = let t = c.of-t in
    let l = c.in-Some.l in
    let sole = c.in-Some.ensures in
    one_grown c.args.g.now t.result.rows t.result.some l (rw t.ensures.same_grid at t.result.listed) sole.0 sole.1 _
    (walks_same (Edge c.plane-pairs.result) (Labelled c.args.g.now l) l (rw t.ensures.same_grid at c.plane-pairs.ensures)
    c.put_walks.ensures.grown)

pub returns-in-None-clause-grown : goal.returns-in-None-clause-grown
returns-in-None-clause-grown c = all_grown c.args.g.now c.planes-p.result.planes (rw c.of-t.ensures.same_grid at c.planes-p.ensures)
    _ _ c.several-mixes.result c.several-mixes.ensures c.put_named.ensures.grown c.put_plane.ensures.grown
