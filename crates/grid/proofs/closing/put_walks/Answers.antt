-- `put_walks` meets its contract: the walks from one name to another that r has not are those that the grid lacks.
use Rattle.grid.proofs.Growing.{walks_grown}
use Rattle.grid.proofs.closing.put_walks.Goals as goal

pub returns-clause-grown : goal.returns-clause-grown
returns-clause-grown c = let a = c.args in
    walks_grown a.g.now _ a.r.now c.close_rows-walks.result c.apart-apart.result c.less.result a.l c.requires.2
    c.close_rows-walks.ensures c.apart-apart.ensures c.less.ensures c.put_plane.ensures.grown
