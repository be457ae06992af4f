-- `Planes::put_named` meets its contract: the loop's turn l adds the walks of plane l.
use Rattle.grid.specs.Grid.{Proper}
use Rattle.grid.specs.Planes.{Grown, InPlanes}
use Rattle.grid.proofs.planes.Planes.put_named.Given as goal

abbrev pub invariant-loop-l : goal.invariant-loop-l
invariant-loop-l l = Proper l.g × Grown l.initial.g (InPlanes l.l l.self.planes) l.g
