-- `recorded` meets its contract: for each body that the bytes can be, the grid gained what the items passed record.
use Prim.Native.Nat.{◌-◌}
use lib.ListN.{length}
use Rattle.grid.specs.Grid.{Square}
use Rattle.pairs.specs.Walks.{walk_of}
use Rattle.pairs.proofs.Recording.{Recording}
use Rattle.pairs.proofs.recorded.Given as goal

abbrev pub invariant-loop-s : goal.invariant-loop-s
invariant-loop-s l = record {
  gains : Recording l.t.counts.now l.k l.t.bodies.now l.at l.rows l.initial.g (walk_of l.p l.v) l.g;
  square : Square l.g;
}

abbrev pub decreases-loop-s : goal.decreases-loop-s
decreases-loop-s l = length l.t.bodies.now - l.p.at
