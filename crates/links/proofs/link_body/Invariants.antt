-- `link_body` meets its contract: every path from the start goes on from each place.
use Rattle.links.proofs.Leaves.{Walking}
use Prim.Native.Nat.{◌-◌}
use lib.ListN.{length}
use Rattle.links.specs.Walks.{begun}
use Rattle.links.proofs.link_body.Given as goal

abbrev pub invariant-loop-w : goal.invariant-loop-w
invariant-loop-w l = Walking l.t.counts.now l.t.bodies.now (begun l.from l.own) l.initial.links l.w l.links

abbrev pub decreases-loop-w : goal.decreases-loop-w
decreases-loop-w l = length l.t.bodies.now - l.w.at
