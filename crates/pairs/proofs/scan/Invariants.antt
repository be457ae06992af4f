-- `scan` meets its contract: for each body that the bytes can be, the calls met and those left are all its calls.
use Prim.Native.Nat.{◌-◌}
use lib.ListN.{length}
use Rattle.pairs.proofs.Scanning.{Scanning}
use Rattle.pairs.proofs.scan.Given as goal

abbrev pub invariant-loop-s : goal.invariant-loop-s
invariant-loop-s l = Scanning l.t.counts.now l.t.bodies.now l.at l.i l.top l.calls

abbrev pub decreases-loop-s : goal.decreases-loop-s
decreases-loop-s l = length l.t.bodies.now - l.i
