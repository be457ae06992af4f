-- `discover` meets its contract: after i bodies the routines met are those of the definition.
use Rattle.std.proofs.Common.{◌-◌}
use Rattle.table.specs.Constants.{most_routines}
use Rattle.order.proofs.DiscoverLaws.{Finding}
use Rattle.order.proofs.Order.discover.Given as goal

abbrev pub invariant-loop-i : goal.invariant-loop-i
invariant-loop-i l = Finding l.t.counts.now l.t.bodies.now l.starts l.self l.i

abbrev pub decreases-loop-i : goal.decreases-loop-i
decreases-loop-i l = most_routines - l.i
