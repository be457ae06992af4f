-- `all` meets its contract: the mask has the routines passed so far.
use Rattle.settle.proofs.DueLaws.{all_turn}
use Rattle.std.proofs.Common.{arith}
use Rattle.settle.proofs.due.all.Goals as goal

pub loop-r-preserved : goal.loop-r-preserved
loop-r-preserved c = all_turn c.loop-r.r c.loop-r.mask (omega arith) c.loop-r.invariant
