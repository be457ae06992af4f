-- `clear_masked` meets its contract: at each turn the highest row that is left is cleared.
use Rattle.std.proofs.Common.{arith}
use Rattle.update.proofs.AnewLaws.{there, clearing_turn}
use Rattle.update.proofs.anew.clear_masked.Goals as goal

pub clear-requires : goal.clear-requires
clear-requires c = (omega arith, there c.loop-r.invariant c.in-Some.ensures.steps c.requires)

pub loop-r-preserved : goal.loop-r-preserved
loop-r-preserved c = clearing_turn c.loop-r.invariant c.in-Some.ensures.steps c.clear.ensures
