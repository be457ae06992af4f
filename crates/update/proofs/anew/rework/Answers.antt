-- `rework` meets its contract: the rows of the routines that reach r are cleared, and then worked out.
use Rattle.std.proofs.Common.{arith}
use Rattle.update.proofs.AnewLaws.{can_reach, can_clear, can_settle_due, reworked}
use Rattle.update.proofs.anew.rework.Goals as goal

pub reached-mask-requires : goal.reached-mask-requires
reached-mask-requires c = can_reach c.requires

pub clear_masked-requires : goal.clear_masked-requires
clear_masked-requires c = can_clear c.requires (omega arith) c.reached-mask.ensures

pub settle_due-names-requires : goal.settle_due-names-requires
settle_due-names-requires c = can_settle_due c.requires (omega arith) c.reached-mask.ensures c.clear_masked.ensures

pub returns : goal.returns
returns c =
    reworked c.requires (omega arith) c.reached-mask.ensures c.clear_masked.ensures c.settle_due-names.ensures
