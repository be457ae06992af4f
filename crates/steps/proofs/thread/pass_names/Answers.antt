-- `pass_names` meets its contract: the names before the next one are passed.
use Rattle.steps.proofs.Loops.{passed_none, passed_next}
use Rattle.steps.proofs.thread.pass_names.Goals as goal

pub loop-j-init : goal.loop-j-init
loop-j-init c = passed_none _ _ _ _ _

pub loop-j-preserved : goal.loop-j-preserved
loop-j-preserved c = passed_next _ _ _ _ _ _ _ _ c.loop-j.invariant c.name_at-x.ensures.0
