-- `pass_on` meets its contract: at each turn the cells of the highest routine that is left are copied, and its callers
-- become due.
use Rattle.byrounds.proofs.PassLaws.{passing_start, chosen, passing_turn, passing_end}
use Rattle.byrounds.proofs.pass_on.Goals as goal

pub loop-r-init : goal.loop-r-init
loop-r-init c = λ can. rw c.into_iter-r-iterator.ensures.into_iter_gives (passing_start can)

pub copy_cells-requires : goal.copy_cells-requires
copy_cells-requires c = (chosen c.requires (c.loop-r.invariant c.requires) c.in-Some.ensures.steps).row_there

pub loop-r-preserved : goal.loop-r-preserved
loop-r-preserved c = λ can.
    passing_turn can (c.loop-r.invariant can) c.in-Some.ensures.steps c.copy_cells.ensures

pub returns : goal.returns
returns c = passing_end c.in-None.ensures.steps.0 (c.loop-r.invariant c.requires)
