-- `next_due` meets its contract: the highest bit of a mask, and of its part below a place, is a bit of the mask.
use Rattle.settle.specs.Laws.Masks.{has_top, has_below_shift}
use Rattle.settle.proofs.due.next_due.Goals as goal

pub returns-then-below-gt1 : goal.returns-then-below-gt1
returns-then-below-gt1 c = has_below_shift c.args.left c.args.last c.highest.result c.requires.1
    (has_top _ c.highest.result c.highest.ensures)
