-- `put_row` meets its contract: after a turns the lines of the first a runs of cells are written.
use Rattle.std.proofs.Common.{arith}
use Rattle.listing.proofs.Laws.Texts.{puts_none, puts_more}
use Rattle.listing.proofs.lines.put_row.Goals as goal

pub loop-a-init : goal.loop-a-init
loop-a-init c = (omega arith, puts_none _ _)

pub loop-a-preserved : goal.loop-a-preserved
loop-a-preserved c =
    let next = c.put_cells.ensures in (omega (arith, next.few), puts_more c.loop-a.a _ c.loop-a.invariant.1 next.appends)
