-- `put_cells` meets its contract: after b turns the lines of the first b cells are written.
use Rattle.std.proofs.Common.{arith}
use Rattle.listing.proofs.Laws.Texts.{puts_none, puts_more}
use Rattle.listing.proofs.lines.put_cells.Goals as goal

pub loop-b-init : goal.loop-b-init
loop-b-init c = (omega arith, puts_none _ _)

pub loop-b-preserved : goal.loop-b-preserved
loop-b-preserved c =
    let next = c.put_cell.ensures in (omega (arith, next.few), puts_more c.loop-b.b _ c.loop-b.invariant.1 next.appends)
