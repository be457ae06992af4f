-- `put_rows` meets its contract: after r turns the lines of the first r rows are written.
use Rattle.std.proofs.Common.{arith}
use Rattle.listing.proofs.Laws.Texts.{puts_none, puts_more}
use Rattle.listing.proofs.lines.put_rows.Goals as goal

pub loop-r-init : goal.loop-r-init
loop-r-init c = (omega arith, puts_none _ _)

pub loop-r-preserved : goal.loop-r-preserved
loop-r-preserved c =
    let next = c.put_row.ensures in (omega (arith, next.few), puts_more c.loop-r.r _ c.loop-r.invariant.1 next.appends)
