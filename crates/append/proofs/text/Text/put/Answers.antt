-- `put` meets its contract: after i turns the first i bytes of w are written.
use Rattle.std.proofs.Common.{arith}
use Rattle.append.specs.Laws.Putting.{one_more}
use Rattle.append.proofs.text.Text.put.Goals as goal

pub loop-b-preserved : goal.loop-b-preserved
loop-b-preserved c =
    let f = c.put_byte.ensures.appends.place in
    (omega arith, one_more c.loop-b.b-index c.args.w.now (omega arith) c.loop-b.invariant.1 c.put_byte.ensures)
