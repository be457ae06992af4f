-- `put_cell` meets its contract: the line of a pair is short.
use Rattle.std.proofs.Common.{arith}
use Rattle.listing.proofs.LineLaws.{pair_short}
use Rattle.listing.proofs.lines.put_cell.Goals as goal

pub returns-clause-few : goal.returns-clause-few
returns-clause-few c =
    let s = pair_short c.args.r c.args.a c.args.b c.from-v.result (omega arith) (omega arith) (omega arith) (omega arith) in
    omega (arith, c.put_line.ensures.appends.place, s)
