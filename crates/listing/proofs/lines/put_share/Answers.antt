-- `put_share` meets its contract: the line of a share is short.
use Rattle.std.proofs.Common.{arith}
use Rattle.listing.proofs.LineLaws.{share_short}
use Rattle.listing.proofs.lines.put_share.Goals as goal

pub returns-clause-few : goal.returns-clause-few
returns-clause-few c =
    let share = c.args.share in
    let few = c.requires.1 in
    let short = share_short share.percent share.remainder share.reached few.percent_few few.whole_exact few.remainder_few
    few.reached_few in
    omega (arith, c.put_line.ensures.appends.place, short)
