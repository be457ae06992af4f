-- `put_verdict` meets its contract: the line of a ring is short.
use Rattle.std.proofs.Common.{arith, subst}
use Rattle.analysis.specs.Answer.{Short}
use Rattle.listing.proofs.LineLaws.{ring_short}
use Rattle.listing.proofs.lines.put_verdict.Goals as goal

pub returns-in-Ring-clause-few : goal.returns-in-Ring-clause-few
returns-in-Ring-clause-few c =
    let ring = c.in-Ring.ring in
    let few = subst Short c.in-Ring.is c.requires.1 in
    let s = ring_short ring.routine ring.name (omega arith) (omega arith) in
    omega (arith, c.put_line-in-Ring.ensures.appends.place, s)
