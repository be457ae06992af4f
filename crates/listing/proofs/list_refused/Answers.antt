-- `list_refused` meets its contract: a refusal's number has ten digits at most, as any of 32 bits.
use Rattle.std.proofs.Common.{arith}
use Rattle.listing.specs.Text.{refused_word}
use Rattle.listing.proofs.LineLaws.{line_short}
use Rattle.listing.proofs.list_refused.Goals as goal

pub returns-clause-few : goal.returns-clause-few
returns-clause-few c =
    let short = line_short 10 refused_word c.from-2.result (omega arith) (omega arith) (omega arith) in
    omega (arith, short, c.put_line.ensures.appends.place)
