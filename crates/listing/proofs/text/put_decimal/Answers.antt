-- `put_decimal` meets its contract: one digit, or what the library prints.
use Rattle.std.proofs.Common.{arith}
use Rattle.append.specs.Laws.Putting.{equal_text}
use Rattle.listing.proofs.DecimalLaws.{decimal_one, decimal_printed}
use Rattle.listing.proofs.text.put_decimal.Goals as goal

pub returns-then-n-lt10 : goal.returns-then-n-lt10
returns-then-n-lt10 c = equal_text (decimal_one c.args.n (omega arith)) c.put_byte.ensures

pub returns-else-n-lt10 : goal.returns-else-n-lt10
returns-else-n-lt10 c = let e = decimal_printed c.args.n (omega arith) in equal_text (cc) c.put.ensures
