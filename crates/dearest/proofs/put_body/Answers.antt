-- `put_body` meets its contract: all but the last routine call the next one.
use Rattle.std.proofs.Common.{arith}
use Rattle.append.specs.Laws.Putting.{equal_text}
use Rattle.dearest.specs.Laws.Parts.{body_passing, body_opposing}
use Rattle.dearest.proofs.put_body.Goals as goal

pub returns-then-r-n-clause-appends : goal.returns-then-r-n-clause-appends
returns-then-r-n-clause-appends c =
    equal_text (body_passing c.args.n c.args.r (omega arith)) c.put_passing.ensures

pub returns-else-r-n-clause-appends : goal.returns-else-r-n-clause-appends
returns-else-r-n-clause-appends c =
    equal_text (body_opposing c.args.n c.args.r (omega arith)) c.put_opposing.ensures
