-- `put_body` meets its contract: what is written and what is left make the whole text.
use Rattle.std.proofs.Common.{arith}
use Rattle.rewrite.proofs.BodyLaws.{going_end, some_item, fits, going_on}
use Rattle.rewrite.proofs.put_body.Goals as goal

pub put_item-requires : goal.put_item-requires
put_item-requires c =
    let g = c.loop-w.invariant in
    (fits g (omega arith) c.requires, some_item g (omega arith) c.requires, c.requires.places)

pub loop-w-preserved : goal.loop-w-preserved
loop-w-preserved c =
    (going_on c.loop-w.invariant (omega arith) c.put_item.ensures c.requires).0

pub returns : goal.returns
returns c = going_end c.loop-w.invariant (omega arith)
