-- `put_item` meets its contract: each arm is the item with that code.
use Rattle.std.proofs.Common.{arith}
use Rattle.order.specs.Laws.Standing.{at_call, item_new, item_mirror, item_lock, item_call, item_mark}
use Rattle.rewrite.proofs.Spot.put_item.Goals as goal

pub put_call-requires : goal.put_call-requires
put_call-requires c =
    (c.requires.0, at_call _ _ _ _ _ c.requires.2 c.requires.1 c.in-6.is)

pub returns-in-1 : goal.returns-in-1
returns-in-1 c = rw (item_new _ _ _ c.in-1.is) (c.put_new.ensures _)

pub returns-in-7 : goal.returns-in-7
returns-in-7 c = rw (item_mirror _ _ _ c.in-7.is) (c.put_mirror.ensures _ _)

pub returns-in-2 : goal.returns-in-2
returns-in-2 c = rw (item_lock _ _ _ c.in-2.is) (c.put_lock.ensures _)

pub returns-in-6 : goal.returns-in-6
returns-in-6 c = rw (item_call _ _ _ c.in-6.is) c.put_call.ensures

pub returns-in_default : goal.returns-in_default
returns-in_default c =
    let a = c.args in
    rw (item_mark a.t.now.counts.now a.t.now.bodies.now a.self.now.at (omega arith) (omega arith) (omega arith) (omega arith)) (c.put_mark.ensures _)
