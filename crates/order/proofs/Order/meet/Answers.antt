-- `meet` meets its contract: a routine that has a place was met, and another one gets the next place.
use Rattle.order.proofs.OrderLaws.{not_some, met_before, place_room, meet_new}
use Rattle.order.proofs.Order.meet.Goals as goal

pub bounds-self-self : goal.bounds-self-self
bounds-self-self c =
    let e = not_some _ (rw c.from-k.ensures at c.if-is_none.ensures) in
    place_room c.args.self.now c.args.r c.requires.0 c.requires.1 e

pub returns-then-is_none : goal.returns-then-is_none
returns-then-is_none c =
    let e = not_some _ (rw c.from-k.ensures at c.if-is_none.ensures) in
    rw c.from-k.ensures (meet_new c.args.self.now c.args.r c.requires.0 c.requires.1 e)

pub returns-else-is_none : goal.returns-else-is_none
returns-else-is_none c =
    met_before c.args.self.now c.args.r c.requires.0 c.requires.1
    (rw c.from-k.ensures at c.if-is_none.ensures)
