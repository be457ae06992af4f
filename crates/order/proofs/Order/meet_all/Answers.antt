-- `meet_all` meets its contract: meeting what is left to meet meets all, and the bytes counted and those left make the
-- whole.
use Rattle.std.proofs.Common.{rules, arith}
use Rattle.order.specs.Laws.Standing.{passable}
use Rattle.order.proofs.MeetLaws.{meeting_end, any_item, item_here, routine_here}
use Rattle.order.proofs.MeetLaws.{meeting_on, counts_fit, Stepped, stepped_call, stepped_other}
use Rattle.order.proofs.Order.meet_all.Goals as goal
use Rattle.order.proofs.Order.meet_all.Goals.{then-s-i-eq-CALL, else-s-i-eq-CALL}

pub bounds-s-i : goal.bounds-s-i
bounds-s-i c = let h = item_here c.loop-i.invariant (omega arith) c.requires in search rules

pub bounds-s-i-then-s-i-eq-CALL : goal.bounds-s-i-then-s-i-eq-CALL
bounds-s-i-then-s-i-eq-CALL c =
    let h = routine_here c.loop-i.invariant (omega arith) c.requires (search rules) in search rules

pub meet-requires : goal.meet-requires
meet-requires c =
    (c.loop-i.invariant.listed, (routine_here c.loop-i.invariant (omega arith) c.requires (search rules)).1)

pub past-next-requires : goal.past-next-requires
past-next-requires c = passable _ _ _ (any_item c.loop-i.invariant (omega arith) c.requires)

pub bounds-s-i-in-loop-i : goal.bounds-s-i-in-loop-i
bounds-s-i-in-loop-i c = let h = item_here c.loop-i.invariant (omega arith) c.requires in search rules

pub overflow_add-self : goal.overflow_add-self
overflow_add-self c =
    let t = c.args.t.now in
    let z = c.kept_bytes.ensures in
    let stepped : Stepped t.counts.now t.bodies.now c.loop-i.i c.loop-i.self c.if-s-i-eq-CALL.self =
    elim c.if-s-i-eq-CALL.branch [
      | then-s-i-eq-CALL w ↦ rw w.self-is (stepped_call (search rules) w.meet.ensures)
      | else-s-i-eq-CALL w ↦ rw w.self-is (stepped_other (search rules) c.loop-i.invariant.listed)
    ] in
    let h = counts_fit c.loop-i.invariant (omega arith) c.requires c.past-next.ensures _ stepped in
    search rules

pub loop-i-preserved : goal.loop-i-preserved
loop-i-preserved c =
    let t = c.args.t.now in
    let stepped : Stepped t.counts.now t.bodies.now c.loop-i.i c.loop-i.self c.if-s-i-eq-CALL.self =
    elim c.if-s-i-eq-CALL.branch [
      | then-s-i-eq-CALL w ↦ rw w.self-is (stepped_call (search rules) w.meet.ensures)
      | else-s-i-eq-CALL w ↦ rw w.self-is (stepped_other (search rules) c.loop-i.invariant.listed)
    ] in
    rw c.kept_bytes.ensures
    (meeting_on c.loop-i.invariant (omega arith) c.requires c.past-next.ensures _ stepped)

pub returns : goal.returns
returns c = meeting_end c.loop-i.invariant (omega arith)
