-- `reached` meets its contract: what the mask has is reached, and when no routine is left it has all that is.
use Rattle.std.proofs.Common.{arith, rules}
use Rattle.settle.proofs.ReachLaws.{followed_first, visited, all_reached}
use Rattle.settle.proofs.reach.reached.Goals as goal

pub loop-left-init : goal.loop-left-init
loop-left-init c = followed_first c.args.calls.now c.args.from c.requires
    (omega (arith, c.type_inv.calls c.args.from))

pub offset_bounds-calls-r : goal.offset_bounds-calls-r
offset_bounds-calls-r c =
    let v = visited c.requires c.loop-left.invariant c.highest-r.ensures
    (omega (arith, c.type_inv.calls c.highest-r.result)) in
    let t = v.small in search rules

pub bounds-calls-r : goal.bounds-calls-r
bounds-calls-r c =
    let v = visited c.requires c.loop-left.invariant c.highest-r.ensures
    (omega (arith, c.type_inv.calls c.highest-r.result)) in
    v.there

pub overflow_shl-left : goal.overflow_shl-left
overflow_shl-left c =
    let v = visited c.requires c.loop-left.invariant c.highest-r.ensures
    (omega (arith, c.type_inv.calls c.highest-r.result)) in
    v.small

pub loop-left-smaller : goal.loop-left-smaller
loop-left-smaller c =
    let v = visited c.requires c.loop-left.invariant c.highest-r.ensures
    (omega (arith, c.type_inv.calls c.highest-r.result)) in
    v.less

pub loop-left-preserved : goal.loop-left-preserved
loop-left-preserved c =
    let v = visited c.requires c.loop-left.invariant c.highest-r.ensures
    (omega (arith, c.type_inv.calls c.highest-r.result)) in
    v.again

pub returns : goal.returns
returns c =
    all_reached c.args.calls.now c.args.from c.loop-left.mask c.loop-left.left c.loop-left-test.false c.loop-left.invariant
