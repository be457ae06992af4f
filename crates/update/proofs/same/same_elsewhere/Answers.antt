-- `same_elsewhere` meets its contract: what is before the body is compared, and then what is after it.
use Rattle.update.proofs.ElsewhereLaws.{offset_there, can_pass, compared_after, compared_before}
use Rattle.update.proofs.same.same_elsewhere.Goals as goal

pub same_before-requires : goal.same_before-requires
same_before-requires c =
    let t = c.args.new.now in
    let can = c.requires in
    offset_there can.old can.new t.counts.now c.args.old.now.bodies.now t.bodies.now c.args.at can.routine can.old_held
    can.new_body

pub same_after-requires : goal.same_after-requires
same_after-requires c =
    let t = c.args.new.now in
    can_pass t.counts.now c.args.old.now.bodies.now t.bodies.now c.args.at c.requires c.if-same_before.ensures

pub returns-then-same_before : goal.returns-then-same_before
returns-then-same_before c =
    let t = c.args.new.now in
    compared_after t.counts.now c.args.old.now.bodies.now t.bodies.now c.args.at c.same_after.result
    c.if-same_before.ensures c.same_after.ensures

pub returns-else-same_before : goal.returns-else-same_before
returns-else-same_before c =
    let t = c.args.new.now in
    rw c.if-same_before.false
    (compared_before t.counts.now c.args.old.now.bodies.now t.bodies.now c.args.at c.if-same_before.ensures)
