-- `step` meets its contract: a birth, a byte that does nothing, or the item.
use Rattle.std.proofs.Common.{ap}
use Rattle.steps.specs.Machines.{is_born}
use Rattle.steps.specs.Steps.{pair}
use Rattle.steps.proofs.Steps.{step_born, step_idle, step_item, unborn}
use Rattle.steps.proofs.Course.step.Goals as goal

pub settle-requires : goal.settle-requires
settle-requires c = c.requires.births (ap is_born c.in-Born.is)

pub returns-in-Born : goal.returns-in-Born
returns-in-Born c =
    let s = c.args.self.now in
    step_born s.sections.counts.now s.sections.bodies.now s.heads.now s.links.now s.schedule.now c.args.t.now
    c.begin.new.self c.args.m.now c.settle.new.self (ap is_born c.in-Born.is) c.begin.ensures c.settle.ensures

pub idle-requires : goal.idle-requires
idle-requires c = c.requires.counts (unborn c.args.m.now.stage c.in_default.not-Born)

pub returns-in_default : goal.returns-in_default
returns-in_default c =
    let s = c.args.self.now in
    step_idle s.sections.counts.now s.sections.bodies.now s.heads.now s.links.now s.schedule.now c.args.t.now c.args.m.now
    (pair c.args.t.now c.idle.new.m) (unborn c.args.m.now.stage c.in_default.not-Born) c.if-t.true
    (ap (pair c.args.t.now) c.idle.ensures)

pub item-requires : goal.item-requires
item-requires c = c.requires.items (unborn c.args.m.now.stage c.in_default.not-Born) c.if-t.false

pub returns-in_default-2 : goal.returns-in_default-2
returns-in_default-2 c =
    let s = c.args.self.now in
    step_item s.sections.counts.now s.sections.bodies.now s.heads.now s.links.now s.schedule.now c.args.t.now c.args.m.now
    (pair c.item.new.t c.item.new.m) (unborn c.args.m.now.stage c.in_default.not-Born) c.if-t.false c.item.ensures
