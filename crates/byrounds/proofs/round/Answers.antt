-- `round` meets its contract: at each turn the highest routine that is left gets its row of this round.
use Rattle.byrounds.proofs.TurnLaws.{midway_start, chosen, turn_moved, turn_still, midway_end}
use Rattle.byrounds.proofs.round.Goals as goal

pub loop-r-init : goal.loop-r-init
loop-r-init c = rw c.into_iter-r-iterator.ensures.into_iter_gives (midway_start c.requires)

pub worked_out-g-requires : goal.worked_out-g-requires
worked_out-g-requires c =
    let h = chosen c.requires c.loop-r.invariant c.in-Some.ensures.steps in
    (h.start_there, h.body_ready)

pub improve-w-requires : goal.improve-w-requires
improve-w-requires c = (chosen c.requires c.loop-r.invariant c.in-Some.ensures.steps).ready

pub loop-r-preserved-then-w : goal.loop-r-preserved-then-w
loop-r-preserved-then-w c =
    let w = c.improve-w in
    turn_moved c.requires c.loop-r.invariant c.in-Some.ensures.steps (w.ensures _ c.worked_out-g.ensures) w.auto.model

pub loop-r-preserved : goal.loop-r-preserved
loop-r-preserved c =
    let w = c.improve-w in
    turn_still c.requires c.loop-r.invariant c.in-Some.ensures.steps (w.ensures _ c.worked_out-g.ensures) w.auto.model
    c.if-w.false

pub returns-then-changed : goal.returns-then-changed
returns-then-changed c = rw c.if-changed.true at (midway_end c.in-None.ensures.steps.0 c.loop-r.invariant)

pub returns-else-changed : goal.returns-else-changed
returns-else-changed c = (_, rw c.if-changed.false at (midway_end c.in-None.ensures.steps.0 c.loop-r.invariant))
