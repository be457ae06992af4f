-- `ticks` meets its contract: ticks lead to the records and the machine of each turn.
use Rattle.runner.specs.Ticks.{start, more}
use Rattle.runner.proofs.Laws.States.{not_over}
use Rattle.runner.proofs.ticks.Goals as goal

pub loop-m-init : goal.loop-m-init
loop-m-init c = start

pub loop-m-preserved : goal.loop-m-preserved
loop-m-preserved c =
    let e = c.tick.ensures in
    more c.loop-m.records c.tick.new.records c.loop-m.m c.tick.new.m c.loop-m.invariant
    (not_over c.loop-m.m.stage c.in_default.not-Over) e.stored e.machine e.sized
