-- `ticks` meets its contract: ticks lead to the records and the machine of each turn, and each leaves less to do.
use Rattle.runner.specs.Ticks.{course_of, Ticks, left}
use Rattle.runner.proofs.ticks.Given as goal

abbrev pub invariant-loop-m : goal.invariant-loop-m
invariant-loop-m l = Ticks (course_of l.course) l.initial.records l.fn.first l.records l.m

abbrev pub decreases-loop-m : goal.decreases-loop-m
decreases-loop-m l = left (course_of l.course) l.m
