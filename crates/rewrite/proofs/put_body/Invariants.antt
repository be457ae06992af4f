-- `put_body` meets its contract: what is written and what is left make the whole text.
use Rattle.std.proofs.Common.{◌-◌}
use Rattle.rewrite.proofs.BodyLaws.{Going}
use Rattle.rewrite.proofs.put_body.Given as goal

abbrev pub invariant-loop-w : goal.invariant-loop-w
invariant-loop-w l =
    Going l.t.counts.now l.t.bodies.now l.places l.at l.end l.own l.initial.out l.w l.out

abbrev pub decreases-loop-w : goal.decreases-loop-w
decreases-loop-w l = l.end - l.w.at
