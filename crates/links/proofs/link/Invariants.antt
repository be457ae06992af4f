-- `link` meets its contract: the bodies passed so far are linked, and the next is at the offset.
use Rattle.links.specs.Laws.Linking.{Linking}
use Rattle.links.proofs.link.Given as goal

abbrev pub invariant-loop-r : goal.invariant-loop-r
invariant-loop-r l = Linking l.t.counts.now l.t.bodies.now l.heads l.links l.at l.r
