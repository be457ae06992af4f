-- `fill` meets its contract: the routines passed so far are told of, and the next body is at the offset.
use Rattle.settle.specs.Laws.Surveys.{Surveying}
use Rattle.settle.proofs.survey.Survey.fill.Given as goal

abbrev pub invariant-loop-r : goal.invariant-loop-r
invariant-loop-r l = Surveying l.t.counts.now l.t.bodies.now l.self.starts l.self.calls l.at l.r
