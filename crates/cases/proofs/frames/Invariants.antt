-- The loop of `frames`: each turn takes a frame off the front of the input.
use Rattle.std.proofs.Common.{length}
use Rattle.cases.proofs.frames.Given as goal

abbrev pub decreases-loop-s : goal.decreases-loop-s
decreases-loop-s g l = length l.s
