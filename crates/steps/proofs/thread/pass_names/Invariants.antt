-- `pass_names` meets its contract: the names before the next one are passed.
use Rattle.std.proofs.Common.{◌≡◌}
use Rattle.steps.specs.Records.{passed}
use Rattle.steps.proofs.thread.pass_names.Given as goal

abbrev pub invariant-loop-j : goal.invariant-loop-j
invariant-loop-j l = l.names ≡ passed l.initial.names l.d l.s l.from l.k l.j
